-- Each number that the report prints of a closed line fits its field.
use mathlib.Core.Path.{◌≡◌, refl, sym, ap, subst, ◌∙◌}
use mathlib.Core.Bool.{Bool, true, cond}
use mathlib.Core.List.{List, [], ◌∷◌}
use Prim.Native.Nat.{ℕ, ◌+◌, ◌*◌, ◌≤◌, ◌<◌}
use native.Mathlib.Nat.{le_trans, mul-le-mul, mul-le-mul_left}
use native.Mathlib.Omega.{arith}
use lib.ListN.{length}
use lib.IntN.{ℤ, pos, nat_abs, ◌+ℤ◌, ◌*ℤ◌}
use lib.Signed.{◌≤ℤ◌, lt_z}
use Rattle.numbers.proofs.Tests.{by_test, is_false, not-false}
use Rattle.numbers.proofs.All.{All, all_cons, all_tail}
use Rattle.numbers.proofs.Parts.{ints, parts_add, parts_abs, test_ge}
use Rattle.numbers.proofs.Sizes.{abs_add, abs_mul}
use Rattle.station.specs.declared.Staffs.{Staffs}
use Rattle.station.specs.Station.{scale_of}
use Rattle.station.proofs.Sizes.{scale_size}
use Rattle.adjust.specs.declared.terms.Class.{Class}
use Rattle.adjust.specs.declared.Point.{Point}
use Rattle.adjust.specs.declared.Summary.{Summary}
use Rattle.adjust.specs.declared.Section.{Section}
use Rattle.adjust.specs.Claims.{Near, next_section}
use Rattle.adjust.specs.declared.terms.Terms.{Terms}
use Rattle.adjust.specs.Sizes.{most_l}
use Rattle.adjust.specs.declared.Frame.{Frame}
use Rattle.adjust.specs.declared.prints.PrintUnit.{PrintUnit}
use Rattle.adjust.specs.declared.prints.PrintUnit.TheVariants.{Millimetres, Tenths}
use Rattle.adjust.specs.Prints.{prints_of}
use Rattle.adjust.specs.Line.{units_of, line_frame, Closing, closing, closure, line_length, point_after, points_after, section_points, printed_height, verdict_number}
use Rattle.adjust.proofs.Lines.{line_near}
use Rattle.adjust.proofs.Lists.{Fit, fit_head, fit_tail, fitted_legs}
use Rattle.adjust.proofs.Sized.{long, length_size, in_range_lem, prints_in}
use Rattle.columns.specs.Decimals.{fits_in}
use Rattle.columns.specs.Lines.{width_of, all_fit, columns_of, line_fits}
use Rattle.columns.proofs.Fields.{fits_within}
use Rattle.columns.proofs.Lines.{columns_range, fits_room, height_fits}
use Rattle.rules.specs.declared.Stage.TheVariants.{Closed}
use Rattle.rules.specs.LineState.{LineState}
use Rattle.adjust.specs.Terms.{squared_of, terms_of, terms_by}
use Rattle.rules.specs.declared.call.Call.{Call}
use Rattle.rules.specs.declared.call.Call.TheVariants.{OpenLine as open_line, OpenSpur as open_spur, Collimation as collimation, Constants as constants, LiftSection as lift_section, Station as station, EndRun as end_run, DropRun as drop_run, DropSection as drop_section, CloseLine as close_line, CloseSpur as close_spur}
use Rattle.rules.specs.Rules.{closure_within}
use Rattle.ledger.specs.Plain as Plain
use Rattle.ledger.specs.Claims.{ClosedBy, by_end, by_fin}
use Rattle.ledger.specs.Plain.{Reading, fresh_reading, after, figures_of, plain_state}
use Rattle.rules.proofs.Tables.{fails}
use Rattle.ledger.proofs.Runs.{narrow}
use Rattle.ledger.proofs.Kept.{Kept, calls_kept}
use Rattle.ledger.proofs.Every.{every_list}
use Rattle.fieldbook.specs.Report.{shown_t, point_numbers, wide_point}
use Rattle.fieldbook.specs.Fits.{closed_fits, point_fits, FiguresFit}
use Rattle.fieldbook.proofs.Figures.{narrow_head, some_scale, sum_low, verdict_small, most_closure, closure_small, printed, height_small, correction_small}

-- ---- fields

-- a number of seven digits and a minus
abbrev Small : ℤ → Type 0
Small z = nat_abs z ≤ 9999999

pub small_fits : (z : ℤ) → Small z → fits_in 8 z ≡ true
small_fits z h = fits_within 7 z (omega arith) (omega (arith, parts_abs z)) (omega (arith, parts_abs z))

-- one of eight digits without
abbrev Long : ℤ → Type 0
Long z = (pos 0 ≤ℤ z) × (z ≤ℤ pos 99999999)

long_fits : (z : ℤ) → Long z → fits_in 8 z ≡ true
long_fits z h = fits_within 7 z (omega arith) (omega (ints, h.0, h.1, parts_abs z)) (omega (ints, h.0, h.1, parts_abs z))

-- as T is printed
shown_long : (t : ℤ) → pos 0 ≤ℤ t → Long (shown_t t)
shown_long t h =
    by_test (lt_z (pos 99999999) t) (λ b. Long (cond b (pos 99999999) t))
    (λ b. (omega ints, omega ints)) (λ b. (h, test_ge {a = pos 99999999} {b = t} (is_false b)))

closed_fits_lem : (s : Summary) → Small s.closure → Long s.distance → s.count ≤ 64 → pos 0 ≤ℤ s.accidental → closed_fits s ≡ true
unfolding line_fits columns_of all_fit width_of
closed_fits_lem s w l n t =
    rw (
      small_fits s.closure w,
      long_fits s.distance l,
      small_fits (pos s.count) (omega arith),
      long_fits (shown_t s.accidental) (shown_long s.accidental t),
      small_fits (pos (verdict_number s.verdict)) (omega (arith, verdict_small s.verdict)),
    )

-- in tenths sixteen columns, in millimetres as the height is
height_fits_lem : (unit : PrintUnit) (p : Point) → nat_abs p.height ≤ 99999999 * prints_of unit → fits_in (width_of (wide_point unit p) 0) p.height ≡ true
unfolding width_of
height_fits_lem Millimetres p h = height_fits p.height (omega (arith, parts_abs p.height)) (omega (arith, parts_abs p.height))
height_fits_lem Tenths p h = fits_within 15 p.height (omega arith) (omega (arith, parts_abs p.height)) (omega (arith, parts_abs p.height))

point_fits_lem : (unit : PrintUnit) (p : Point) → Small p.number → Long p.distance → Small p.correction → nat_abs p.height ≤ 99999999 * prints_of unit → point_fits unit p ≡ true
unfolding all_fit width_of
point_fits_lem unit p n d c h =
    let wide = wide_point unit p in
    fits_room 3 (point_numbers p) wide (omega (arith, columns_range wide 4))
    ∙ rw (
      small_fits p.number n,
      long_fits p.distance d,
      small_fits p.correction c,
      height_fits_lem unit p h,
    )

-- both factors of a correction
factors : (c : Staffs) (unit : PrintUnit) → scale_of c * prints_of unit ≤ 10 * 10
factors c unit = mul-le-mul (scale_size c) (prints_in unit).most

-- ---- the points of a line

module _ (c : Staffs) (unit : PrintUnit) (start closed total : ℤ) (begins : nat_abs start ≤ 8999999) (closes : nat_abs closed ≤ most_closure c) (some : pos 1 ≤ℤ total) (short : total ≤ℤ pos most_l) where
  abbrev f : Frame
  f = printed c unit start closed total

  abbrev k : ℕ
  k = scale_of c

  -- after running sums q and s, with the sums of the sections that follow still within those of a line
  points_fit_lem : (q s h : ℤ) (xs : List Section) → Fit xs → All (narrow c) xs
      → nat_abs q + 4802400 * k * length xs ≤ 307353600 * k → pos 0 ≤ℤ s → (s +ℤ line_length xs) ≤ℤ total
      → Near f q s xs (points_after f q s h xs) → All (point_fits unit) (points_after f q s h xs)
  points_fit_lem q s h [] fit n hq hs ht near = refl
  points_fit_lem q s h (x ∷ xs) fit n hq hs ht (next_section height correction near) =
      let leg = fit_head x xs fit in
      let here = narrow_head c x xs n in
      let q₂ : ℤ = q +ℤ x.height in
      let s₂ : ℤ = s +ℤ x.distance in
      let g : ℤ = printed_height f q₂ s₂ in
      let rest : pos (length xs) ≤ℤ line_length xs = long xs (fit_tail x xs fit) in
      let forward : pos 0 ≤ℤ s₂ = omega (ints, leg.long, parts_add s x.distance) in
      let on : (s₂ +ℤ line_length xs) ≤ℤ total =
      omega (ints, ht, parts_add s x.distance, parts_add s₂ (line_length xs), parts_add s (line_length (x ∷ xs)), parts_add x.distance (line_length xs)) in
      let in_line : nat_abs s₂ ≤ nat_abs total = omega (ints, forward, on, rest, parts_add s₂ (line_length xs), parts_abs s₂, parts_abs total) in
      let part : nat_abs x.distance ≤ nat_abs s₂ = omega (ints, hs, leg.long, parts_add s x.distance, parts_abs s₂, parts_abs x.distance) in
      let sum : nat_abs q₂ + 4802400 * k * length xs ≤ 307353600 * k = omega (arith, hq, here.height, abs_add q x.height) in
      all_cons (point_fits unit) (point_after f q s h x) (points_after f q₂ s₂ g xs)
      (point_fits_lem unit (point_after f q s h x) (omega (arith, here.number)) (forward, omega (ints, in_line, short, some, parts_abs total, parts_abs s₂))
      (omega (arith, factors c unit, correction_small c unit start closed total begins closes some (point_after f q s h x).correction x.distance (le_trans part in_line) correction))
      (omega (arith, height_small c unit start closed total begins closes some q₂ s₂ g (omega (arith, sum)) in_line height)))
      (points_fit_lem q₂ s₂ g xs (fit_tail x xs fit) (all_tail (narrow c) x xs n) sum forward on near)

-- ---- a line that is closed, whose W is small

module _ (v : LineState) (i : Kept v) (shut : v.line.stage ≡ Closed) (small : nat_abs (line_frame v.line.opening v.line.end v.sections).closure ≤ most_closure v.line.opening.staffs) where
  abbrev c : Staffs
  c = v.line.opening.staffs

  abbrev unit : PrintUnit
  unit = v.line.opening.print_unit

  abbrev p : ℕ
  p = prints_of unit

  abbrev start : ℤ
  start = v.line.opening.start.height

  abbrev ss : List Section
  ss = v.sections

  abbrev framed : Frame
  framed = line_frame v.line.opening v.line.end ss

  abbrev gave : Closing
  gave = closing v.line.opening v.line.end ss

  four : 0 < 4
  four = omega arith

  fit : Fit ss
  fit = fitted_legs ss i.fit

  some : pos 1 ≤ℤ line_length ss
  some = omega (ints, long ss fit, i.closed shut)

  short : line_length ss ≤ℤ pos most_l
  short = omega (ints, length_size ss fit, i.few, parts_abs (line_length ss))

  begins : nat_abs start ≤ 8999999
  begins = in_range_lem start i.start

  summary_fits : closed_fits gave.summary ≡ true
  summary_fits =
      let terms : Terms = terms_of v.line.opening.class in
      closed_fits_lem gave.summary (omega (arith, mul-le-mul_left p small, factors c unit, abs_mul (pos p) framed.closure)) (omega (ints, some), omega (ints, short)) i.few
      (sum_low terms (squared_of c) (mul-le-mul (some_scale c) (some_scale c)) ss fit)

  all_fit_lem : All (point_fits unit) gave.points
  all_fit_lem =
      all_cons (point_fits unit) _ (section_points framed ss)
      (point_fits_lem unit _ (omega (arith, i.number)) (omega ints, omega ints) (omega arith) (omega (arith, mul-le-mul_left p begins, abs_mul (pos p) start)))
      (points_fit_lem c unit start framed.closure (line_length ss) begins small some short (pos 0) (pos 0) (pos p *ℤ start) ss fit i.narrow_sections (omega (arith, mul-le-mul_left (4802400 * scale_of c) i.few)) (omega ints)
      (omega (ints, parts_add (pos 0) (line_length ss))) (line_near (4 * scale_of c) (mul-le-mul four (some_scale c)) (pos p) ss some start framed.closure))

-- W is small where END was taken, by the test 36, and 0 where FIN was
closed_small : (r : Reading) (c : Call) → ClosedBy r c → Plain.refusal r c ≡ 0 → Kept (plain_state (Plain.taken r c))
    → let v : LineState = plain_state (Plain.taken r c) in nat_abs (line_frame v.line.opening v.line.end v.sections).closure ≤ most_closure v.line.opening.staffs
closed_small r (close_line n end) (by_end m h tied) e k =
    let v : LineState = plain_state r in
    let class : Class = r.opening.class in
    let l : ℤ = line_length v.sections in
    let c : Staffs = r.opening.staffs in
    let w : ℤ = closure (units_of c) r.opening.start.height end v.sections in
    let short : l ≤ℤ pos most_l = omega (ints, length_size v.sections (fitted_legs v.sections k.fit), k.few, parts_abs l) in
    let small : nat_abs w ≤ most_closure c = closure_small c class w l (not-false (closure_within (terms_by c class) w l) (fails v (close_line n end) e 36)) short in
    subst (λ (t : Bool). nat_abs (cond t w (pos 0)) ≤ most_closure c) (sym tied) small
closed_small r (close_spur n) (by_fin m loose) e k =
    let v : LineState = plain_state r in
    subst (λ (t : Bool). nat_abs (cond t (closure (units_of r.opening.staffs) r.opening.start.height (pos 0) v.sections) (pos 0)) ≤ most_closure r.opening.staffs) (sym loose) (omega arith)
closed_small r (open_line _ _ _ _ _) never e k = elim never [ ]
closed_small r (station _ _ _) never e k = elim never [ ]
closed_small r (end_run _) never e k = elim never [ ]
closed_small r drop_run never e k = elim never [ ]
closed_small r drop_section never e k = elim never [ ]
closed_small r (open_spur _ _ _ _ _) never e k = elim never [ ]
closed_small r (collimation _) never e k = elim never [ ]
closed_small r (constants _ _) never e k = elim never [ ]
closed_small r lift_section never e k = elim never [ ]

pub figures_fit_lem : FiguresFit
figures_fit_lem calls e =
    let c = every_list calls e in
    let r : Reading = after fresh_reading c.before in
    let kept : Kept (plain_state (Plain.taken r c.call)) = subst (λ (s : Reading). Kept (plain_state s)) c.stays (calls_kept calls) in
    let shut : (Plain.taken r c.call).stage ≡ Closed = ap (λ (s : Reading). s.stage) (sym c.stays) ∙ e in
    let v : LineState = plain_state (Plain.taken r c.call) in
    let small = closed_small r c.call c.closes c.accepted kept in
    subst (λ (s : Reading). (closed_fits (figures_of s).summary ≡ true) × All (point_fits s.opening.print_unit) (figures_of s).points) (sym c.stays)
    (summary_fits v kept shut small, all_fit_lem v kept shut small)
