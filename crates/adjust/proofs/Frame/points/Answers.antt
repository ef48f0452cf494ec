-- `points`: one point more is written behind those that are there, and none is left at the end.
use Rattle.std.proofs.Common.{◌≡◌, List, [], ◌∷◌, ℕ, ◌+◌, ◌*◌, ◌≤◌, ◌<◌, length, get_or, drop, refl, sym, ap, ◌∙◌, arith}
use mathlib.Core.Path.{Path, subst}
use lib.ListN.{set, replicate, length-set, drop_of_length-le}
use lib.IntN.{ℤ, pos, nat_abs, ◌+ℤ◌, ◌*ℤ◌, +ℤ_assoc, +ℤ_idl}
use lib.Signed.{◌≤ℤ◌}
use Rattle.numbers.specs.Numbers.{put_at, filled}
use Rattle.numbers.proofs.Parts.{ints, parts_add}
use Rattle.numbers.proofs.Sizes.{abs_add}
use Rattle.numbers.proofs.Arrays.{drop_next, put_cons, put_all, written_fits}
use Rattle.numbers.proofs.Machine.{stored, stored_id}
use Rattle.numbers.proofs.Chain.{Value, known, plain, add, mul, fits, kept}
use Rattle.adjust.specs.declared.Point.{Point}
use Rattle.adjust.specs.declared.Section.{Section}
use Rattle.adjust.specs.declared.Frame.{Frame}
use Rattle.adjust.specs.Sizes.{highest, most_q, most_prints, most_sum_q}
use Rattle.adjust.specs.Sections.{no_section}
use Rattle.adjust.specs.Line.{line_length, point_after, points_after, points}
use Rattle.adjust.specs.Frames.{no_point}
use Rattle.adjust.specs.code.Bounds.{LegBounds, Framed, Along, Reached}
use Rattle.adjust.proofs.Lists.{Fit, fit_head, fit_tail, points_length}
use Rattle.adjust.proofs.Bounded.{printed_size}
use Rattle.adjust.proofs.Sized.{long}
use Rattle.adjust.proofs.Frame.points.Invariants.{Going}
use Rattle.adjust.proofs.Frame.points.Goals as goal

abbrev start_point : ℤ → ℤ → Point
start_point number height = record { number = number; distance = pos 0; correction = pos 0; height = height }

-- the height at the start
first : (f : Frame) → Framed f → Value (stored f.prints *ℤ stored f.start) (f.prints *ℤ f.start) (most_prints * highest)
first f h = mul (known f.prints h.prints.most tt) (known f.start h.start tt)

begun : (f : Frame) (number : ℤ) (ss : List Section) → Framed f → Fit ss → f.total ≡ line_length ss
    → let p : Point = start_point number (f.prints *ℤ f.start) in Going f number ss (filled no_point 65 (p ∷ [])) (pos 0) p 0
unfolding put_at
begun f number ss h fit whole =
    record {
      reached = record { height = omega arith; along = record { begun = omega ints; within = omega (ints, h.total.least) }; printed = omega (arith, (first f h).size) };
      fit = fit;
      ends = +ℤ_idl (line_length ss) ∙ sym whole;
      room = refl;
      left = refl;
    }

module _ {f : Frame} {number : ℤ} {ss : List Section} {array : List Point} {q : ℤ} {p : Point} {k : ℕ} (here : k < length ss) (few : length ss ≤ 64) (g : Going f number ss array q p k) where
  abbrev x : Section
  x = get_or ss k no_section

  abbrev others : List Section
  others = drop (k + 1) ss

  rest : drop k ss ≡ x ∷ others
  rest = drop_next ss k no_section here

  fits_next : Fit (x ∷ others)
  fits_next = subst Fit rest g.fit

  leg : LegBounds x
  leg = fit_head x others fits_next

  reached_63 : Reached f 63 q p
  reached_63 = record { height = omega (arith, g.reached.height); along = g.reached.along; printed = g.reached.printed }

  higher : Value (q +ℤ stored x.height) (q +ℤ x.height) most_sum_q
  higher = add (plain q {k = most_q * 63} reached_63.height) (known x.height leg.height tt)

  ends_next : p.distance +ℤ x.distance +ℤ line_length others ≡ f.total
  ends_next = +ℤ_assoc p.distance x.distance (line_length others) ∙ sym (ap (λ (xs : List Section). p.distance +ℤ line_length xs) rest) ∙ g.ends

  -- the sections behind this one are not shorter than nothing
  along : Along f (p.distance +ℤ x.distance)
  along =
      let d : ℤ = p.distance +ℤ x.distance in
      let before : d ≤ℤ (d +ℤ line_length others) = omega (ints, parts_add d (line_length others), long others (fit_tail x others fits_next)) in
      record {
        begun = omega (ints, g.reached.along.begun, leg.long, parts_add p.distance x.distance);
        within = subst (λ (z : ℤ). d ≤ℤ z) ends_next before;
      }

  next : Framed f → let v : Point = point_after f q p.distance p.height x in Going f number ss (set array (k + 1) v) (q +ℤ x.height) v (k + 1)
  next h =
      let v : Point = point_after f q p.distance p.height x in
      let r : nat_abs (q +ℤ x.height) ≤ most_q * (k + 1) = omega (arith, abs_add q x.height, g.reached.height, leg.height) in
      record {
        reached = record { height = r; along = along; printed = printed_size f (q +ℤ x.height) (p.distance +ℤ x.distance) h (omega arith) along };
        fit = fit_tail x others fits_next;
        ends = ends_next;
        room = length-set array (k + 1) v ∙ g.room;
        left =
            put_cons array (k + 1) v (points_after f (q +ℤ x.height) v.distance v.height others) (omega (arith, g.room))
            ∙ sym (ap (λ (xs : List Section). put_at array (k + 1) (points_after f q p.distance p.height xs)) rest)
            ∙ g.left;
      }

pub overflow_mul-point : goal.overflow_mul-point
overflow_mul-point c = fits (first c.args.self c.requires.0) tt

pub loop-k-init : goal.loop-k-init
loop-k-init c =
    let f = c.args.self in
    let n = stored c.args.number in
    let z = c.default-points.ensures in
    let none : Path Point no_point c.default-points.result = λ i. record { number = sym z.0 i; distance = sym z.1.0 i; correction = sym z.1.1.0 i; height = sym z.1.1.1 i } in
    subst (λ (t : ℤ × Point). Going f n c.args.sections.now (set (replicate 65 t.1) 0 (start_point n t.0)) (pos 0) (start_point n t.0) 0)
    (λ i. (sym (kept (first f c.requires.0) tt).is i, none i)) (begun f n c.args.sections.now c.requires.0 c.requires.1.legs c.requires.2)

pub next_point-point-requires : goal.next_point-point-requires
next_point-point-requires c =
    let few = c.requires.1.few in
    let g = c.loop-k.invariant in
    (c.requires.0, reached_63 c.loop-k-test.true few g, leg c.loop-k-test.true few g, along c.loop-k-test.true few g)

pub overflow_add-q : goal.overflow_add-q
overflow_add-q c = fits (higher c.loop-k-test.true c.requires.1.few c.loop-k.invariant) tt

pub loop-k-preserved : goal.loop-k-preserved
loop-k-preserved c =
    let here = c.loop-k-test.true in
    let few = c.requires.1.few in
    let g = c.loop-k.invariant in
    subst (λ (t : ℤ × Point). Going c.args.self (stored c.args.number) c.args.sections.now (set c.loop-k.points (c.loop-k.k + 1) t.1) t.0 t.1 (c.loop-k.k + 1))
    (λ i. (sym (kept (higher here few g) tt).is i, sym c.next_point-point.ensures i)) (next here few g c.requires.0)

all : {f : Frame} {number : ℤ} {ss : List Section} {array : List Point} {q : ℤ} {p : Point} {k : ℕ}
    → length ss ≤ k → length ss ≤ 64 → Going f number ss array q p k → array ≡ filled no_point 65 (points f number ss)
all {f} {number} {ss} {array} {q} {p} {k} past few g =
    put_all array (k + 1) (ap (points_after f q p.distance p.height) (drop_of_length-le ss {i = k} past)) g.left
    ∙ sym (written_fits (points f number ss) (replicate 65 no_point) (omega (arith, few, points_length f (pos 0) (pos 0) (f.prints *ℤ f.start) ss)))

pub returns : goal.returns
returns c =
    all (omega arith) c.requires.1.few c.loop-k.invariant
    ∙ ap (λ (n : ℤ). filled no_point 65 (points c.args.self n c.args.sections.now)) (stored_id c.ranges.number)
