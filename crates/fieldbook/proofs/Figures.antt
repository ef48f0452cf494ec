-- How large the figures of a line can be: W, and the height and the correction of a point; and that T is not below 0.
use mathlib.Core.Path.{◌≡◌, ap}
use mathlib.Core.Bool.{Bool, true, false, cond}
use mathlib.Core.List.{List, [], ◌∷◌}
use Prim.Native.Nat.{ℕ, ◌+◌, ◌*◌, ◌≤◌, ◌<◌}
use native.Mathlib.Nat.{le_refl, mul-le-mul, le_of_mul-le-mul_left}
use native.Mathlib.Omega.{arith}
use lib.IntN.{ℤ, pos, nat_abs, ◌+ℤ◌, ◌-ℤ◌, ◌*ℤ◌}
use lib.Signed.{◌≤ℤ◌}
use Rattle.numbers.specs.Numbers.{within}
use Rattle.numbers.proofs.Tests.{and_l, and_r}
use Rattle.numbers.proofs.All.{All, all_head}
use Rattle.numbers.proofs.Parts.{ints, neg_part, parts_add, parts_sub, parts_times, parts_abs}
use Rattle.numbers.proofs.Sizes.{abs_add, abs_sub, abs_mul, square_abs, within_size}
use Rattle.roots.proofs.RoundLaws.{round_mono, round_exact}
use Rattle.station.specs.declared.Staffs.{Staffs}
use Rattle.station.specs.declared.Staffs.TheVariants.{Nominal, Measured}
use Rattle.station.specs.Station.{scale_of}
use Rattle.adjust.specs.declared.terms.Class.{Class}
use Rattle.adjust.specs.declared.terms.Class.TheVariants.{Third, Fourth, Spur}
use Rattle.adjust.specs.declared.Section.{Section}
use Rattle.adjust.specs.declared.Frame.{Frame}
use Rattle.adjust.specs.declared.Verdict.{Verdict}
use Rattle.adjust.specs.declared.Verdict.TheVariants.{NotGiven, Within, Above}
use Rattle.adjust.specs.Line.{units_of, exact_top, accidental, section_error, accidental_sum, verdict_number}
use Rattle.adjust.proofs.Lists.{Fit, fit_head, fit_tail}
use Rattle.adjust.specs.declared.prints.PrintUnit.{PrintUnit}
use Rattle.adjust.specs.declared.prints.PrintUnit.TheVariants.{Millimetres, Tenths}
use Rattle.adjust.specs.Prints.{prints_of}
use Rattle.adjust.specs.declared.terms.Terms.{Terms}
use Rattle.adjust.specs.Sizes.{most_l}
use Rattle.adjust.specs.Terms.{terms_by}
use Rattle.rules.specs.Rules.{closure_within}
use Rattle.rules.proofs.Finished.{root_size}
use Rattle.ledger.proofs.Runs.{narrow}

-- ---- sections

-- levelled with the staffs c
pub record Narrow (c : Staffs) (x : Section) : Type 0 where
  pub number : nat_abs x.number ≤ 9999
  pub height : nat_abs x.height ≤ 4802400 * scale_of c

pub narrow_head : (c : Staffs) (x : Section) (xs : List Section) → All (narrow c) (x ∷ xs) → Narrow c x
narrow_head c x xs e =
    let n = within x.number 9999 in
    let q = within x.height (4802400 * scale_of c) in
    let h = all_head (narrow c) x xs e in
    record { number = within_size x.number 9999 (and_l n q h); height = within_size x.height (4802400 * scale_of c) (and_r n q h) }

-- ---- the line

-- t and T are not below 0
accidental_low : (squared : ℕ) → 0 < squared → (x : Section) → pos 1 ≤ℤ x.distance → pos 0 ≤ℤ accidental squared x
accidental_low squared u x long =
    let d : ℕ = squared * nat_abs x.distance in
    let square : ℤ = x.discrepancy *ℤ x.discrepancy in
    let far : 0 < nat_abs x.distance = omega (ints, parts_abs x.distance) in
    let some : 0 < d = mul-le-mul u far in
    let above : (pos d *ℤ pos 0) ≤ℤ (pos 500000 *ℤ square) =
    omega (ints, parts_times d (pos 0), parts_times 500000 square, ap neg_part (square_abs x.discrepancy)) in
    rw (round_exact (pos 0) d some) at (round_mono (pos d *ℤ pos 0) (pos 500000 *ℤ square) d some above)

pub sum_low : (terms : Terms) (squared : ℕ) → 0 < squared → (ss : List Section) → Fit ss → pos 0 ≤ℤ accidental_sum terms squared ss
sum_low terms squared u [] f = omega ints
sum_low terms squared u (x ∷ xs) f =
    omega (ints, parts_add (section_error terms squared x) (accidental_sum terms squared xs), low terms.double, sum_low terms squared u xs (fit_tail x xs f))
  where
    low : (t : Bool) → pos 0 ≤ℤ cond t (accidental squared x) (pos 0)
    low true = accidental_low squared u x (fit_head x xs f).long
    low false = omega ints

pub verdict_small : (v : Verdict) → verdict_number v ≤ 2
verdict_small NotGiven = omega arith
verdict_small Within = omega arith
verdict_small Above = omega arith

-- W, by the test 36, of a line of 64 sections at most
abbrev pub most_closure : Staffs → ℕ
most_closure c = 80000 * scale_of c

pub closure_small : (c : Staffs) (o : Class) (w l : ℤ) → closure_within (terms_by c o) w l ≡ true → l ≤ℤ pos most_l → nat_abs w ≤ most_closure c
closure_small Nominal Third w l e h = root_size 625 w 72 l 80000 (omega arith) e (omega (ints, parts_times 72 l))
closure_small Nominal Fourth w l e h = root_size 25 w 8 l 80000 (omega arith) e (omega (ints, parts_times 8 l))
closure_small Nominal Spur w l e h = root_size 25 w 8 l 80000 (omega arith) e (omega (ints, parts_times 8 l))
closure_small (Measured first second) Third w l e h = root_size 625 w 7200 l 800000 (omega arith) e (omega (ints, parts_times 7200 l))
closure_small (Measured first second) Fourth w l e h = root_size 25 w 800 l 800000 (omega arith) e (omega (ints, parts_times 800 l))
closure_small (Measured first second) Spur w l e h = root_size 25 w 800 l 800000 (omega arith) e (omega (ints, parts_times 800 l))

-- ---- a point, at running sums that are within the line's

mul_small : (a b : ℤ) (m n : ℕ) → nat_abs a ≤ m → nat_abs b ≤ n → nat_abs (a *ℤ b) ≤ m * n
mul_small a b m n h k = rw (abs_mul a b) (mul-le-mul h k)

-- a number by another and their difference, or their sum
by_difference : (a b : ℤ) → nat_abs a ≤ nat_abs (a -ℤ b) + nat_abs b
by_difference a b = omega (arith, parts_sub a b, parts_abs (a -ℤ b), parts_abs a, parts_abs b)

by_sum : (a b : ℤ) → nat_abs a ≤ nat_abs (a +ℤ b) + nat_abs b
by_sum a b = omega (arith, parts_add a b, parts_abs (a +ℤ b), parts_abs a, parts_abs b)

-- with Q and W in the units of the staffs, and heights in the print unit
abbrev pub printed : Staffs → PrintUnit → ℤ → ℤ → ℤ → Frame
printed c unit start closing total = record { units = units_of c; prints = pos (prints_of unit); start = start; closure = closing; total = total }

pub some_scale : (c : Staffs) → 0 < scale_of c
some_scale Nominal = omega arith
some_scale (Measured first second) = omega arith

some_prints : (unit : PrintUnit) → 0 < prints_of unit
some_prints Millimetres = omega arith
some_prints Tenths = omega arith

module _ (c : Staffs) (unit : PrintUnit) (start closing total : ℤ) (begins : nat_abs start ≤ 8999999) (closes : nat_abs closing ≤ most_closure c) (long : pos 1 ≤ℤ total) where
  abbrev f : Frame
  f = printed c unit start closing total

  abbrev k : ℕ
  k = scale_of c

  abbrev p : ℕ
  p = prints_of unit

  abbrev l : ℕ
  l = nat_abs total

  some : 0 < l
  some = omega (ints, parts_abs total)

  divisor : nat_abs (units_of c *ℤ total) ≡ 4 * k * l
  divisor = abs_mul (units_of c) total

  -- 4 × 8,999,999 for the start, 64 × 4,802,400 for the sections and 80,000 for W, by the parts of the constants
  exact_small : (q s : ℤ) → nat_abs q ≤ 307353600 * k → nat_abs s ≤ l → nat_abs (exact_top f q s) ≤ p * (343433596 * (k * l))
  exact_small q s hq hs =
      let b = units_of c *ℤ start in
      let begin : nat_abs b ≤ 4 * k * 8999999 = mul_small (units_of c) start (4 * k) 8999999 (omega arith) begins in
      mul_small (pos p) (b *ℤ total +ℤ q *ℤ total -ℤ closing *ℤ s) p (343433596 * (k * l)) (omega arith) (omega (
        arith,
        abs_sub (b *ℤ total +ℤ q *ℤ total) (closing *ℤ s),
        abs_add (b *ℤ total) (q *ℤ total),
        mul_small b total (4 * k * 8999999) l begin (omega arith),
        mul_small q total (307353600 * k) l hq (omega arith),
        mul_small closing s (most_closure c) l closes hs,
      ))

  pub height_small : (q s h : ℤ) → nat_abs q ≤ 307353600 * k → nat_abs s ≤ l
      → 2 * nat_abs (units_of c *ℤ total *ℤ h -ℤ exact_top f q s) ≤ nat_abs (units_of c *ℤ total) → nat_abs h ≤ 85858400 * p
  height_small q s h hq hs near = le_of_mul-le-mul_left by_length both
    where
      both : 0 < k * l
      both = mul-le-mul (some_scale c) some

      product : nat_abs (units_of c *ℤ total *ℤ h) ≡ 4 * k * l * nat_abs h
      product = rw (abs_mul (units_of c *ℤ total) h, divisor)

      more : 1 * (k * l) ≤ p * (k * l)
      more = mul-le-mul (some_prints unit) (le_refl (k * l))

      by_length : k * l * nat_abs h ≤ k * l * (85858400 * p)
      by_length = omega (arith, more, near, divisor, product, exact_small q s hq hs, by_difference (units_of c *ℤ total *ℤ h) (exact_top f q s))

  pub correction_small : (x r : ℤ) → nat_abs r ≤ l → nat_abs (x *ℤ total +ℤ pos p *ℤ closing *ℤ r) ≤ nat_abs (units_of c *ℤ total) → nat_abs x ≤ 80004 * k * p
  correction_small x r hr near = le_of_mul-le-mul_left by_length some
    where
      share : nat_abs (pos p *ℤ closing *ℤ r) ≤ p * most_closure c * l
      share = mul_small (pos p *ℤ closing) r (p * most_closure c) l (mul_small (pos p) closing p (most_closure c) (omega arith) closes) hr

      more : 1 * (k * l) ≤ p * (k * l)
      more = mul-le-mul (some_prints unit) (le_refl (k * l))

      by_length : l * nat_abs x ≤ l * (80004 * k * p)
      by_length = omega (arith, more, near, divisor, abs_mul x total, share, by_sum (x *ℤ total) (pos p *ℤ closing *ℤ r))
