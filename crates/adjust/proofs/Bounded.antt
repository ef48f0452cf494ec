-- How large the heights of a line of up to 64 sections can be, exact and printed, and t of a section.
use mathlib.Core.Path.{◌≡◌, subst}
use Prim.Native.Nat.{ℕ, ◌*◌, ◌≤◌, ◌<◌}
use native.Mathlib.Nat.{le_refl, mul-le-mul, mul-le-mul_left}
use native.Mathlib.Omega.{arith}
use lib.IntN.{ℤ, pos, neg_ℤ, nat_abs, ◌*ℤ◌}
use lib.Signed.{◌≤ℤ◌}
use Rattle.numbers.proofs.Parts.{ints, parts_abs, parts_neg, parts_times, pos_abs}
use Rattle.numbers.proofs.Sizes.{abs_neg, abs_mul}
use Rattle.numbers.proofs.Chain.{plain, literal, add, sub, mul}
use Rattle.roots.specs.Round.{round_even, divisor, greatest_divisor}
use Rattle.roots.proofs.RoundLaws.{round_mono, round_exact, round_neg, round_size, divisor_in}
use Rattle.adjust.specs.declared.Section.{Section}
use Rattle.adjust.specs.declared.Frame.{Frame}
use Rattle.adjust.specs.Sizes.{most_d, most_t, most_sum_q, most_l, most_printed}
use Rattle.adjust.specs.Line.{exact_top, printed_height, accidental}
use Rattle.adjust.specs.code.Bounds.{OneTo, Framed, Along, LegBounds}

-- from 1 on
pub one_some : {k : ℕ} {n : ℤ} → OneTo k n → 0 < nat_abs n
one_some {n} h = omega (ints, h.least, parts_abs n)

pub one_is : {k : ℕ} {n : ℤ} → OneTo k n → pos (nat_abs n) ≡ n
one_is {n} h = let low : pos 0 ≤ℤ n = omega (ints, h.least) in pos_abs low

-- a product of two such is a divisor that rounding takes as it is
pub divides : {j k : ℕ} {m n : ℤ} → OneTo j m → OneTo k n → j * k ≤ greatest_divisor → divisor (m *ℤ n) ≡ nat_abs (m *ℤ n)
divides {j} {k} {m} {n} g h fits =
    let some : 1 ≤ nat_abs m * nat_abs n = mul-le-mul (one_some g) (one_some h) in
    let most : nat_abs m * nat_abs n ≤ j * k = mul-le-mul g.most h.most in
    let above : pos 1 ≤ℤ pos (nat_abs m * nat_abs n) = omega ints in
    divisor_in (m *ℤ n) (subst (λ (z : ℤ). pos 1 ≤ℤ z) (λ i. one_is g i *ℤ one_is h i) above) (omega (arith, abs_mul m n, most))

-- what is within k times the divisor is rounded to within k
round_within : (n : ℤ) (d k : ℕ) → 0 < d → nat_abs n ≤ d * k → nat_abs (round_even n d) ≤ k
round_within n d k some h =
    let low = rw (round_neg n d some) at (most (neg_ℤ n) (omega (arith, abs_neg n))) in
    omega (ints, most n h, low, parts_neg (round_even n d), parts_abs (round_even n d))
  where
    most : (m : ℤ) → nat_abs m ≤ d * k → round_even m d ≤ℤ pos k
    most m g =
        let high : m ≤ℤ (pos d *ℤ pos k) = omega (ints, parts_abs m, parts_times d (pos k)) in
        rw (round_exact (pos k) d some) at (round_mono m (pos d *ℤ pos k) d some high)

-- a distance on the line
pub along_size : (f : Frame) (s : ℤ) → Framed f → Along f s → nat_abs s ≤ most_l
along_size f s h a = omega (ints, h.total.most, a.begun, a.within, parts_abs s, parts_abs f.total)

module _ (f : Frame) (q s : ℤ) (h : Framed f) (hq : nat_abs q ≤ most_sum_q) (hs : Along f s) where
  abbrev l : ℕ
  l = nat_abs f.total

  -- each part is a multiple of L at most, since s is on the line
  exact_size : nat_abs (exact_top f q s) ≤ most_printed * l
  exact_size =
      let length = plain f.total (le_refl l) in
      let on : nat_abs s ≤ l = omega (ints, hs.begun, hs.within, parts_abs s, parts_abs f.total) in
      let top = mul (plain f.prints h.prints.most)
      (sub (add (mul (mul (plain f.units h.units.most) (plain f.start h.start)) length) (mul (plain q hq) length)) (mul (plain f.closure h.closure) (plain s on))) in
      omega (arith, top.size)

  pub printed_size : nat_abs (printed_height f q s) ≤ most_printed
  printed_size =
      let divisor = abs_mul f.units f.total in
      let long : l ≤ nat_abs (f.units *ℤ f.total) = omega (arith, divisor, mul-le-mul (one_some h.units) (le_refl l)) in
      let some : 0 < nat_abs (f.units *ℤ f.total) = omega (arith, long, one_some h.total) in
      round_within (exact_top f q s) (nat_abs (f.units *ℤ f.total)) most_printed some (omega (arith, exact_size, mul-le-mul_left most_printed long))

-- t of a section in the wider range
pub accidental_size : (squared : ℕ) (x : Section) → 0 < squared → nat_abs x.discrepancy ≤ most_d → LegBounds x → nat_abs (accidental squared x) ≤ most_t
accidental_size squared x some d h =
    let long : 0 < nat_abs x.distance = omega (ints, h.long, parts_abs x.distance) in
    let divides : 0 < squared * nat_abs x.distance = mul-le-mul some long in
    let top = mul (literal (pos 500000)) (mul (plain x.discrepancy d) (plain x.discrepancy d)) in
    omega (arith, round_size (pos 500000 *ℤ (x.discrepancy *ℤ x.discrepancy)) (squared * nat_abs x.distance) divides, top.size)
