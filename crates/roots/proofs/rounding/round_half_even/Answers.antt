-- 1 is added to the floor where what is left over it is above half of the divisor, or half of it and the floor is odd.
use mathlib.Core.Path.{◌≡◌, refl, sym, ap, ◌∙◌}
use mathlib.Core.Bool.{Bool, true, false, cond}
use Prim.Native.Nat.{ℕ, zero, suc, ◌+◌, ◌*◌, ◌%◌, ◌≤◌, ◌<◌}
use native.Mathlib.Omega.{arith}
use lib.Dec.{ltb}
use lib.IntN.{ℤ, pos, negsuc, nat_abs, ◌+ℤ◌, ◌-ℤ◌, ◌*ℤ◌, +ℤ_idr}
use lib.Signed.{lt_z, rem_z}
use mir.Syntax.{w64}
use mir.Val.{SFits, to_z, bool_byte}
use Rattle.numbers.proofs.Parts.{ints, parts_abs, pos_abs}
use Rattle.numbers.proofs.Sizes.{abs_neg, square_abs}
use Rattle.numbers.proofs.Machine.{stored, stored_id, stored_as, fits_as, abs_fits, literal_as, add_as, mul_as, rem_as, lt_as, bool_as}
use Rattle.roots.specs.Round.{round_even, floor_div, greatest_divisor, divisor}
use Rattle.roots.proofs.Floor.{floor_split, floor_fits}
use Rattle.roots.proofs.RoundLaws.{round_fits, divisor_range}
use Rattle.roots.proofs.rounding.round_half_even.Goals as goal

-- ---- in plain integers

abs_rem : (q : ℤ) → nat_abs (rem_z q (pos 2)) ≡ nat_abs q % 2
abs_rem (pos a) = refl
abs_rem (negsuc a) = abs_neg (pos (suc a % 2))

-- the remainder by 2 is 1, 0 or −1, so its square is 1 where q is odd
odd_is : (q : ℤ) → rem_z q (pos 2) *ℤ rem_z q (pos 2) ≡ pos (nat_abs q % 2)
odd_is q = square_abs (rem_z q (pos 2)) ∙ ap pos ((λ i. abs_rem q i * abs_rem q i) ∙ bit (nat_abs q))
  where
    one : (x : ℕ) → x ≤ 1 → x * x ≡ x
    one zero h = refl
    one (suc zero) h = refl
    one (suc (suc x)) h = absurd (omega arith)

    bit : (x : ℕ) → (x % 2) * (x % 2) ≡ x % 2
    bit x = one (x % 2) (omega arith)

-- what is left over the floor
abbrev left : ℤ → ℕ → ℕ
left n d = nat_abs (n -ℤ pos d *ℤ floor_div n d)

-- whether the result is above the floor
abbrev up : ℤ → ℕ → Bool
up n d = ltb d (2 * left n d + nat_abs (floor_div n d) % 2)

stepped : (b : Bool) (q : ℤ) → q +ℤ pos (bool_byte b) ≡ cond b (q +ℤ pos 1) q
stepped true q = refl
stepped false q = +ℤ_idr q

rounds : (n : ℤ) (d : ℕ) → floor_div n d +ℤ pos (bool_byte (up n d)) ≡ round_even n d
unfolding round_even
rounds n d = stepped (up n d) (floor_div n d)

-- ---- as the machine has it

-- n, and what the three calls gave: the divisor, the floor and what is left over it
record Given (n e q r : ℤ) (d : ℕ) : Type 0 where
  n_fits : SFits w64 n
  low : 1 ≤ d
  high : d ≤ greatest_divisor
  e_is : e ≡ pos d
  q_is : q ≡ floor_div n d
  r_is : r ≡ n -ℤ pos d *ℤ floor_div n d

module _ {n e q r : ℤ} {d : ℕ} (g : Given n e q r d) where
  left_below : left n d < d
  left_below =
      let s = floor_split n d g.low in
      omega (ints, s.low, s.below, parts_abs (n -ℤ pos d *ℤ floor_div n d))

  divisor_as : stored e ≡ pos d
  divisor_as = stored_as g.e_is (abs_fits (omega (arith, g.high)))

  floor_as : stored q ≡ floor_div n d
  floor_as = stored_as g.q_is (floor_fits n d g.n_fits)

  left_as : stored r ≡ pos (left n d)
  left_as = stored_as (g.r_is ∙ sym (pos_abs (floor_split n d g.low).low)) (abs_fits (omega (arith, left_below, g.high)))

  odd_as : stored (rem_z (stored q) (pos 2)) ≡ rem_z (floor_div n d) (pos 2)
  odd_as = stored_as (rem_as floor_as (literal_as (pos 2))) (abs_fits (omega (arith, abs_rem (floor_div n d))))

  double_as : pos 2 *ℤ stored r ≡ pos (2 * left n d)
  double_as = mul_as (literal_as (pos 2)) left_as

  double_fits : SFits w64 (pos (2 * left n d))
  double_fits = abs_fits (omega (arith, left_below, g.high))

  square_as : stored (rem_z (stored q) (pos 2)) *ℤ stored (rem_z (stored q) (pos 2)) ≡ pos (nat_abs (floor_div n d) % 2)
  square_as = mul_as odd_as odd_as ∙ odd_is (floor_div n d)

  square_fits : SFits w64 (pos (nat_abs (floor_div n d) % 2))
  square_fits = abs_fits (omega arith)

  sum_as :
      stored (pos 2 *ℤ stored r) +ℤ stored (stored (rem_z (stored q) (pos 2)) *ℤ stored (rem_z (stored q) (pos 2)))
      ≡ pos (2 * left n d + nat_abs (floor_div n d) % 2)
  sum_as = add_as (stored_as double_as double_fits) (stored_as square_as square_fits)

  sum_fits : SFits w64 (pos (2 * left n d + nat_abs (floor_div n d) % 2))
  sum_fits = abs_fits (omega (arith, left_below, g.high))

  result_as :
      stored q
      +ℤ to_z w64 (bool_byte (lt_z (stored e) (stored (stored (pos 2 *ℤ stored r) +ℤ stored (stored (rem_z (stored q) (pos 2)) *ℤ stored (rem_z (stored q) (pos 2)))))))
      ≡ round_even n d
  result_as = add_as floor_as (bool_as (lt_as divisor_as (stored_as sum_as sum_fits))) ∙ rounds n d

  result_fits : SFits w64 (round_even n d)
  result_fits = round_fits n d g.low g.n_fits

-- ---- the goals, in the order of the code

given : (c : goal.After-excess_of-r) → Given c.args.n c.divisor_of-e.result c.floor_of-q.result c.excess_of-r.result (divisor c.args.d)
given c =
    let n = stored_id c.ranges.n in
    let is : c.divisor_of-e.result ≡ pos (divisor c.args.d) = c.divisor_of-e.ensures ∙ ap (λ (z : ℤ). pos (divisor z)) (stored_id c.ranges.d) in
    let e = stored_as is (abs_fits (omega (arith, divisor_range c.args.d))) in
    record {
      n_fits = c.ranges.n;
      low = (divisor_range c.args.d).0;
      high = (divisor_range c.args.d).1;
      e_is = is;
      q_is = c.floor_of-q.ensures ∙ (λ i. floor_div (n i) (nat_abs (e i)));
      r_is = c.excess_of-r.ensures ∙ (λ i. n i -ℤ e i *ℤ floor_div (n i) (nat_abs (e i)));
    }

pub overflow_mul-result : goal.overflow_mul-result
overflow_mul-result c = fits_as (double_as (given c)) (double_fits (given c))

pub overflow_add-result : goal.overflow_add-result
overflow_add-result c = fits_as (sum_as (given c)) (sum_fits (given c))

pub overflow_add-result-2 : goal.overflow_add-result-2
overflow_add-result-2 c = fits_as (result_as (given c)) (result_fits (given c))

pub returns : goal.returns
returns c = stored_as (result_as (given c)) (result_fits (given c))
