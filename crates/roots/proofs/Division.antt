-- Signed division by a positive number, as the machine has it: what its quotient, its remainder and the test of the remainder's sign are in plain integers.
use mathlib.Core.Path.{◌≡◌, sym, ap, ◌∙◌}
use mathlib.Core.Bool.{Bool, true, false}
use Prim.Native.Nat.{◌≤◌}
use native.Mathlib.Omega.{arith}
use lib.IntN.{ℤ, pos, nat_abs, ◌+ℤ◌, ◌-ℤ◌, ◌*ℤ◌, *ℤ-zero}
use lib.Signed.{◌≤ℤ◌, lt_z, quot_z, rem_z}
use mir.Syntax.{w64}
use mir.Val.{SFits, to_z, bool_byte}
use Rattle.std.proofs.lemmas.Int.{rem_below, quot_fits}
use Rattle.numbers.proofs.Ring.{mul_oneℤ}
use Rattle.numbers.proofs.Parts.{ints, parts_abs, pos_abs}
use Rattle.numbers.proofs.Machine.{stored, stored_id, stored_as, fits_as, abs_fits, fits_abs, literal_as, add_as, sub_as, mul_as, quot_as, rem_as, lt_as, bool_as}
use Rattle.roots.specs.Round.{floor_div}
use Rattle.roots.proofs.Floor.{floor_split, lowered, floor_is, excess_is}

module _ {n d : ℤ} (fn : SFits w64 n) (fd : SFits w64 d) (h : pos 1 ≤ℤ d) where
  divisor_pos : 1 ≤ nat_abs d
  divisor_pos = omega (ints, parts_abs d)

  d_is : stored d ≡ pos (nat_abs d)
  d_is = let p : pos 0 ≤ℤ d = omega ints in stored_as (sym (pos_abs p)) (fits_as (pos_abs p) fd)

  quot_is : quot_z (stored n) (stored d) ≡ quot_z n (pos (nat_abs d))
  quot_is = quot_as (stored_id fn) d_is

  quotient : stored (quot_z (stored n) (stored d)) ≡ quot_z n (pos (nat_abs d))
  quotient = stored_as quot_is (quot_fits w64 n (pos (nat_abs d)) fn (omega (ints, divisor_pos)))

  remainder : stored (rem_z (stored n) (stored d)) ≡ rem_z n (pos (nat_abs d))
  remainder = stored_as (rem_as (stored_id fn) d_is) (abs_fits (omega (arith, rem_below n (pos (nat_abs d)) divisor_pos, fits_abs fd)))

  lowered_is : to_z w64 (bool_byte (lt_z (stored (rem_z (stored n) (stored d))) (pos 0))) ≡ lowered n (nat_abs d)
  lowered_is = bool_as (lt_as remainder (literal_as (pos 0)))

  -- the quotient lowered is the floor
  pub floored : stored (quot_z (stored n) (stored d)) -ℤ to_z w64 (bool_byte (lt_z (stored (rem_z (stored n) (stored d))) (pos 0))) ≡ floor_div n (nat_abs d)
  floored = sub_as quotient lowered_is ∙ floor_is n (nat_abs d) divisor_pos

  -- the remainder raised is what n has above it
  pub raise : stored d *ℤ to_z w64 (bool_byte (lt_z (stored (rem_z (stored n) (stored d))) (pos 0))) ≡ pos (nat_abs d) *ℤ lowered n (nat_abs d)
  raise = mul_as d_is lowered_is

  pub raise_fits : SFits w64 (pos (nat_abs d) *ℤ lowered n (nat_abs d))
  raise_fits = at (lt_z (rem_z n (pos (nat_abs d))) (pos 0))
    where
      at : (b : Bool) → SFits w64 (pos (nat_abs d) *ℤ pos (bool_byte b))
      at true = let p : pos 0 ≤ℤ d = omega ints in rw (mul_oneℤ (pos (nat_abs d)), pos_abs p) fd
      at false = rw *ℤ-zero (abs_fits (omega arith))

  pub raised :
      stored (rem_z (stored n) (stored d)) +ℤ stored (stored d *ℤ to_z w64 (bool_byte (lt_z (stored (rem_z (stored n) (stored d))) (pos 0))))
      ≡ n -ℤ d *ℤ floor_div n (nat_abs d)
  raised =
      let p : pos 0 ≤ℤ d = omega ints in
      add_as remainder (stored_as raise raise_fits) ∙ excess_is n (nat_abs d) divisor_pos ∙ ap (λ (z : ℤ). n -ℤ z *ℤ floor_div n (nat_abs d)) (pos_abs p)

  pub raised_fits : SFits w64 (n -ℤ d *ℤ floor_div n (nat_abs d))
  raised_fits =
      let p : pos 0 ≤ℤ d = omega ints in
      let s = floor_split n (nat_abs d) divisor_pos in
      fits_as (ap (λ (z : ℤ). n -ℤ z *ℤ floor_div n (nat_abs d)) (sym (pos_abs p)))
      (abs_fits (omega (ints, s.low, s.below, fits_abs fd, parts_abs (n -ℤ pos (nat_abs d) *ℤ floor_div n (nat_abs d)))))
