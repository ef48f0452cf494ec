-- A turn of the loop that reads digits, what a minus makes of a number, and powers of ten.
use mathlib.Core.Path.{◌≡◌, refl, ap, ◌∙◌}
use mathlib.Core.Bool.{Bool, false, cond}
use mathlib.Core.List.{List}
use Prim.Native.Nat.{ℕ, zero, suc, ◌+◌, ◌-◌, ◌*◌, ◌^◌, ◌≤◌, ◌<◌}
use native.Mathlib.Nat.{pow-suc, pow-le-pow_right}
use native.Mathlib.Numerals.{add-one}
use native.Mathlib.Omega.{arith}
use borrow.Author.Tests.{le-leb, lt-leb}
use lib.IntN.{ℤ, pos, negsuc, ◌-ℤ◌, +ℤ_idl}
use lib.Signed.{◌≤ℤ◌, ◌<ℤ◌}
use lib.ListN.{length, drop, get_or, drop_of_length-le}
use mir.Syntax.{w64}
use mir.Val.{SFits}
use Rattle.numbers.proofs.Parts.{ints}
use Rattle.numbers.proofs.Machine.{fits_as}
use Rattle.numbers.proofs.Arrays.{drop_next}
use Rattle.std.specs.Prelude.{Some, None}
use Rattle.columns.specs.Decimals.{value_of}
use Rattle.columns.specs.code.Parser.{is_digit, all_digits, digit_run, negated}
use Rattle.columns.proofs.Digits.{digit_yes}

-- ---- digits

digit_low : (b : ℕ) → b < 48 → is_digit b ≡ false
digit_low b h = simp (lt-leb 48 b h)

digit_high : (b : ℕ) → 57 < b → is_digit b ≡ false
digit_high b h = let l : 48 ≤ b = omega arith in simp (le-leb 48 b l, lt-leb b 57 h)

module _ (bs : List ℕ) (i : ℕ) (h : i < length bs) where
  all_turn : all_digits (drop i bs) ≡ cond (is_digit (get_or bs i 0)) (all_digits (drop (i + 1) bs)) false
  unfolding all_digits
  all_turn = ap all_digits (drop_next bs i 0 h)

  pub all_next : 48 ≤ get_or bs i 0 → get_or bs i 0 ≤ 57 → all_digits (drop i bs) ≡ all_digits (drop (i + 1) bs)
  all_next l k = all_turn ∙ ap (λ (t : Bool). cond t (all_digits (drop (i + 1) bs)) false) (digit_yes (get_or bs i 0) l k)

  pub all_low : get_or bs i 0 < 48 → all_digits (drop i bs) ≡ false
  all_low k = all_turn ∙ ap (λ (t : Bool). cond t (all_digits (drop (i + 1) bs)) false) (digit_low (get_or bs i 0) k)

  pub all_high : 57 < get_or bs i 0 → all_digits (drop i bs) ≡ false
  all_high k = all_turn ∙ ap (λ (t : Bool). cond t (all_digits (drop (i + 1) bs)) false) (digit_high (get_or bs i 0) k)

  pub value_next : (n : ℕ) → value_of n (drop i bs) ≡ value_of (10 * n + (get_or bs i 0 - 48)) (drop (i + 1) bs)
  unfolding value_of
  value_next n = ap (value_of n) (drop_next bs i 0 h)

module _ (bs : List ℕ) where
  pub run_bad : all_digits bs ≡ false → digit_run bs ≡ None
  unfolding digit_run
  run_bad e = ap (λ (t : Bool). cond t (Some (pos (value_of 0 bs))) None) e

  pub run_number : (n i : ℕ) → length bs ≤ i → all_digits bs ≡ all_digits (drop i bs) → value_of 0 bs ≡ value_of n (drop i bs) → digit_run bs ≡ Some (pos n)
  unfolding digit_run all_digits value_of
  run_number n i h a v =
      let e = drop_of_length-le bs h in
      ap (λ (t : Bool). cond t (Some (pos (value_of 0 bs))) None) (a ∙ ap all_digits e) ∙ ap (λ (m : ℕ). Some (pos m)) (v ∙ ap (value_of n) e)

-- ---- a minus before a number

pub minus_above : (z : ℤ) → pos 0 <ℤ z → Some (pos 0 -ℤ z) ≡ negated (Some z)
unfolding negated
minus_above (pos zero) h = absurd (omega ints)
minus_above (pos (suc n)) h = ap (λ (x : ℤ). Some x) (+ℤ_idl (negsuc n))
minus_above (negsuc n) h = absurd (omega ints)

pub minus_none : (z : ℤ) → z ≤ℤ pos 0 → None ≡ negated (Some z)
unfolding negated
minus_none (pos zero) h = refl
minus_none (pos (suc n)) h = absurd (omega ints)
minus_none (negsuc n) h = refl

pub minus_fits : (z : ℤ) → SFits w64 z → pos 0 <ℤ z → SFits w64 (pos 0 -ℤ z)
minus_fits (pos zero) f h = absurd (omega ints)
minus_fits (pos (suc n)) f h = fits_as (+ℤ_idl (negsuc n)) (record { sfits = omega (arith, f.sfits) })
minus_fits (negsuc n) f h = absurd (omega ints)

-- ---- powers of ten: eighteen digits fit an i64

pub power_next : (i : ℕ) → 10 ^ (i + 1) ≡ 10 ^ i * 10
power_next i = rw add-one (pow-suc 10 i)

pub power_17 : (i : ℕ) → i ≤ 17 → 10 ^ i ≤ 100000000000000000
power_17 i h = pow-le-pow_right {n = 10} (omega arith) h

pub power_18 : (i : ℕ) → i ≤ 18 → 10 ^ i ≤ 1000000000000000000
power_18 i h = pow-le-pow_right {n = 10} (omega arith) h
