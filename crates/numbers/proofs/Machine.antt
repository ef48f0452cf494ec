-- Signed machine numbers in proofs. A signed local holds bits, so each use of a value z reads it back, `stored z`; the laws here turn that into z,
-- carry such equations through an operation, and say when a number fits 64 bits. Where all bounds are literals, `Chain` does this in one line a step.
use mathlib.Core.Path.{◌≡◌, refl, sym, ap, subst, ◌∙◌}
use mathlib.Core.Bool.{Bool, true, false}
use Prim.Native.Nat.{ℕ, ◌≤◌, ◌<◌}
use native.Mathlib.Omega.{arith}
use lib.Dec.{T}
use lib.IntN.{ℤ, pos, negsuc, nat_abs, ◌+ℤ◌, ◌-ℤ◌, ◌*ℤ◌}
use lib.Signed.{mag, ◌≤ℤ◌, ◌<ℤ◌, lt_z, le_z, quot_z, rem_z, non_neg, yes_non_neg}
use mir.Syntax.{w64}
use mir.Val.{Fits, SFits, to_z, of_z, bool_byte}
use mir.Facts.{to_z_pos, to_z-of_z}
use Rattle.numbers.proofs.Parts.{test_lt, test_ge}

-- what the machine reads back from the bits of z
abbrev pub stored : ℤ → ℤ
stored z = to_z w64 (of_z w64 z)

-- a parameter, a field, an element or a result that fits is read back as it is
pub stored_id : {z : ℤ} → SFits w64 z → to_z w64 (of_z w64 z) ≡ z
stored_id f = to_z-of_z f

-- and so is a value that is known to be y
pub stored_as : {z y : ℤ} → z ≡ y → SFits w64 y → to_z w64 (of_z w64 z) ≡ y
stored_as e f = ap (λ (x : ℤ). to_z w64 (of_z w64 x)) e ∙ to_z-of_z f

-- anything said of two such values
pub stored_both : {A : Type 0} (f : ℤ → ℤ → A) {x y : ℤ} → SFits w64 x → SFits w64 y → f (to_z w64 (of_z w64 x)) (to_z w64 (of_z w64 y)) ≡ f x y
stored_both f p q = λ i. f (to_z-of_z p i) (to_z-of_z q i)

-- ---- fits

mag_le_abs : (z : ℤ) → mag z ≤ nat_abs z
mag_le_abs (pos n) = omega arith
mag_le_abs (negsuc n) = omega arith

-- a magnitude below 2 ^ 63 fits 64 bits, and what fits has a magnitude of at most 2 ^ 63
pub abs_fits : {z : ℤ} → nat_abs z < 9223372036854775808 → SFits w64 z
abs_fits {z} h = record { sfits = omega (arith, mag_le_abs z) }

pub fits_abs : {z : ℤ} → SFits w64 z → nat_abs z ≤ 9223372036854775808
fits_abs {z = pos n} h = omega (arith, h.sfits)
fits_abs {z = negsuc n} h = omega (arith, h.sfits)

pub fits_as : {z y : ℤ} → z ≡ y → SFits w64 y → SFits w64 z
fits_as e f = subst (λ (x : ℤ). SFits w64 x) (sym e) f

-- what a cast to u64 of a number that is not negative asks
pub cast_fits : {z y : ℤ} → z ≡ y → pos 0 ≤ℤ y → nat_abs y < 18446744073709551616 → T (non_neg z) × Fits w64 (nat_abs z)
cast_fits e h k = subst (λ (x : ℤ). T (non_neg x) × Fits w64 (nat_abs x)) (sym e) (yes_non_neg h, record { fits = k })

-- an unsigned number cast to i64, and a bool
pub cast_nat : (n : ℕ) → n < 9223372036854775808 → to_z w64 n ≡ pos n
cast_nat n h = to_z_pos w64 h

pub cast_bool : (b : Bool) → to_z w64 (bool_byte b) ≡ pos (bool_byte b)
cast_bool true = refl
cast_bool false = refl

-- ---- equations through an operation. A literal's is `literal_as z`, since antt infers no number through an operation

pub literal_as : (z : ℤ) → z ≡ z
literal_as z = refl

pub add_as : {a b x y : ℤ} → a ≡ x → b ≡ y → a +ℤ b ≡ x +ℤ y
add_as e f = λ i. e i +ℤ f i

pub sub_as : {a b x y : ℤ} → a ≡ x → b ≡ y → a -ℤ b ≡ x -ℤ y
sub_as e f = λ i. e i -ℤ f i

pub mul_as : {a b x y : ℤ} → a ≡ x → b ≡ y → a *ℤ b ≡ x *ℤ y
mul_as e f = λ i. e i *ℤ f i

pub quot_as : {a b x y : ℤ} → a ≡ x → b ≡ y → quot_z a b ≡ quot_z x y
quot_as e f = λ i. quot_z (e i) (f i)

pub rem_as : {a b x y : ℤ} → a ≡ x → b ≡ y → rem_z a b ≡ rem_z x y
rem_as e f = λ i. rem_z (e i) (f i)

pub lt_as : {a b x y : ℤ} → a ≡ x → b ≡ y → lt_z a b ≡ lt_z x y
lt_as e f = λ i. lt_z (e i) (f i)

pub le_as : {a b x y : ℤ} → a ≡ x → b ≡ y → le_z a b ≡ le_z x y
le_as e f = λ i. le_z (e i) (f i)

pub bool_as : {b d : Bool} → b ≡ d → to_z w64 (bool_byte b) ≡ pos (bool_byte d)
bool_as {d} e = ap (λ (x : Bool). to_z w64 (bool_byte x)) e ∙ cast_bool d

-- ---- a branch on a signed comparison, with what its two sides are

pub branch_lt : {a b x y : ℤ} → a ≡ x → b ≡ y → lt_z a b ≡ true → x <ℤ y
branch_lt e f t = test_lt (sym (lt_as e f) ∙ t)

pub branch_ge : {a b x y : ℤ} → a ≡ x → b ≡ y → lt_z a b ≡ false → y ≤ℤ x
branch_ge e f t = test_ge (sym (lt_as e f) ∙ t)
