-- A chain of signed operations, followed as the code has it, with a literal that bounds each magnitude: that a result fits 64 bits is then computed.
-- `fits (..) tt` answers an operation's need, `kept (..) tt` is a value that a later operation reads, and `.is` says what it is in plain integers.
use mathlib.Core.Path.{◌≡◌, refl, sym, subst}
use Prim.Native.Nat.{ℕ, ◌+◌, ◌*◌, ◌≤◌}
use native.Mathlib.Nat.{le_refl, le_trans, mul-le-mul, add-le-add}
use native.Mathlib.Omega.{arith}
use lib.Dec.{T, ltb, ltb→lt}
use lib.IntN.{ℤ, pos, nat_abs, ◌+ℤ◌, ◌-ℤ◌, ◌*ℤ◌}
use mir.Syntax.{w64}
use mir.Val.{SFits, to_z}
use Rattle.numbers.proofs.Sizes.{abs_add, abs_sub, abs_mul}
use Rattle.numbers.proofs.Machine.{stored, stored_id, stored_as, abs_fits, fits_as, cast_nat}

-- the machine's term z is the integer y, whose magnitude is at most k
pub record Value (z y : ℤ) (k : ℕ) : Type 0 where
  pub is : z ≡ y
  pub size : nat_abs y ≤ k

-- k is below 2 ^ 63: computed, so `tt` at a literal
abbrev pub Small : ℕ → Type 0
Small k = T (ltb k 9223372036854775808)

-- ---- where a chain begins

-- a parameter, a field, an element or a call's result whose size is known
pub known : (y : ℤ) {k : ℕ} → nat_abs y ≤ k → Small k → Value (stored y) y k
known y {k} h t = record { is = stored_id (abs_fits (omega (arith, ltb→lt k 9223372036854775808 t))); size = h }

-- an unsigned number cast to i64
pub cast : (n : ℕ) {k : ℕ} → n ≤ k → Small k → Value (to_z w64 n) (pos n) k
cast n {k} h t = record { is = cast_nat n (omega (arith, ltb→lt k 9223372036854775808 t)); size = h }

-- a plain integer, where only sizes are followed
pub plain : (y : ℤ) {k : ℕ} → nat_abs y ≤ k → Value y y k
plain y h = record { is = refl; size = h }

pub literal : (y : ℤ) → Value y y (nat_abs y)
literal y = record { is = refl; size = le_refl (nat_abs y) }

-- ---- its steps

pub add : {a b x y : ℤ} {k m : ℕ} → Value a x k → Value b y m → Value (a +ℤ b) (x +ℤ y) (k + m)
add {x} {y} s t = record { is = λ i. s.is i +ℤ t.is i; size = le_trans (abs_add x y) (add-le-add s.size t.size) }

pub sub : {a b x y : ℤ} {k m : ℕ} → Value a x k → Value b y m → Value (a -ℤ b) (x -ℤ y) (k + m)
sub {x} {y} s t = record { is = λ i. s.is i -ℤ t.is i; size = le_trans (abs_sub x y) (add-le-add s.size t.size) }

pub mul : {a b x y : ℤ} {k m : ℕ} → Value a x k → Value b y m → Value (a *ℤ b) (x *ℤ y) (k * m)
mul {x} {y} {k} {m} s t =
    record {
      is = λ i. s.is i *ℤ t.is i;
      size = subst (λ (n : ℕ). n ≤ k * m) (sym (abs_mul x y)) (mul-le-mul s.size t.size);
    }

-- ---- what it gives

value_fits : {z y : ℤ} {k : ℕ} → Value z y k → Small k → SFits w64 y
value_fits {k} s t = abs_fits (omega (arith, ltb→lt k 9223372036854775808 t, s.size))

pub fits : {z y : ℤ} {k : ℕ} → Value z y k → Small k → SFits w64 z
fits s t = fits_as s.is (value_fits s t)

pub kept : {z y : ℤ} {k : ℕ} → Value z y k → Small k → Value (stored z) y k
kept s t = record { is = stored_as s.is (value_fits s t); size = s.size }
