-- Magnitudes: of a negation, a sum, a difference, a product and a square; their parity.
use mathlib.Core.Path.{◌≡◌, refl}
use mathlib.Core.Bool.{true, cond, ◌&&◌}
use Prim.Native.Nat.{ℕ, zero, suc, ◌+◌, ◌-◌, ◌*◌, ◌%◌, ◌≤◌, ◌<◌}
use native.Mathlib.Omega.{arith}
use borrow.Author.Tests.{le-leb}
use lib.Dec.{ltb, ltb→lt, nltb→le, leb→le}
use lib.IntN.{ℤ, pos, negsuc, neg_ℤ, nat_abs, sub_ℕ, ◌+ℤ◌, ◌-ℤ◌, ◌*ℤ◌}
use lib.Signed.{◌≤ℤ◌, le_z}
use Rattle.std.proofs.lemmas.Int.{unsigned_abs-mul}
use Rattle.numbers.specs.Numbers.{within, between}
use Rattle.numbers.proofs.Tests.{by_test, holds, and_l, and_r}
use Rattle.numbers.proofs.Parts.{ints, parts_add, parts_sub, parts_abs, parts_eq, test_le, le_z_true}

abs_subℕ : (a b : ℕ) → nat_abs (sub_ℕ a b) ≡ (a - b) + (b - a)
abs_subℕ a b =
    by_test (ltb a b) (λ t. nat_abs (cond t (negsuc (b - suc a)) (pos (a - b))) ≡ (a - b) + (b - a))
    (λ t. let h : a < b = ltb→lt a b t in omega arith)
    (λ t. let h : b ≤ a = nltb→le a b t in omega arith)

pub abs_neg : (a : ℤ) → nat_abs (neg_ℤ a) ≡ nat_abs a
abs_neg (pos zero) = refl
abs_neg (pos (suc n)) = refl
abs_neg (negsuc n) = refl

pub abs_add : (a b : ℤ) → nat_abs (a +ℤ b) ≤ nat_abs a + nat_abs b
abs_add (pos a) (pos b) = omega arith
abs_add (pos a) (negsuc b) = omega (arith, abs_subℕ a (suc b))
abs_add (negsuc a) (pos b) = omega (arith, abs_subℕ b (suc a))
abs_add (negsuc a) (negsuc b) = omega arith

pub abs_sub : (a b : ℤ) → nat_abs (a -ℤ b) ≤ nat_abs a + nat_abs b
abs_sub a b = omega (arith, abs_add a (neg_ℤ b), abs_neg b)

-- the distance of two naturals
pub abs_sub_pos : (a b : ℕ) → nat_abs (pos a -ℤ pos b) ≡ (a - b) + (b - a)
abs_sub_pos a zero = omega arith
abs_sub_pos a (suc b) = abs_subℕ a (suc b)

pub abs_mul : (a b : ℤ) → nat_abs (a *ℤ b) ≡ nat_abs a * nat_abs b
abs_mul a b = unsigned_abs-mul a b

-- a square is its magnitude's
pub square_abs : (a : ℤ) → a *ℤ a ≡ pos (nat_abs a * nat_abs a)
square_abs (pos a) = refl
square_abs (negsuc a) = refl

-- two numbers at no distance are equal
pub abs_apart : (a b : ℤ) → nat_abs (a -ℤ b) ≡ 0 → a ≡ b
abs_apart a b h = parts_eq a b (omega (arith, parts_sub a b, parts_abs (a -ℤ b)))

-- of a sum and its terms, and of a difference and its terms, an even count is odd
pub parity_add : (a b : ℤ) → (nat_abs (a +ℤ b) + nat_abs a + nat_abs b) % 2 ≡ 0
parity_add a b = omega (arith, parts_add a b, parts_abs (a +ℤ b), parts_abs a, parts_abs b)

pub parity_sub : (a b : ℤ) → (nat_abs (a -ℤ b) + nat_abs a + nat_abs b) % 2 ≡ 0
parity_sub a b = omega (arith, parts_sub a b, parts_abs (a -ℤ b), parts_abs a, parts_abs b)

-- a number between 0 and k, and one within k
pub between_size : (n : ℕ) (x : ℤ) (k : ℕ) → between (pos n) x (pos k) ≡ true → nat_abs x ≤ k
between_size n x k e =
    let low : pos n ≤ℤ x = test_le (and_l (le_z (pos n) x) (le_z x (pos k)) e) in
    let high : x ≤ℤ pos k = test_le (and_r (le_z (pos n) x) (le_z x (pos k)) e) in
    omega (ints, parts_abs x)

pub within_size : (x : ℤ) (k : ℕ) → within x k ≡ true → nat_abs x ≤ k
within_size x k e = leb→le (nat_abs x) k (holds e)

pub between_true : {low x high : ℤ} → low ≤ℤ x → x ≤ℤ high → between low x high ≡ true
between_true h k = λ i. le_z_true h i && le_z_true k i

pub within_true : (x : ℤ) (k : ℕ) → nat_abs x ≤ k → within x k ≡ true
within_true x k h = le-leb (nat_abs x) k h
