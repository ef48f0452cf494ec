-- ℤ for omega, which reads naturals only: every integer is its positive part less its negative part, one of which is 0.
-- `omega ints` reads and proves `≤ℤ` and `<ℤ`; each sum, difference, multiple and magnitude in play goes into its list as one fact of this file.
use mathlib.Core.Path.{◌≡◌, refl, sym, ap, ◌∙◌}
use mathlib.Core.Bool.{true, false, cond}
use Prim.Native.Nat.{ℕ, zero, suc, ◌+◌, ◌-◌, ◌*◌, ◌≤◌, ◌<◌, max}
use native.Mathlib.Decide.{dec_le}
use native.Mathlib.Nat.{mul-zero}
use native.Mathlib.Omega.{arith}
use lib.Dec.{ltb, leb→le, le→leb, ltb→lt, lt→ltb, nltb→le}
use lib.IntN.{ℤ, pos, negsuc, neg_ℤ, nat_abs, sub_ℕ, ◌+ℤ◌, ◌-ℤ◌, ◌*ℤ◌}
use lib.Signed.{◌≤ℤ◌, ◌<ℤ◌, lt_z, le_z, lt_z_yes, lt_z_no, le_z_yes, clash_ℤ, yes_non_neg, pos-nat_abs}
use Rattle.numbers.proofs.Tests.{by_test, holds, fails, is_true, not_both}

abbrev pub pos_part : ℤ → ℕ
pos_part (pos n) = n
pos_part (negsuc n) = 0

abbrev pub neg_part : ℤ → ℕ
neg_part (pos n) = 0
neg_part (negsuc n) = suc n

-- ---- the parts of what is computed

parts_subℕ : (a b : ℕ) → pos_part (sub_ℕ a b) + b ≡ neg_part (sub_ℕ a b) + a
parts_subℕ a b =
    by_test (ltb a b)
    (λ t. pos_part (cond t (negsuc (b - suc a)) (pos (a - b))) + b ≡ neg_part (cond t (negsuc (b - suc a)) (pos (a - b))) + a)
    (λ t. let h : a < b = ltb→lt a b t in omega arith)
    (λ t. let h : b ≤ a = nltb→le a b t in omega arith)

pub parts_add : (a b : ℤ) → pos_part (a +ℤ b) + (neg_part a + neg_part b) ≡ neg_part (a +ℤ b) + (pos_part a + pos_part b)
parts_add (pos a) (pos b) = omega arith
parts_add (pos a) (negsuc b) = omega (arith, parts_subℕ a (suc b))
parts_add (negsuc a) (pos b) = omega (arith, parts_subℕ b (suc a))
parts_add (negsuc a) (negsuc b) = omega arith

pub parts_neg : (a : ℤ) → (pos_part (neg_ℤ a) ≡ neg_part a) × (neg_part (neg_ℤ a) ≡ pos_part a)
parts_neg (pos zero) = (refl, refl)
parts_neg (pos (suc n)) = (refl, refl)
parts_neg (negsuc n) = (refl, refl)

pub parts_sub : (a b : ℤ) → pos_part (a -ℤ b) + (neg_part a + pos_part b) ≡ neg_part (a -ℤ b) + (pos_part a + neg_part b)
parts_sub a b = omega (arith, parts_add a (neg_ℤ b), parts_neg b)

-- a multiple by a natural
pub parts_times : (k : ℕ) (b : ℤ) → (pos_part (pos k *ℤ b) ≡ k * pos_part b) × (neg_part (pos k *ℤ b) ≡ k * neg_part b)
parts_times k (pos b) = (refl, sym (mul-zero k))
parts_times k (negsuc b) = ((parts_neg (pos (k * suc b))).0 ∙ sym (mul-zero k), (parts_neg (pos (k * suc b))).1)

-- the magnitude is the sum of the parts, and the larger of them: so one of them is 0
pub parts_abs : (a : ℤ) → (nat_abs a ≡ pos_part a + neg_part a) × (nat_abs a ≡ max (pos_part a) (neg_part a))
parts_abs (pos n) = (omega arith, omega arith)
parts_abs (negsuc n) = (omega arith, omega arith)

-- ---- equality and order by the parts

pub parts_eq : (a b : ℤ) → pos_part a + neg_part b ≡ pos_part b + neg_part a → a ≡ b
parts_eq (pos a) (pos b) h = ap pos (omega arith)
parts_eq (pos a) (negsuc b) h = absurd (omega arith)
parts_eq (negsuc a) (pos b) h = absurd (omega arith)
parts_eq (negsuc a) (negsuc b) h = ap negsuc (omega arith)

pub le_parts : {a b : ℤ} → a ≤ℤ b → pos_part a + neg_part b ≤ pos_part b + neg_part a
le_parts {a = pos a} {b = pos b} h = omega (arith, leb→le a b h.le)
le_parts {a = pos a} {b = negsuc b} h = absurd h.le
le_parts {a = negsuc a} {b = pos b} h = omega arith
le_parts {a = negsuc a} {b = negsuc b} h = omega (arith, leb→le b a h.le)

pub parts_le : {a b : ℤ} → pos_part a + neg_part b ≤ pos_part b + neg_part a → a ≤ℤ b
parts_le {a = pos a} {b = pos b} h = record { le = le→leb a b (omega arith) }
parts_le {a = pos a} {b = negsuc b} h = absurd (omega arith)
parts_le {a = negsuc a} {b = pos b} h = record { le = tt }
parts_le {a = negsuc a} {b = negsuc b} h = record { le = le→leb b a (omega arith) }

pub lt_parts : {a b : ℤ} → a <ℤ b → pos_part a + neg_part b < pos_part b + neg_part a
lt_parts {a = pos a} {b = pos b} h = omega (arith, ltb→lt a b h.lt)
lt_parts {a = pos a} {b = negsuc b} h = absurd h.lt
lt_parts {a = negsuc a} {b = pos b} h = omega arith
lt_parts {a = negsuc a} {b = negsuc b} h = omega (arith, ltb→lt b a h.lt)

pub parts_lt : {a b : ℤ} → pos_part a + neg_part b < pos_part b + neg_part a → a <ℤ b
parts_lt {a = pos a} {b = pos b} h = record { lt = lt→ltb a b (omega arith) }
parts_lt {a = pos a} {b = negsuc b} h = absurd (omega arith)
parts_lt {a = negsuc a} {b = pos b} h = record { lt = tt }
parts_lt {a = negsuc a} {b = negsuc b} h = record { lt = lt→ltb b a (omega arith) }

-- for omega: reads and proves orders of integers
pub ruleset ints = (arith, le_parts, parts_le, lt_parts, parts_lt)

-- a number below 0 has no positive part
pub no_pos_part : {z : ℤ} → z <ℤ pos 0 → pos_part z ≡ 0
no_pos_part {z = pos n} h = omega ints
no_pos_part {z = negsuc n} h = refl

-- ---- tests of integers, to and from facts

pub test_lt : {a b : ℤ} → lt_z a b ≡ true → a <ℤ b
test_lt e = lt_z_yes (holds e)

pub test_ge : {a b : ℤ} → lt_z a b ≡ false → b ≤ℤ a
test_ge e = lt_z_no (fails e)

pub test_le : {a b : ℤ} → le_z a b ≡ true → a ≤ℤ b
test_le e = le_z_yes (holds e)

pub le_z_true : {a b : ℤ} → a ≤ℤ b → le_z a b ≡ true
le_z_true h = is_true h.le

pub le_z_false : {a b : ℤ} → b <ℤ a → le_z a b ≡ false
le_z_false {a} {b} h = by_test (le_z a b) (λ t. t ≡ false) (λ t. clash_ℤ h (le_z_yes t)) (λ t. refl)

pub test_gt : {a b : ℤ} → le_z a b ≡ false → b <ℤ a
test_gt {a} {b} e = go (dec_le (pos_part a + neg_part b) (pos_part b + neg_part a))
  where
    go : Dec (pos_part a + neg_part b ≤ pos_part b + neg_part a) → b <ℤ a
    go (yes p) = absurd (not_both (le_z_true {a = a} {b = b} (parts_le p)) e)
    go (no f) = omega ints

-- an integer that is not negative is its magnitude
pub pos_abs : {z : ℤ} → pos 0 ≤ℤ z → pos (nat_abs z) ≡ z
pos_abs {z} h = pos-nat_abs z (yes_non_neg h)
