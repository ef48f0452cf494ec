-- Decimal digits: the two equations and the induction that hide the fuel of `digits`; its first digit, its length, and the value of its digits.
use mathlib.Core.Path.{◌≡◌, sym, ap, ◌∙◌}
use mathlib.Core.Bool.{Bool, true, false, cond}
use mathlib.Core.List.{List, [], ◌∷◌, ◌++◌, append_assoc, append-nil}
use Prim.Native.Nat.{ℕ, zero, suc, ◌+◌, ◌-◌, ◌*◌, ◌/◌, ◌%◌, ◌^◌, ◌≤◌, ◌<◌}
use native.Mathlib.Decide.{dec_lt}
use native.Mathlib.Nat.{pow-suc}
use native.Mathlib.Omega.{arith}
use borrow.Author.Tests.{lt-ltb, le-ltb, le-leb, leb-true}
use lib.Dec.{leb}
use lib.ListN.{length, length-append}
use Rattle.std.specs.Fmt as printed
use Rattle.std.proofs.lemmas.Fmt.{decimal_digit, decimal_step}
use Rattle.columns.specs.Decimals.{digits_by, digits, value_of}
use Rattle.columns.specs.code.Parser.{is_digit, all_digits}
use Rattle.columns.proofs.Compare.{both}

-- a number has one digit or more
pub one_or_more : (n : ℕ) {C : Type 0} → (n < 10 → C) → (10 ≤ n → C) → C
one_or_more n {C} one more = go (dec_lt n 10)
  where
    go : Dec (n < 10) → C
    go (yes h) = one h
    go (no h) = more (omega arith)

-- ---- the fuel

-- the last digit
abbrev last : ℕ → List ℕ
last n = (48 + n % 10) ∷ []

by_small : (f n : ℕ) → n < 10 → digits_by (suc f) n ≡ last n
unfolding digits_by
by_small f n h = simp (lt-ltb n 10 h)

by_large : (f n : ℕ) → 10 ≤ n → digits_by (suc f) n ≡ digits_by f (n / 10) ++ last n
unfolding digits_by
by_large f n h = simp (le-ltb n 10 h)

-- fuel that is enough is as good as any other
fuel : (f g n : ℕ) → n < f → n < g → digits_by f n ≡ digits_by g n
fuel zero g n h k = absurd (omega arith)
fuel (suc f) zero n h k = absurd (omega arith)
fuel (suc f) (suc g) n h k =
    one_or_more n (λ s. by_small f n s ∙ sym (by_small g n s))
    (λ l.
    by_large f n l
    ∙ ap (λ (x : List ℕ). x ++ last n) (fuel f g (n / 10) (omega arith) (omega arith))
    ∙ sym (by_large g n l))

pub digits_small : (n : ℕ) → n < 10 → digits n ≡ (48 + n % 10) ∷ []
unfolding digits
digits_small n h = by_small n n h

pub digits_large : (n : ℕ) → 10 ≤ n → digits n ≡ digits (n / 10) ++ ((48 + n % 10) ∷ [])
unfolding digits
digits_large n h = by_large n n h ∙ ap (λ (x : List ℕ). x ++ last n) (fuel n (suc (n / 10)) (n / 10) (omega arith) (omega arith))

-- what holds of one digit, and of n where it holds of n without its last digit, holds of all
module _ (P : ℕ → Type 0) (small : (n : ℕ) → n < 10 → P n) (large : (n : ℕ) → 10 ≤ n → P (n / 10) → P n) where
  up_to : (f n : ℕ) → n < f → P n
  up_to zero n h = absurd (omega arith)
  up_to (suc f) n h = one_or_more n (small n) (λ l. large n l (up_to f (n / 10) (omega arith)))

  pub digits_ind : (n : ℕ) → P n
  digits_ind n = up_to (suc n) n (omega arith)

-- what `{}` prints of a number of 64 bits
pub digits_printed : (n : ℕ) → n < 2 ^ 64 → digits n ≡ printed.decimal n
digits_printed =
    digits_ind (λ n. n < 2 ^ 64 → digits n ≡ printed.decimal n)
    (λ n h g. let e : n % 10 ≡ n = omega arith in digits_small n h ∙ ap (λ (k : ℕ). (48 + k) ∷ []) e ∙ sym (decimal_digit n h))
    (λ n h ih g. digits_large n h ∙ ap (λ (x : List ℕ). x ++ last n) (ih (omega arith)) ∙ sym (decimal_step n h g))

-- ---- its digits

pub digit_yes : (b : ℕ) → 48 ≤ b → b ≤ 57 → is_digit b ≡ true
digit_yes b l h = simp (le-leb 48 b l, le-leb b 57 h)

all_last : (n : ℕ) (r : List ℕ) → all_digits ((48 + n % 10) ∷ r) ≡ all_digits r
unfolding all_digits
all_last n r = ap (λ (t : Bool). cond t (all_digits r) false) (digit_yes (48 + n % 10) (omega arith) (omega arith))

pub all_digits_lem : (n : ℕ) (r : List ℕ) → all_digits (digits n ++ r) ≡ all_digits r
all_digits_lem =
    digits_ind (λ n. (r : List ℕ) → all_digits (digits n ++ r) ≡ all_digits r)
    (λ n h r. ap (λ (x : List ℕ). all_digits (x ++ r)) (digits_small n h) ∙ all_last n r)
    (λ n h ih r.
    ap (λ (x : List ℕ). all_digits (x ++ r)) (digits_large n h)
    ∙ ap all_digits (append_assoc (digits (n / 10)) (last n) r)
    ∙ ih ((48 + n % 10) ∷ r)
    ∙ all_last n r)

-- reading the digits of n, and then r
pub value_digits : (n : ℕ) (r : List ℕ) → value_of 0 (digits n ++ r) ≡ value_of n r
unfolding value_of
value_digits =
    digits_ind (λ n. (r : List ℕ) → value_of 0 (digits n ++ r) ≡ value_of n r)
    (λ n h r. ap (λ (x : List ℕ). value_of 0 (x ++ r)) (digits_small n h) ∙ ap (λ (k : ℕ). value_of k r) (one n h))
    (λ n h ih r.
    ap (λ (x : List ℕ). value_of 0 (x ++ r)) (digits_large n h)
    ∙ ap (value_of 0) (append_assoc (digits (n / 10)) (last n) r)
    ∙ ih ((48 + n % 10) ∷ r)
    ∙ ap (λ (k : ℕ). value_of k r) (more n))
  where
    one : (n : ℕ) → n < 10 → 10 * 0 + (48 + n % 10 - 48) ≡ n
    one n h = omega arith

    more : (n : ℕ) → 10 * (n / 10) + (48 + n % 10 - 48) ≡ n
    more n = omega arith

-- its first digit, which is 0 for 0 only
pub record First (n : ℕ) : Type 0 where
  pub head : ℕ
  pub tail : List ℕ
  pub is : digits n ≡ head ∷ tail
  pub low : 48 ≤ head
  pub high : head ≤ 57
  pub nonzero : 0 < n → 48 < head

pub first_digit : (n : ℕ) → First n
first_digit =
    digits_ind First
    (λ n h. record { head = 48 + n % 10; tail = []; is = digits_small n h; low = omega arith; high = omega arith; nonzero = λ p. omega arith })
    (λ n h ih.
    record {
      head = ih.head;
      tail = ih.tail ++ last n;
      is = digits_large n h ∙ ap (λ (x : List ℕ). x ++ last n) ih.is;
      low = ih.low;
      high = ih.high;
      nonzero = λ p. ih.nonzero (omega arith);
    })

-- ---- its length

pub length_large : (n : ℕ) → 10 ≤ n → length (digits n) ≡ length (digits (n / 10)) + 1
length_large n h = ap length (digits_large n h) ∙ length-append (digits (n / 10)) (last n)

pub digits_some : (n : ℕ) → 1 ≤ length (digits n)
digits_some n = omega (arith, ap length (first_digit n).is)

-- a number below 10 ^ k has at most k digits
pub digits_below : (k n : ℕ) → 0 < k → n < 10 ^ k → length (digits n) ≤ k
digits_below zero n p h = absurd (omega arith)
digits_below (suc k) n p h =
    one_or_more n (λ s. omega (arith, ap length (digits_small n s)))
    (λ l.
    let q : n / 10 < 10 ^ k = omega (arith, pow-suc 10 k) in
    omega (arith, length_large n l, digits_below k (n / 10) (some k q l) q))
  where
    some : (k : ℕ) → n / 10 < 10 ^ k → 10 ≤ n → 0 < k
    some zero q l = absurd (omega arith)
    some (suc k) q l = omega arith

pub pow-pos : (k : ℕ) → 1 ≤ 10 ^ k
pow-pos zero = omega arith
pow-pos (suc k) = omega (arith, pow-suc 10 k, pow-pos k)

-- and one from 10 ^ k on has more
pub digits_above : (k n : ℕ) → 10 ^ k ≤ n → k < length (digits n)
digits_above zero n h = digits_some n
digits_above (suc k) n h =
    one_or_more n (λ s. absurd (omega (arith, pow-suc 10 k, pow-pos k)))
    (λ l. omega (arith, length_large n l, digits_above k (n / 10) (omega (arith, pow-suc 10 k))))

-- the logarithm
pub digits_log : (k n : ℕ) → 10 ^ k ≤ n → n < 10 * 10 ^ k → length (digits n) ≡ k + 1
digits_log k n h g = omega (arith, digits_above k n h, digits_below (suc k) n (omega arith) (omega (arith, pow-suc 10 k)))

pub digits_zero : (n : ℕ) → n ≡ 0 → length (digits n) ≡ 1
digits_zero n e = ap length (digits_small n (omega arith))

-- ---- digits read

pub digit_range : (b : ℕ) → is_digit b ≡ true → (48 ≤ b) × (b ≤ 57)
digit_range b e =
    let t = both (leb 48 b) (leb b 57) e in
    (leb-true 48 b t.0, leb-true b 57 t.1)

-- a digit after a number from 1 on
digits_next : (a b : ℕ) → 0 < a → 48 ≤ b → b ≤ 57 → digits (10 * a + (b - 48)) ≡ digits a ++ (b ∷ [])
digits_next a b p l h =
    digits_large (10 * a + (b - 48)) (omega arith) ∙ (λ i. digits (front a b l h i) ++ (back a b l h i ∷ []))
  where
    front : (a b : ℕ) → 48 ≤ b → b ≤ 57 → (10 * a + (b - 48)) / 10 ≡ a
    front a b l h = omega arith

    back : (a b : ℕ) → 48 ≤ b → b ≤ 57 → 48 + (10 * a + (b - 48)) % 10 ≡ b
    back a b l h = omega arith

-- digits after a number from 1 on are the last digits of what they make with it
pub digits_value : (a : ℕ) (bs : List ℕ) → 0 < a → all_digits bs ≡ true → digits (value_of a bs) ≡ digits a ++ bs
unfolding value_of all_digits
digits_value a [] p h = sym (append-nil (digits a))
digits_value a (b ∷ bs) p h =
    let t = both (is_digit b) (all_digits bs) h in
    let d = digit_range b t.0 in
    digits_value (10 * a + (b - 48)) bs (omega arith) t.1
    ∙ ap (λ (x : List ℕ). x ++ bs) (digits_next a b p d.0 d.1)
    ∙ append_assoc (digits a) (b ∷ []) bs
