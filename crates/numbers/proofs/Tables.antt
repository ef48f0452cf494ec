-- Tables of tests: what a call that is taken knows, what a test that holds does, and that the first number is the lowest where the numbers rise.
use mathlib.Core.Path.{◌≡◌, refl, sym, ap, subst, ◌∙◌}
use mathlib.Core.Logic.{inl, inr, ⊎_elim}
use mathlib.Core.Bool.{Bool, true, false, not, cond, ◌&&◌}
use mathlib.Core.List.{List, [], ◌∷◌, ◌++◌}
use Prim.Native.Nat.{ℕ, ◌≤◌, ◌<◌}
use native.Mathlib.Nat.{le_refl}
use native.Mathlib.Omega.{arith}
use borrow.Author.Tests.{eq-eqb, ne_eqb}
use lib.Dec.{ltb, eqb, ltb→lt, eqb→eq}
use Rattle.numbers.specs.Tables.{first_of, Applies, Lowest, none_applies, applies}
use Rattle.numbers.proofs.Tests.{by_test, holds, no_true, and_l, and_r, not-true}

-- ---- a call that is taken fails every test, and one that meets a test is refused

-- each number satisfies p
abbrev pub each_number : (ℕ → Bool) → List (ℕ × Bool) → Bool
each_number p [] = true
each_number p (t ∷ ts) = p t.0 && each_number p ts

-- no number is 0
abbrev pub numbered : List (ℕ × Bool) → Bool
numbered ts = each_number (λ n. not (eqb n 0)) ts

-- the test with the number n
abbrev pub test_of : ℕ → List (ℕ × Bool) → Bool
test_of n [] = false
test_of n (t ∷ ts) = cond (eqb t.0 n) t.1 (test_of n ts)

pub failed : (ts : List (ℕ × Bool)) → numbered ts ≡ true → first_of ts ≡ 0 → (n : ℕ) → test_of n ts ≡ false
failed [] k e n = refl
failed (t ∷ ts) k e n =
    by_test t.1 (λ b. cond b t.0 (first_of ts) ≡ 0 → cond (eqb t.0 n) b (test_of n ts) ≡ false)
    (λ b z. no_true (subst (λ (m : ℕ). not (eqb m 0) ≡ true) z (and_l (not (eqb t.0 0)) (numbered ts) k)))
    (λ b z. by_test (eqb t.0 n) (λ s. cond s false (test_of n ts) ≡ false) (λ s. refl) (λ s. failed ts (and_r (not (eqb t.0 0)) (numbered ts) k) z n)) e

-- whatever stands before a test that holds
pub met : (ts : List (ℕ × Bool)) (n : ℕ) → numbered ts ≡ true → eqb n 0 ≡ false → eqb (first_of (ts ++ ((n, true) ∷ []))) 0 ≡ false
met [] n k h = h
met (t ∷ ts) n k h =
    by_test t.1 (λ b. eqb (cond b t.0 (first_of (ts ++ ((n, true) ∷ [])))) 0 ≡ false)
    (λ b. not-true (eqb t.0 0) (and_l (not (eqb t.0 0)) (numbered ts) k)) (λ b. met ts n (and_r (not (eqb t.0 0)) (numbered ts) k) h)

-- a table in two parts: the first part's number, or else the second's
pub first_append : (ts us : List (ℕ × Bool)) → numbered ts ≡ true → first_of (ts ++ us) ≡ cond (eqb (first_of ts) 0) (first_of us) (first_of ts)
first_append [] us k = refl
first_append (t ∷ ts) us k =
    by_test t.1 (λ b. cond b t.0 (first_of (ts ++ us)) ≡ cond (eqb (cond b t.0 (first_of ts)) 0) (first_of us) (cond b t.0 (first_of ts)))
    (λ b. sym (rw (not-true (eqb t.0 0) (and_l (not (eqb t.0 0)) (numbered ts) k)))) (λ b. first_append ts us (and_r (not (eqb t.0 0)) (numbered ts) k))

-- where a table gives no number, its first part gives none
pub first_none : (ts us : List (ℕ × Bool)) → first_of (ts ++ us) ≡ 0 → first_of ts ≡ 0
first_none [] us e = refl
first_none (t ∷ ts) us e =
    by_test t.1 (λ b. cond b t.0 (first_of (ts ++ us)) ≡ 0 → cond b t.0 (first_of ts) ≡ 0) (λ b z. z) (λ b z. first_none ts us z) e

-- a test that fails stands in a table for nothing
pub first_skips : (ts us : List (ℕ × Bool)) (n : ℕ) → first_of (ts ++ ((n, false) ∷ us)) ≡ first_of (ts ++ us)
first_skips [] us n = refl
first_skips (t ∷ ts) us n = ap (cond t.1 t.0) (first_skips ts us n)

-- what each number satisfies, and 0, the number that is given satisfies
pub first_each : (p : ℕ → Bool) (ts : List (ℕ × Bool)) → each_number p ts ≡ true → p 0 ≡ true → p (first_of ts) ≡ true
first_each p [] k z = z
first_each p (t ∷ ts) k z =
    by_test t.1 (λ b. p (cond b t.0 (first_of ts)) ≡ true) (λ b. and_l (p t.0) (each_number p ts) k)
    (λ b. first_each p ts (and_r (p t.0) (each_number p ts) k) z)

-- ---- the lowest number

-- the numbers rise from above `low`, by rank
abbrev pub rises : (ℕ → ℕ) → ℕ → List (ℕ × Bool) → Bool
rises rank low [] = true
rises rank low (t ∷ ts) = ltb low (rank t.0) && rises rank (rank t.0) ts

module _ (rank : ℕ → ℕ) where
  above : (ts : List (ℕ × Bool)) (low : ℕ) → rises rank low ts ≡ true → (m : ℕ) → Applies m ts → low < rank m
  above [] low k m a = absurd a
  above (t ∷ ts) low k m a =
      let h : low < rank t.0 = ltb→lt low (rank t.0) (holds (and_l (ltb low (rank t.0)) (rises rank (rank t.0) ts) k)) in
      ⊎_elim (λ e. subst (λ (n : ℕ). low < rank n) e.0 h)
      (λ b. omega (arith, above ts (rank t.0) (and_r (ltb low (rank t.0)) (rises rank (rank t.0) ts) k) m b)) a

  -- where the numbers rise, the first test that holds has the lowest number of those that hold
  pub first_lowest : (ts : List (ℕ × Bool)) (low : ℕ) → rises rank low ts ≡ true → Lowest rank ts (first_of ts)
  first_lowest [] low k = none_applies (λ m a. a)
  first_lowest (t ∷ ts) low k =
      let rest : rises rank (rank t.0) ts ≡ true = and_r (ltb low (rank t.0)) (rises rank (rank t.0) ts) k in
      go rest (first_lowest ts (rank t.0) rest) t.1 refl
    where
      -- t fails
      later : {A : Type 0} (m : ℕ) → t.1 ≡ false → (Applies m ts → A) → Applies m (t ∷ ts) → A
      later m e f a = ⊎_elim (λ p. no_true (sym e ∙ p.1)) f a

      pass : t.1 ≡ false → {n : ℕ} → Lowest rank ts n → Lowest rank (t ∷ ts) n
      pass e (none_applies f) = none_applies (λ m a. later m e (f m) a)
      pass e (applies b f) = applies (inr b) (λ m a. later m e (f m) a)

      go : rises rank (rank t.0) ts ≡ true → Lowest rank ts (first_of ts) → (b : Bool) → t.1 ≡ b → Lowest rank (t ∷ ts) (cond b t.0 (first_of ts))
      go rest g true e =
          applies (inl (refl, e))
          (λ m a. ⊎_elim (λ p. subst (λ (n : ℕ). rank t.0 ≤ rank n) p.0 (le_refl (rank t.0))) (λ b. omega (arith, above ts (rank t.0) rest m b)) a)
      go rest g false e = pass e g

-- ---- what is done where a number is 0, and where it is not

pub zero_cond : {A : Type 0} (n : ℕ) (a b : A) → n ≡ 0 → cond (eqb n 0) a b ≡ a
zero_cond n a b e = ap (λ (t : Bool). cond t a b) (eq-eqb n 0 e)

pub nonzero_cond : {A : Type 0} (n : ℕ) (a b : A) → (n ≡ 0 → ⊥) → cond (eqb n 0) a b ≡ b
nonzero_cond n a b f = ap (λ (t : Bool). cond t a b) (ne_eqb n 0 f)

-- an answer that a number decides has that number, where the answer at 0 has 0: a law of its own, for answers that are no `Result`
pub number_cond : {A : Type 0} (number : A → ℕ) (n : ℕ) (a b : A) → number a ≡ 0 → number b ≡ n → number (cond (eqb n 0) a b) ≡ n
number_cond number n a b z e = by_test (eqb n 0) (λ t. number (cond t a b) ≡ n) (λ t. z ∙ sym (eqb→eq n 0 t)) (λ t. e)
