-- A test that holds of every element of a list, as the rules say it: it fails of none.
use mathlib.Core.Path.{◌≡◌, refl, ap, ◌∙◌}
use mathlib.Core.Bool.{Bool, true, false, not, ◌||◌}
use mathlib.Core.List.{List, [], ◌∷◌, ◌++◌}
use Rattle.numbers.specs.Numbers.{any_of}
use Rattle.numbers.proofs.Tests.{or_l, or_r, not-false}

abbrev pub All : {A : Type 0} → (A → Bool) → List A → Type 0
All p xs = any_of (λ x. not (p x)) xs ≡ false

module _ {A : Type 0} (p : A → Bool) where
  pub all_head : (x : A) (xs : List A) → All p (x ∷ xs) → p x ≡ true
  all_head x xs e = not-false (p x) (or_l (not (p x)) (any_of (λ y. not (p y)) xs) e)

  pub all_tail : (x : A) (xs : List A) → All p (x ∷ xs) → All p xs
  all_tail x xs e = or_r (not (p x)) (any_of (λ y. not (p y)) xs) e

  pub all_cons : (x : A) (xs : List A) → p x ≡ true → All p xs → All p (x ∷ xs)
  all_cons x xs h k = ap (λ (b : Bool). not b || any_of (λ y. not (p y)) xs) h ∙ k

  pub all_append : (xs ys : List A) → All p xs → All p ys → All p (xs ++ ys)
  all_append [] ys f g = g
  all_append (x ∷ xs) ys f g = all_cons x (xs ++ ys) (all_head x xs f) (all_append xs ys (all_tail x xs f) g)

-- what follows from a test, element by element
pub all_weaken : {A : Type 0} (p q : A → Bool) → ((x : A) → p x ≡ true → q x ≡ true) → (xs : List A) → All p xs → All q xs
all_weaken p q f [] e = refl
all_weaken p q f (x ∷ xs) e = all_cons q x xs (f x (all_head p x xs e)) (all_weaken p q f xs (all_tail p x xs e))
