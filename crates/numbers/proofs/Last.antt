-- The last element of a list and all others: they are the list again; of a list with an element more, of a mapped list, of a sum, and of a test that holds of all.
use mathlib.Core.Path.{◌≡◌, refl, sym, ap, ◌∙◌}
use mathlib.Core.Bool.{Bool, true}
use mathlib.Core.List.{List, [], ◌∷◌, ◌++◌, map}
use Prim.Native.Nat.{suc, ◌≤◌}
use native.Mathlib.Omega.{arith}
use lib.ListN.{length}
use lib.IntN.{ℤ, pos, ◌+ℤ◌, +ℤ_assoc, +ℤ_comm}
use Rattle.numbers.specs.Numbers.{sum, last_of, but_last}
use Rattle.numbers.proofs.All.{All, all_head, all_tail, all_cons}

module _ {A : Type 0} where
  pub last_parts : (a x : A) (xs : List A) → but_last (x ∷ xs) ++ (last_of a (x ∷ xs) ∷ []) ≡ x ∷ xs
  last_parts a x [] = refl
  last_parts a x (y ∷ ys) = ap (λ (l : List A). x ∷ l) (last_parts x y ys)

  -- one element more
  pub but_last_more : (xs : List A) (x : A) → but_last (xs ++ (x ∷ [])) ≡ xs
  but_last_more [] x = refl
  but_last_more (y ∷ []) x = refl
  but_last_more (y ∷ (z ∷ zs)) x = ap (λ (l : List A). y ∷ l) (but_last_more (z ∷ zs) x)

  pub last_more : (a : A) (xs : List A) (x : A) → last_of a (xs ++ (x ∷ [])) ≡ x
  last_more a [] x = refl
  last_more a (y ∷ ys) x = last_more y ys x

  -- one fewer
  pub but_last_length : (x : A) (xs : List A) → length (but_last (x ∷ xs)) ≡ length xs
  but_last_length x [] = refl
  but_last_length x (y ∷ ys) = ap suc (but_last_length y ys)

  pub but_last_short : (xs : List A) → length (but_last xs) ≤ length xs
  but_last_short [] = omega arith
  but_last_short (x ∷ xs) = omega (arith, but_last_length x xs)

-- what holds of every element holds of the last one, and of all others
module _ {A : Type 0} (p : A → Bool) where
  pub all_last : (x : A) (xs : List A) → All p (x ∷ xs) → p (last_of x xs) ≡ true
  all_last x [] f = all_head p x [] f
  all_last x (y ∷ ys) f = all_last y ys (all_tail p x (y ∷ ys) f)

  pub all_but_last : (xs : List A) → All p xs → All p (but_last xs)
  all_but_last [] f = refl
  all_but_last (x ∷ []) f = refl
  all_but_last (x ∷ (y ∷ ys)) f = all_cons p x (but_last (y ∷ ys)) (all_head p x (y ∷ ys) f) (all_but_last (y ∷ ys) (all_tail p x (y ∷ ys) f))

-- of a mapped list
pub but_last_map : {A B : Type 0} (f : A → B) (xs : List A) → map f (but_last xs) ≡ but_last (map f xs)
but_last_map f [] = refl
but_last_map f (x ∷ []) = refl
but_last_map {A} {B} f (x ∷ (y ∷ ys)) = ap (λ (l : List B). f x ∷ l) (but_last_map f (y ∷ ys))

-- of a sum: an element more is added
pub sum_more : {A : Type 0} (f : A → ℤ) (xs : List A) (x : A) → sum (map f (xs ++ (x ∷ []))) ≡ sum (map f xs) +ℤ f x
sum_more f [] x = +ℤ_comm (f x) (pos 0)
sum_more f (y ∷ ys) x = ap (λ (z : ℤ). f y +ℤ z) (sum_more f ys x) ∙ sym (+ℤ_assoc (f y) (sum (map f ys)) (f x))
