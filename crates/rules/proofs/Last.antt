-- The number of the last section, or the start where there is none: the last element of the library's lists, and `last_of` of the definitions.
use mathlib.Core.Path.{◌≡◌, refl, ap, ◌∙◌}
use mathlib.Core.List.{List, [], ◌∷◌, map}
use Prim.Native.Nat.{◌-◌}
use native.Mathlib.Omega.{arith}
use borrow.Author.Rules.{rules}
use lib.ListN.{length}
use lib.IntN.{ℤ}
use Rattle.std.specs.declared.option.Option.{Option}
use Rattle.std.specs.Prelude.{Some, None, slice_get}
use Rattle.std.specs.Option.{MatchOption, option_copied}
use Rattle.std.proofs.Common.{Bor}
use Rattle.numbers.specs.Numbers.{last_of}
use Rattle.adjust.specs.declared.Section.{Section}
use Rattle.rules.specs.code.Standing.{last_in}

abbrev numbers : List Section → List ℤ
numbers xs = map (λ (x : Section). x.number) xs

-- a list with a first element has a last one
last_some : (x : Section) (xs : List Section) → slice_get (x ∷ xs) (length (x ∷ xs) - 1) ≡ Some (last_of x xs)
last_some x xs = ap (λ k. slice_get (x ∷ xs) k) (omega arith) ∙ go x xs
  where
    go : (x : Section) (xs : List Section) → slice_get (x ∷ xs) (length xs) ≡ Some (last_of x xs)
    go x [] = refl
    go x (y ∷ ys) = go y ys

-- whose number is the last of the numbers
last_number : (x : Section) (xs : List Section) → last_of x.number (numbers xs) ≡ (last_of x xs).number
last_number x [] = refl
last_number x (y ∷ ys) = last_number y ys

pub last_or : (a n : ℤ) (xs : List Section) (r : Option (Bor Section)) → option_copied r ≡ slice_get xs (length xs - 1) → MatchOption r (n ≡ a) (λ x. n ≡ x.now.number)
    → n ≡ last_of a (map (λ (x : Section). x.number) xs)
last_or a n [] None e h = h
last_or a n [] (Some x) e h = search rules
last_or a n (y ∷ ys) None e h = search (rules, e ∙ last_some y ys)
last_or a n (y ∷ ys) (Some x) e h = h ∙ search (rules, e ∙ last_some y ys, last_number y ys)

-- the last section as it is copied out of the list
pub last_given : (xs : List Section) → slice_get xs (length xs - 1) ≡ last_in xs
last_given [] = refl
last_given (x ∷ xs) = last_some x xs
