-- Tests of whole numbers, sums and arrays: the words in which the rules are written.
use Rattle.std.specs.Prelude.{Bool, false, ◌&&◌, List, [], ◌∷◌, ◌++◌, ℕ, leb, eqb, length, take, drop, replicate, ℤ, pos, negsuc, nat_abs, ◌+ℤ◌}
use Rattle.std.specs.Int.Signed.{le_z}
use Rattle.std.specs.List.{list_any}

-- the magnitude of x is at most the limit
abbrev pub within : ℤ → ℕ → Bool
within x limit = leb (nat_abs x) limit

abbrev pub between : ℤ → ℤ → ℤ → Bool
between low x high = le_z low x && le_z x high

abbrev pub eq_z : ℤ → ℤ → Bool
eq_z (pos a) (pos b) = eqb a b
eq_z (pos a) (negsuc b) = false
eq_z (negsuc a) (pos b) = false
eq_z (negsuc a) (negsuc b) = eqb a b

abbrev pub sum : List ℤ → ℤ
sum [] = pos 0
sum (x ∷ xs) = x +ℤ sum xs

abbrev pub any_of : {A : Type 0} → (A → Bool) → List A → Bool
any_of p xs = list_any p xs

-- the last element, or a where there is none
abbrev pub last_of : {A : Type 0} → A → List A → A
last_of a [] = a
last_of a (x ∷ xs) = last_of x xs

-- all elements but the last
abbrev pub but_last : {A : Type 0} → List A → List A
but_last [] = []
but_last (x ∷ []) = []
but_last (x ∷ (y ∷ ys)) = x ∷ but_last (y ∷ ys)

-- ---- a list in an array

-- the array ys with the list xs in its first places; the others keep what they held
abbrev pub over : {A : Type 0} → List A → List A → List A
over xs ys = xs ++ drop (length xs) ys

-- the array d with the list s from index `at` on
unfoldable pub put_at : {A : Type 0} → List A → ℕ → List A → List A
put_at d at s = take at d ++ over s (drop at d)

-- the array ys with xs in its first places, as far as there are places
abbrev pub written : {A : Type 0} → List A → List A → List A
written xs ys = over (take (length ys) xs) ys

-- an array of n places that holds a list, and a in the places behind it
abbrev pub filled : {A : Type 0} → A → ℕ → List A → List A
filled a n xs = written xs (replicate n a)
