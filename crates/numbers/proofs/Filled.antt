-- Arrays that hold a list and one value behind it: their length, one element more, and the list back again.
use mathlib.Core.Path.{◌≡◌, ap, ◌∙◌}
use mathlib.Core.List.{List, [], ◌∷◌, ◌++◌}
use Prim.Native.Nat.{ℕ, ◌+◌, ◌<◌, ◌≤◌}
use native.Mathlib.Omega.{arith}
use lib.ListN.{length, get_or, set, take, drop, replicate, length-replicate}
use lib.Seq.{take-append_seam}
use Rattle.numbers.specs.Numbers.{filled}
use Rattle.numbers.proofs.Arrays.{written_fits, written_long, written_set, written_next}

module _ {A : Type 0} (a : A) (n : ℕ) (xs : List A) where
  abbrev places : List A
  places = replicate n a

  pub filled_length : length (filled a n xs) ≡ n
  filled_length = written_long xs places ∙ length-replicate n a

  pub filled_set : (x : A) → length xs < n → set (filled a n xs) (length xs) x ≡ filled a n (xs ++ (x ∷ []))
  filled_set x h = written_set xs places x (omega (arith, length-replicate n a))

  -- a list copied one element further, whatever d is
  pub filled_next : (k : ℕ) (d : A) → k < length xs → k < n → set (filled a n (take k xs)) k (get_or xs k d) ≡ filled a n (take (k + 1) xs)
  filled_next k d h g = written_next xs places k d h (omega (arith, length-replicate n a))

  -- the list itself is the array's front
  pub filled_take : length xs ≤ n → take (length xs) (filled a n xs) ≡ xs
  filled_take h = ap (take (length xs)) (written_fits xs places (omega (arith, length-replicate n a))) ∙ take-append_seam xs (drop (length xs) places)
