-- Numbers in columns: written right-justified among blanks, and read back (document 01, 'The text book and the report').
use Rattle.std.specs.Prelude.{Bool, true, false, cond, Some, None, List, [], ◌∷◌, ◌++◌, ℕ, zero, suc, ◌+◌, ◌-◌, ◌*◌, ◌/◌, ◌%◌, eqb, leb, ltb, ℤ, pos, negsuc, neg_ℤ, length, replicate}
use Rattle.std.specs.declared.option.Option.{Option}
use Rattle.std.specs.Str.{bytes_eq}

-- ---- written

-- k blanks
unfoldable pub blanks : ℕ → List ℕ
blanks k = replicate k 32

-- the decimal digits of n, f of them at most
unfoldable pub digits_by : ℕ → ℕ → List ℕ
digits_by zero n = []
digits_by (suc f) n = let front = digits_by f (n / 10) in cond (ltb n 10) [] front ++ ((48 + n % 10) ∷ [])

-- the decimal digits of n: no leading zero, and the digit 0 for 0
unfoldable pub digits : ℕ → List ℕ
unfolding digits_by
digits n = digits_by (suc n) n

-- z in decimal: a minus directly before the digits of a number below 0, and no plus; negsuc n is −(n + 1)
unfoldable pub decimal : ℤ → List ℕ
decimal (pos n) = digits n
decimal (negsuc n) = 45 ∷ digits (suc n)

-- whether z fits k columns
unfoldable pub fits_in : ℕ → ℤ → Bool
fits_in k z = leb (length (decimal z)) k

-- z right-justified in k columns, for a z that fits them
unfoldable pub pad : ℕ → ℤ → List ℕ
pad k z = blanks (k - length (decimal z)) ++ decimal z

-- ---- read

-- whether two lists of bytes are equal
unfoldable pub same : List ℕ → List ℕ → Bool
same xs ys = bytes_eq xs ys

-- the number with the digits of n, then the bytes as digits; a byte below the digit 0, as a blank or a minus, counts as 0
unfoldable pub value_of : ℕ → List ℕ → ℕ
value_of n [] = n
value_of n (b ∷ bs) = value_of (10 * n + (b - 48)) bs

-- whether a minus is among the bytes
unfoldable pub has_minus : List ℕ → Bool
has_minus [] = false
has_minus (b ∷ bs) = cond (eqb b 45) true (has_minus bs)

-- the only number that the bytes can be
unfoldable pub candidate : List ℕ → ℤ
candidate bs = cond (has_minus bs) (neg_ℤ (pos (value_of 0 bs))) (pos (value_of 0 bs))

-- a field is a number exactly if its bytes are what writing that number in as many columns gives
unfoldable pub field_of : List ℕ → Option ℤ
field_of bs = cond (same bs (pad (length bs) (candidate bs))) (Some (candidate bs)) None
