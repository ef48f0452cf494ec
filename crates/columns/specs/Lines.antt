-- Lines of 83 columns and a line feed: a title, or a tag and numbers (document 01, 'The text book and the report').
use Rattle.std.specs.Prelude.{Bool, true, false, cond, List, [], ◌∷◌, ◌++◌, ℕ, zero, suc, ◌+◌, ◌-◌, ◌*◌, leb, ℤ, pos, neg_ℤ, length}
use Rattle.std.specs.Int.Signed.{lt_z}
use Rattle.columns.specs.Decimals.{blanks, fits_in, pad}

-- the end of a line from column `from` on, counted from 0: blanks up to column 83, and a line feed
unfoldable pub line_end : ℕ → List ℕ
line_end from = blanks (83 - from) ++ (10 ∷ [])

-- a line that begins with s, of at most 83 bytes
unfoldable pub line_with : List ℕ → List ℕ
line_with s = s ++ line_end (length s)

-- ---- a tag and numbers

-- the columns of a field with `after` more fields after it: eight; sixteen for the last field of a line whose last field is wide
unfoldable pub width_of : Bool → ℕ → ℕ
width_of wide zero = cond wide 16 8
width_of wide (suc after) = 8

-- numbers in fields, one after the other
unfoldable pub fields : Bool → List ℤ → List ℕ
fields wide [] = []
fields wide (z ∷ zs) = pad (width_of wide (length zs)) z ++ fields wide zs

-- whether each number fits its field
unfoldable pub all_fit : Bool → List ℤ → Bool
all_fit wide [] = true
all_fit wide (z ∷ zs) = cond (fits_in (width_of wide (length zs)) z) (all_fit wide zs) false

-- the columns of n fields
unfoldable pub columns_of : Bool → ℕ → ℕ
columns_of wide zero = 0
columns_of wide (suc n) = 8 * n + width_of wide 0

-- whether a line has room for a tag of this length and the numbers' fields, and each number fits its field
unfoldable pub line_fits : ℕ → List ℤ → Bool → Bool
line_fits letters zs wide = cond (leb (letters + columns_of wide (length zs)) 83) (all_fit wide zs) false

-- the line of a tag and numbers; nothing where they do not fit
unfoldable pub tag_line : List ℕ → List ℤ → Bool → List ℕ
tag_line tag zs wide = cond (line_fits (length tag) zs wide) (line_with (tag ++ fields wide zs)) []

-- a height below −9,999,999 takes sixteen columns in place of eight
unfoldable pub is_wide : ℤ → Bool
is_wide z = lt_z z (neg_ℤ (pos 9999999))

-- ---- titles

-- "LEVEL BOOK" and blanks: line 1 of the text book
unfoldable pub heading : List ℕ
heading = line_with (76 ∷ 69 ∷ 86 ∷ 69 ∷ 76 ∷ 32 ∷ 66 ∷ 79 ∷ 79 ∷ 75 ∷ [])

-- "REDUCED LEVELS" and blanks: the report's title
unfoldable pub title : List ℕ
title = line_with (82 ∷ 69 ∷ 68 ∷ 85 ∷ 67 ∷ 69 ∷ 68 ∷ 32 ∷ 76 ∷ 69 ∷ 86 ∷ 69 ∷ 76 ∷ 83 ∷ [])
