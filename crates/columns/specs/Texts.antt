-- A text as lines: a line is the next 84 bytes, and the last piece may be shorter (document 01).
use Rattle.std.specs.Prelude.{List, [], ◌∷◌, ◌++◌, ℕ, zero, suc, length, take, drop}

-- the lines of t, f of them at most
unfoldable pub lines_by : ℕ → List ℕ → List (List ℕ)
lines_by zero t = []
lines_by (suc f) [] = []
lines_by (suc f) (b ∷ t) = take 84 (b ∷ t) ∷ lines_by f (drop 84 (b ∷ t))

unfoldable pub lines : List ℕ → List (List ℕ)
unfolding lines_by
lines t = lines_by (length t) t

-- the text of these lines
unfoldable pub joined : List (List ℕ) → List ℕ
joined [] = []
joined (l ∷ ls) = l ++ joined ls
