-- A block at a place of a lent buffer or list; everything beyond the block keeps its value (document 01).
use Rattle.std.specs.Prelude.{cond, List, ℕ, ◌+◌, leb, length}
use Rattle.numbers.specs.Numbers.{put_at}

-- d with the block s from index `at` on where d has room for it; otherwise d as it is
unfoldable pub placed : List ℕ → ℕ → List ℕ → List ℕ
placed d at s = cond (leb (at + length s) (length d)) (put_at d at s) d
