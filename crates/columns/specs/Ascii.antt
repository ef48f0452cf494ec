-- Texts as they stand in a file.
use Rattle.std.specs.Prelude.{List, ℕ}
use mathlib.Core.List as Lists
use Prim.Native.Char.{code}
use Prim.Native.String.{String, [], ◌∷◌}

-- the bytes of a text in ASCII
abbrev pub bytes_of : String → List ℕ
bytes_of [] = Lists.[]
bytes_of (c ∷ s) = Lists.◌∷◌ (code c) (bytes_of s)
