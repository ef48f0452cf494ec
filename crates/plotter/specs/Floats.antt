-- Whole numbers as binary64 floats, and the bytes of a float (document 02, W-213).
use Rattle.std.specs.Prelude.{Bool, true, false, List, ℕ, ◌≤◌, ◌^◌, ℤ, pos, negsuc, nat_abs, to_bits}
use Rattle.std.specs.Int.{w64, to_le_bytes}
use lib.Ieee.{Float, binary64, of_int, sub}
use lib.Ieee.Exact.{HasValue}
use Rattle.plotter.specs.declared.Pair.{Pair}

abbrev pub below_zero : ℤ → Bool
below_zero (pos n) = false
below_zero (negsuc n) = true

-- the float x equals the whole number z: it is finite, with z's sign, and |z| / 1 in size
abbrev pub Equals : Float → ℤ → Type 0
Equals x z = HasValue x (below_zero z) (nat_abs z) 1

-- each whole number of this size is a float
abbrev pub Exact : ℤ → Type 0
Exact z = nat_abs z ≤ 2 ^ 53

-- z as a float
abbrev pub float_of : ℤ → Float
float_of z = of_int binary64 z

-- the eight bytes of a float, lowest first
unfoldable pub float_bytes : Float → List ℕ
float_bytes x = to_le_bytes w64 (to_bits binary64 x)

-- from the point p to the point q, by the subtraction of floats
abbrev pub difference : Pair → Pair → Pair
difference p q = record { distance = sub binary64 q.distance p.distance; height = sub binary64 q.height p.height }
