-- The collimation test: the i angle by formula (B11) of GB 12898-91, method I1-A-B-I2, and its limit of 20'' (document 02, W-204).
use Rattle.std.specs.Prelude.{Bool, not, ◌&&◌, List, [], ◌∷◌, ℕ, get_or, ℤ, pos, nat_abs, ◌-ℤ◌, ◌*ℤ◌}
use Rattle.std.specs.Int.Signed.{le_z}
use Rattle.numbers.specs.Numbers.{between}
pub use Rattle.collimation.specs.declared.Collimation.{Collimation}

-- A1, B1, A2, B2, D1, D2, in mm
abbrev pub collimation_of : List ℤ → Collimation
collimation_of x =
    record {
      a1 = get_or x 0 (pos 0);
      b1 = get_or x 1 (pos 0);
      a2 = get_or x 2 (pos 0);
      b2 = get_or x 3 (pos 0);
      d1 = get_or x 4 (pos 0);
      d2 = get_or x 5 (pos 0);
    }

-- ---- the ranges

abbrev pub sums_in_range : Collimation → Bool
sums_in_range c =
    between (pos 0) c.a1 (pos 12000) && between (pos 0) c.b1 (pos 12000) && between (pos 0) c.a2 (pos 12000)
    && between (pos 0) c.b2 (pos 12000)

abbrev pub distances_in_range : Collimation → Bool
distances_in_range c = between (pos 5000) c.d1 (pos 7000) && between (pos 40000) c.d2 (pos 50000)

abbrev pub in_range : Collimation → Bool
in_range c = sums_in_range c && distances_in_range c

-- ---- the i angle

-- U, eight times the Δ of (B11)
abbrev pub eight_delta : Collimation → ℤ
eight_delta c = (c.a2 -ℤ c.b2) -ℤ (c.a1 -ℤ c.b1)

-- the i angle in seconds, and its limit, both times 80,000,000 × (D2 − D1)
abbrev pub scaled_angle : Collimation → ℤ
scaled_angle c = pos 2062650000000 *ℤ eight_delta c -ℤ pos 1288 *ℤ (c.d2 *ℤ c.d2 -ℤ c.d1 *ℤ c.d1)

abbrev pub scaled_limit : Collimation → ℤ
scaled_limit c = pos 1600000000 *ℤ (c.d2 -ℤ c.d1)

unfoldable pub within_angle : Collimation → Bool
within_angle c = le_z (pos (nat_abs (scaled_angle c))) (scaled_limit c)

-- ---- the tests

-- what the input alone causes
abbrev pub range_tests : Collimation → List (ℕ × Bool)
range_tests c = (44, not (in_range c)) ∷ []

abbrev pub angle_tests : Collimation → List (ℕ × Bool)
angle_tests c = (44, not (in_range c)) ∷ (45, not (within_angle c)) ∷ []
