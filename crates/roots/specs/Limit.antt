-- A root limit: x within a multiple of √l. Squared, it is a comparison of whole numbers, exact at the limit.
use Rattle.std.specs.Prelude.{Bool, ℕ, ℤ, pos, ◌*ℤ◌}
use Rattle.std.specs.Int.Signed.{le_z}

-- whether a × x² is at most b × l
unfoldable pub is_within : ℕ → ℤ → ℕ → ℤ → Bool
is_within a x b l = le_z (pos a *ℤ (x *ℤ x)) (pos b *ℤ l)
