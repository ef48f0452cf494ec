-- What keeps the running sums of a profile in the floats that hold each whole number: a bound that the code's private functions ask for.
use Rattle.std.specs.Prelude.{ℕ, ◌+◌, ◌*◌, ◌≤◌, nat_abs}
use Rattle.adjust.specs.Sizes.{highest, most_q, most_r, most_units}
use Rattle.plotter.specs.declared.Mark.{Mark}

-- after k sections of a book
pub record Reached (k : ℕ) (m : Mark) : Type 0 where
  pub distance : nat_abs m.distance ≤ most_r * k
  pub height : nat_abs m.height ≤ most_units * highest + most_q * k
