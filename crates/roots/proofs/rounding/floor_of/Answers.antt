-- The quotient toward zero, less 1 where the remainder is negative, is the floor.
use lib.IntN.{nat_abs}
use Rattle.numbers.proofs.Machine.{stored_as}
use Rattle.roots.proofs.Floor.{floor_fits}
use Rattle.roots.proofs.Division.{floored}
use Rattle.roots.proofs.rounding.floor_of.Goals as goal

pub returns : goal.returns
returns c = stored_as (floored c.ranges.n c.ranges.d c.requires) (floor_fits c.args.n (nat_abs c.args.d) c.ranges.n)
