-- The remainder, raised by d where it is negative, is what n has above the floor's multiple.
use Rattle.numbers.proofs.Machine.{stored_as}
use Rattle.roots.proofs.Division.{raised, raised_fits}
use Rattle.roots.proofs.rounding.excess_of.Goals as goal

pub returns : goal.returns
returns c = stored_as (raised c.ranges.n c.ranges.d c.requires) (raised_fits c.ranges.n c.ranges.d c.requires)
