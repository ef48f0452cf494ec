-- `summed`: sections in the wider range are legs in it.
use Rattle.adjust.proofs.Lists.{fitted_legs}
use Rattle.adjust.proofs.keeping.summed.Goals as goal

pub sums_of-height-requires : goal.sums_of-height-requires
sums_of-height-requires c = record { few = c.requires.few; legs = fitted_legs c.args.sections.now c.requires.sections }
