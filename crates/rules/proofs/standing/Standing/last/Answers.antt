-- `last` gives the last section, copied.
use Rattle.std.proofs.Common.{◌∙◌}
use Rattle.rules.proofs.Last.{last_given}
use Rattle.rules.proofs.standing.Standing.last.Goals as goal

pub returns : goal.returns
returns c = c.copied.ensures ∙ c.last.ensures.value ∙ last_given c.args.self.now.sections.now
