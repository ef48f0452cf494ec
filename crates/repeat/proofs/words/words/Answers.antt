-- `words` of each judgement.
use Rattle.std.proofs.Common.{sym}
use Rattle.columns.specs.Ascii.{bytes_of}
use Rattle.repeat.specs.Repeat.{words}
use Rattle.repeat.proofs.words.words.Goals as goal

pub returns-in-New : goal.returns-in-New
returns-in-New c = λ i. bytes_of (words (sym c.in-New.is i))

pub returns-in-Mean : goal.returns-in-Mean
returns-in-Mean c = λ i. bytes_of (words (sym c.in-Mean.is i))

pub returns-in-Opposite : goal.returns-in-Opposite
returns-in-Opposite c = λ i. bytes_of (words (sym c.in-Opposite.is i))
