-- `refused` of 3 and of another number.
use Rattle.std.proofs.Common.{sym, cond}
use borrow.Author.Tests.{ne_eqb}
use Rattle.columns.specs.Ascii.{bytes_of}
use Rattle.repeat.specs.Repeat.{refused}
use Rattle.repeat.proofs.words.refused.Goals as goal

pub returns-then-number-eq3 : goal.returns-then-number-eq3
returns-then-number-eq3 c = λ i. bytes_of (refused (sym c.if-number-eq3.true i))

pub returns-else-number-eq3 : goal.returns-else-number-eq3
returns-else-number-eq3 c = λ i. bytes_of (cond (sym (ne_eqb c.args.number 3 c.if-number-eq3.false) i) "REFUSED 3\n" "REFUSED 52\n")
