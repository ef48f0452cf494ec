-- Behind the heading there are 84 bytes fewer.
use Rattle.std.proofs.Common.{ap, length, arith}
use Rattle.textbook.proofs.Lines.{from_short}
use Rattle.textbook.proofs.text.read_from.Goals as goal

pub read_lines-requires-clause-short : goal.read_lines-requires-clause-short
read_lines-requires-clause-short c = omega (arith, from_short c.args.text.now c.args.first, ap length c.text_from.ensures, c.in-Some.ensures.cases)
