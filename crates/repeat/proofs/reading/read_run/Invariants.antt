-- Before each line: the book is what the lines before it leave.
use Rattle.std.proofs.Common.{◌≡◌}
use Rattle.std.specs.Slice.Iter.{chunks_rest, chunks_size}
use Rattle.repeat.proofs.Reached.{Reached}
use Rattle.repeat.proofs.reading.read_run.Given as goal

abbrev pub invariant-loop-line : goal.invariant-loop-line
invariant-loop-line l = (chunks_size l.line-iterator ≡ 84) × Reached l.fn.class l.fn.instrument l.text l.book (chunks_rest l.line-iterator)
