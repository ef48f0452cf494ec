-- Before each line: the book and the numbers are what the lines before it leave.
use Rattle.std.proofs.Common.{◌≡◌}
use Rattle.std.specs.Iterator.Adapters.{enumerate_source, enumerate_count}
use Rattle.std.specs.Slice.Iter.{chunks_rest, chunks_size}
use Rattle.textbook.proofs.Reached.{Reached}
use Rattle.textbook.proofs.text.read_lines.Given as goal

abbrev pub invariant-loop-k : goal.invariant-loop-k
invariant-loop-k l =
    (chunks_size (enumerate_source l.k-iterator) ≡ 84)
    × Reached l.text l.book l.refusals (enumerate_count l.k-iterator) (chunks_rest (enumerate_source l.k-iterator))
