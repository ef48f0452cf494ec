-- Before each entry: the book and the numbers are what the entries before it leave.
use Rattle.std.proofs.Common.{◌≡◌}
use Rattle.std.specs.Iterator.Adapters.{enumerate_source, enumerate_count}
use Rattle.std.specs.Slice.Iter.{chunks_rest, chunks_size}
use Rattle.runner.proofs.Reached.{Reached}
use Rattle.runner.proofs.run_calls.Given as goal

abbrev pub invariant-loop-k : goal.invariant-loop-k
invariant-loop-k l =
    (chunks_size (enumerate_source l.k-iterator) ≡ 11)
    × Reached l.calls l.fn.numbers l.book l.numbers (enumerate_count l.k-iterator) (chunks_rest (enumerate_source l.k-iterator))
