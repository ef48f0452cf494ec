-- An entry's call leads from a reading's book to the next reading's, and writes its number.
use Rattle.std.proofs.Common.{rules, ap, ◌∙◌, ℕ, length, min}
use Rattle.std.specs.Iterator.Adapters.{enumerate_source}
use Rattle.std.specs.Slice.Iter.{chunks_rest}
use Rattle.runner.proofs.Reached.{reached_first, reached_next, reached_last}
use Rattle.runner.proofs.run_calls.Goals as goal

pub loop-k-init : goal.loop-k-init
loop-k-init c = (search rules, reached_first _ _ _ _ _ c.fresh-book.ensures (search rules) (search rules))

pub loop-k-preserved : goal.loop-k-preserved
loop-k-preserved c =
    let x = c.loop-k.invariant in
    let s = c.in-Some.ensures.steps in (
      s.0.0 ∙ x.0,
      reached_next x.1 c.in-Some.entry.now _ s.0.1.0 (s.0.1.1 ∙ ap (λ (n : ℕ). min n (length (chunks_rest (enumerate_source c.loop-k.k-iterator)))) x.0) s.0.1.2 c.in-Some.k _ s.1 s.2
          c.number_of-number.result c.take_first.new.book _ (c.number_of-number.ensures ∙ c.take_first.ensures.number) c.take_first.ensures.book c.put_number.ensures,
    )

pub returns-clause-book : goal.returns-clause-book
returns-clause-book c = (reached_last c.loop-k.invariant.1 c.in-None.ensures.steps.0.1.0).0

pub returns-clause-numbers : goal.returns-clause-numbers
returns-clause-numbers c = (reached_last c.loop-k.invariant.1 c.in-None.ensures.steps.0.1.0).1
