-- The loop holds what the lines so far leave, and at its end what all lines leave.
use Rattle.std.proofs.Common.{rules, ap, ◌∙◌, ℕ, length, min}
use Rattle.std.specs.Iterator.Adapters.{enumerate_source}
use Rattle.std.specs.Slice.Iter.{chunks_rest}
use Rattle.textbook.proofs.Reached.{reached_first, reached_next, reached_last}
use Rattle.textbook.proofs.text.read_lines.Goals as goal

pub loop-k-init : goal.loop-k-init
loop-k-init c = (search rules, reached_first _ _ _ _ _ c.requires.fresh_book c.requires.fresh_places (search rules) (search rules))

pub loop-k-preserved : goal.loop-k-preserved
loop-k-preserved c =
    let x = c.loop-k.invariant in
    let s = c.in-Some.ensures.steps in (
      s.0.0 ∙ x.0,
      reached_next c.requires.short x.1 c.in-Some.line.now _ s.0.1.0 (s.0.1.1 ∙ ap (λ (n : ℕ). min n (length (chunks_rest (enumerate_source c.loop-k.k-iterator)))) x.0) s.0.1.2 c.in-Some.k _ s.1 s.2
          c.number_of.result c.take_line.new.book (c.number_of.ensures ∙ c.take_line.ensures.number) c.take_line.ensures.book,
    )

pub returns : goal.returns
returns c = reached_last c.loop-k.invariant.1 c.in-None.ensures.steps.0.1.0
