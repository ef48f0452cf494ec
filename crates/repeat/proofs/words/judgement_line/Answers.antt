-- `judgement_line` prints what was judged, or the refusal.
use Rattle.std.proofs.Common.{◌∙◌}
use Rattle.numbers.proofs.Machine.{stored_id}
use Rattle.columns.specs.Ascii.{bytes_of}
use Rattle.repeat.specs.Repeat.{refused}
use Rattle.repeat.proofs.Named.{judges_at, words_judged, words_refused}
use Rattle.repeat.proofs.words.judgement_line.Goals as goal

pub returns-in-Ok : goal.returns-in-Ok
returns-in-Ok c =
    let r = c.ranges in
    c.words.ensures ∙ words_judged c.in-Ok.judgement (judges_at (stored_id r.order) (stored_id r.instrument) (stored_id r.g) (stored_id r.s) c.in-Ok.ensures)

pub returns-in-Err : goal.returns-in-Err
returns-in-Err c =
    let r = c.ranges in
    c.refused.ensures ∙ (λ i. bytes_of (refused (c.number.ensures i)))
    ∙ words_refused c.in-Err.refusal (judges_at (stored_id r.order) (stored_id r.instrument) (stored_id r.g) (stored_id r.s) c.in-Err.ensures)
