-- The numbers go into the lent list, as far as it has places.
use Rattle.std.proofs.Common.{sym, ap, ◌∙◌, ℤ}
use Rattle.numbers.proofs.Machine.{stored_id}
use Rattle.warnings.specs.Drift.{drift_of}
use Rattle.warnings.specs.Text.{text_refusal, text_firsts}
use Rattle.warnings.proofs.Texts.{list_put}
use Rattle.warnings.proofs.entry.level_drift.Goals as goal

pub returns-in-Ok-clause-firsts_after : goal.returns-in-Ok-clause-firsts_after
returns-in-Ok-clause-firsts_after c =
    let t = c.args.text.now in
    let w = c.args.window in
    list_put t w (sym (c.in-Ok.ensures.number ∙ ap (text_refusal t) (stored_id c.ranges.window))) (c.in-Ok.ensures.drift ∙ ap (λ (z : ℤ). drift_of (text_firsts t z)) (stored_id c.ranges.window))
    c.args.firsts.now c.listed-found.ensures c.min-places.ensures c.copy_from_slice.ensures.after
