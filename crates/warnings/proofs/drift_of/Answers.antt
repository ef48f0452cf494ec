-- `drift_of` makes the tests in their order, and looks for windows where none of them holds.
use Rattle.std.proofs.Common.{sym, ap, ◌∙◌}
use Rattle.std.proofs.lemmas.Result.{err_from_is_err_and}
use lib.IntN.{nat_abs}
use Rattle.numbers.proofs.Machine.{stored_id}
use Rattle.rules.specs.LineState.{LineState, state_of}
use Rattle.rules.specs.code.Standing.{standing_of}
use Rattle.warnings.specs.Drift.{levelled_one_way, firsts_from, firsts, drift_of}
use Rattle.warnings.proofs.Warned.{window_read, window_warned, broken_warned, line_warned, warned}
use Rattle.warnings.proofs.drift_of.Goals as goal

pub returns-then-window_out : goal.returns-then-window_out
returns-then-window_out c =
    window_warned (state_of c.args.b.now) c.args.window (sym (window_read c.args.window c.ranges.window c.window_out.ensures) ∙ c.if-window_out.true)

pub returns-in_err-standing : goal.returns-in_err-standing
returns-in_err-standing c =
    let p = err_from_is_err_and c.from_residual.result c.from_residual.ensures.1 in
    rw (p.1, p.2) (broken_warned (state_of c.args.b.now) c.args.window c.in_err-standing.field-0.0 (sym (window_read c.args.window c.ranges.window c.window_out.ensures) ∙ c.if-window_out.false) c.in_err-standing.ensures.number)

pub returns-then-levelled_one_way : goal.returns-then-levelled_one_way
returns-then-levelled_one_way c =
    line_warned (state_of c.args.b.now) c.args.window (sym (window_read c.args.window c.ranges.window c.window_out.ensures) ∙ c.if-window_out.false) c.in_ok-standing.ensures.number
    (ap (λ (v : LineState). levelled_one_way v) (sym c.in_ok-standing.ensures.state) ∙ sym c.levelled_one_way.ensures ∙ c.if-levelled_one_way.true)

pub returns : goal.returns
returns c =
    let v = standing_of c.in_ok-standing.standing in
    warned (state_of c.args.b.now) c.args.window (sym (window_read c.args.window c.ranges.window c.window_out.ensures) ∙ c.if-window_out.false) c.in_ok-standing.ensures.number
    (ap (λ (s : LineState). levelled_one_way s) (sym c.in_ok-standing.ensures.state) ∙ sym c.levelled_one_way.ensures ∙ c.if-levelled_one_way.false)
    (c.find.ensures ∙ (λ i. drift_of (firsts_from (c.terms.ensures i).apart (nat_abs (stored_id c.ranges.window i)) 1 v.sections))
    ∙ ap (λ (s : LineState). drift_of (firsts s c.args.window)) c.in_ok-standing.ensures.state)
