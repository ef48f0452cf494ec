-- A text that is too long is refused, and of one that is read the book is the plain reading's.
use Rattle.std.proofs.Common.{◌≡◌, ap, ◌∙◌, List, ℕ, ℤ}
use Rattle.std.proofs.lemmas.Result.{err_from_is_err_and}
use Rattle.std.specs.Prelude.{IfOk}
use mathlib.Core.Path.{subst}
use Rattle.numbers.proofs.Machine.{stored_id}
use Rattle.rules.specs.LineState.{state_of}
use Rattle.textbook.specs.declared.text.State.{State}
use Rattle.warnings.specs.declared.Drift.{Drift}
use Rattle.warnings.specs.Drift.{drift_refusal, firsts, drift_of}
use Rattle.warnings.proofs.Texts.{too_long_refused, number_read, firsts_read}
use Rattle.warnings.proofs.entry.drift_in_text.Goals as goal

pub returns-in_err-read_text-clause-number : goal.returns-in_err-read_text-clause-number
returns-in_err-read_text-clause-number c =
    let p = err_from_is_err_and c.from_residual.result c.from_residual.ensures.1 in
    rw (p.1, p.2) (too_long_refused c.args.text.now c.args.window c.in_err-read_text.field-0.0 c.in_err-read_text.ensures.number)

pub returns-clause-number : goal.returns-clause-number
returns-clause-number c =
    c.drift_of.ensures.number
    ∙ ap (λ (w : ℤ). drift_refusal (state_of c.in_ok-read_text.field-0.book) w) (stored_id c.ranges.window)
    ∙ number_read c.args.text.now c.args.window c.in_ok-read_text.ensures.number (ap (λ (s : State). s.book) c.in_ok-read_text.ensures.state)

pub returns-clause-drift : goal.returns-clause-drift
returns-clause-drift c =
    subst (λ (ks : List ℕ). IfOk c.drift_of.result (λ (d : Drift). d ≡ drift_of ks))
    (ap (λ (w : ℤ). firsts (state_of c.in_ok-read_text.field-0.book) w) (stored_id c.ranges.window) ∙ firsts_read c.args.text.now c.args.window (ap (λ (s : State). s.book) c.in_ok-read_text.ensures.state))
    c.drift_of.ensures.firsts
