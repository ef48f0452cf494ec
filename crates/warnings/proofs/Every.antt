-- A book that calls made is answered by the warnings of its standing list.
use mathlib.Core.Path.{◌≡◌, ap, subst, ◌∙◌}
use Rattle.std.specs.Prelude.{IfOk}
use Rattle.rules.specs.LineState.{LineState, state_of}
use Rattle.ledger.specs.Plain.{fresh_reading, after, plain_state}
use Rattle.ledger.proofs.Kept.{calls_kept}
use Rattle.ledger.proofs.Traced.{every_trace}
use Rattle.warnings.specs.declared.Drift.{Drift}
use Rattle.warnings.specs.Drift.{firsts, drift_refusal, drift_of}
use Rattle.warnings.specs.Claims.{EveryWarning}
use Rattle.warnings.proofs.Texts.{number_kept}

pub every_warning : EveryWarning
every_warning b e calls ns gs f t w r a =
    let v : LineState = plain_state (after fresh_reading calls) in
    let same : state_of e ≡ v = (every_trace b e calls ns gs f t).holds in
    record {
      number = a.number ∙ ap (λ (s : LineState). drift_refusal s w) same ∙ number_kept v w (calls_kept calls);
      firsts = subst (λ (s : LineState). IfOk r (λ (d : Drift). d ≡ drift_of (firsts s w))) same a.firsts;
    }
