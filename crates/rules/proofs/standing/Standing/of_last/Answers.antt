-- `of_last` gives 20 where the line is broken, whatever the last section is.
use Rattle.std.proofs.Common.{◌≡◌, ◌∙◌, Bool, true, false, cond, ◌||◌, rules}
use Rattle.records.specs.declared.Refusal.{Refusal}
use Rattle.records.specs.Refusals.{refusal_number, number_of}
use Rattle.records.proofs.Numbered.{not_zero}
use Rattle.rules.proofs.standing.Standing.of_last.Goals as goal

broke : (e : Refusal) (s l : Bool) → refusal_number e ≡ cond l 20 0 → refusal_number e ≡ cond (s || l) 20 0
broke e true true h = h
broke e true false h = absurd (not_zero e h)
broke e false l h = h

pub returns-in_err-standing-clause-number : goal.returns-in_err-standing-clause-number
returns-in_err-standing-clause-number c =
    let e = c.in_err-standing.field-0.0 in
    let told : number_of c.from_residual.result ≡ refusal_number e = search rules in
    told ∙ broke e _ _ c.in_err-standing.ensures.number
