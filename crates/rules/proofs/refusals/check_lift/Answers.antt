-- `check_lift` gives the number of the state's tests where 20 does not apply.
use Rattle.std.proofs.Common.{refl}
use Rattle.rules.specs.LineState.{state_of}
use Rattle.rules.specs.code.Standing.{standing_of}
use Rattle.rules.specs.declared.call.Call.TheVariants.{LiftSection as lift_section}
use Rattle.rules.proofs.Parts.{state_told}
use Rattle.rules.proofs.refusals.check_lift.Goals as goal

pub returns-clause-number : goal.returns-clause-number
returns-clause-number c =
    state_told (state_of c.args.b.now) (standing_of c.in_ok-of_last.field-0) lift_section refl c.in_ok-of_last.ensures.number c.in_ok-of_last.ensures.state c.check_lift_on.ensures.number
