-- `check_open_spur` refuses a spur by what the call's numbers name: each is read back as it is.
use Rattle.rules.specs.LineState.{state_of}
use Rattle.rules.specs.declared.call.Call.TheVariants.{OpenSpur as open_spur}
use Rattle.rules.specs.code.Opened.{spur_named}
use Rattle.rules.proofs.Opened.{spur_refusal, opening_refused}
use Rattle.rules.proofs.opening.check_open_spur.Goals as goal

pub returns : goal.returns
returns c =
    let v = state_of c.args.b.now in
    opening_refused v open_spur spur_named (spur_refusal v) c.ranges.order c.ranges.instrument c.ranges.number c.ranges.height c.ranges.prints c.spur_named.ensures c.instrument_named.ensures
    c.check_open.ensures.number
