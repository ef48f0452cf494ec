-- `check_open_line` refuses a line by what the call's numbers name: each is read back as it is.
use Rattle.rules.specs.LineState.{state_of}
use Rattle.rules.specs.declared.call.Call.TheVariants.{OpenLine as open_line}
use Rattle.rules.specs.code.Opened.{class_named}
use Rattle.rules.proofs.Opened.{line_refusal, opening_refused}
use Rattle.rules.proofs.opening.check_open_line.Goals as goal

pub returns : goal.returns
returns c =
    let v = state_of c.args.b.now in
    opening_refused v open_line class_named (line_refusal v) c.ranges.order c.ranges.instrument c.ranges.number c.ranges.height c.ranges.prints c.class_named.ensures c.instrument_named.ensures
    c.check_open.ensures.number
