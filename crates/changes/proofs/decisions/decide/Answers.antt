-- `decide` opens a line or a spur by what the call's numbers name: each is read back as it is.
use Rattle.std.proofs.Common.{rules}
use Rattle.rules.specs.declared.call.Call.TheVariants.{OpenLine as open_line, OpenSpur as open_spur}
use Rattle.rules.specs.code.Opened.{class_named, spur_named}
use Rattle.changes.proofs.Joined.{opens_as, opens_line, opens_spur}
use Rattle.changes.proofs.decisions.decide.Goals as goal

pub returns-in-OpenLine : goal.returns-in-OpenLine
returns-in-OpenLine c =
    opens_as c.args.b.now open_line class_named (opens_line c.args.b.now) (search rules) (search rules) (search rules) (search rules) (search rules) c.in-OpenLine.is
    c.class_named.ensures c.instrument_named.ensures (c.open_change.ensures.number, c.open_change.ensures.change)

pub returns-in-OpenSpur : goal.returns-in-OpenSpur
returns-in-OpenSpur c =
    opens_as c.args.b.now open_spur spur_named (opens_spur c.args.b.now) (search rules) (search rules) (search rules) (search rules) (search rules) c.in-OpenSpur.is
    c.spur_named.ensures c.instrument_named-in-OpenSpur.ensures (c.open_change-in-OpenSpur.ensures.number, c.open_change-in-OpenSpur.ensures.change)
