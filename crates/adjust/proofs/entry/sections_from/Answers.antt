-- `sections_from`: one leg more is put in, and with the last all are.
use Rattle.std.proofs.Common.{arith}
use lib.IntN.{pos}
use Rattle.adjust.specs.declared.entry.Leg.{Leg}
use Rattle.adjust.proofs.Legs.{legs_next}
use Rattle.adjust.proofs.entry.sections_from.Goals as goal

abbrev no_leg : Leg
no_leg = record { height = pos 0; distance = pos 0 }

pub loop-k-preserved : goal.loop-k-preserved
loop-k-preserved c = legs_next c.args.legs.now c.loop-k.places c.loop-k.k no_leg c.from.result c.loop-k.invariant c.from.ensures (omega arith) (omega arith)
