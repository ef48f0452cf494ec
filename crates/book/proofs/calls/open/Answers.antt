-- `open` takes its call of five numbers, each of which is read back as it is.
use mathlib.Core.Path.{subst}
use Rattle.rules.specs.declared.call.Call.{Call}
use Rattle.rules.specs.declared.call.Call.TheVariants.{OpenLine as open_line}
use Rattle.rules.proofs.Opened.{stored_five}
use Rattle.book.specs.Calls.{Answers}
use Rattle.book.proofs.calls.open.Goals as goal

pub returns : goal.returns
returns c =
    subst (λ (x : Call). Answers c.args.b x c.take.result) (stored_five open_line c.ranges.order c.ranges.instrument c.ranges.number c.ranges.height c.ranges.prints) c.take.ensures
