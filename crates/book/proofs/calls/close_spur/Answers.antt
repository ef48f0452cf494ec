-- Where the closing is taken the figures of the book that it left fit, and they are the closing's.
use Rattle.std.proofs.Common.{ap, subst, None}
use Rattle.numbers.proofs.Machine.{stored, stored_id}
use Rattle.rules.specs.declared.call.Call.{Call}
use Rattle.rules.specs.declared.call.Call.TheVariants.{CloseSpur as close_spur}
use Rattle.book.specs.Calls.{Closes}
use Rattle.book.proofs.Joined.{closes}
use Rattle.book.proofs.Closable.{closed_answer_fits}
use Rattle.book.proofs.calls.close_spur.Goals as goal

pub closed-requires : goal.closed-requires
closed-requires c = closed_answer_fits c.args.b (stored c.args.number) None c.take.ensures

pub returns : goal.returns
returns c =
    let told = c.closed.ensures in
    subst (λ (k : Call). Closes c.args.b k c.closed.result) (ap close_spur (stored_id c.ranges.number))
    (closes c.args.b (close_spur (stored c.args.number)) c.closed.result c.take.ensures told.number told.figures told.book)
