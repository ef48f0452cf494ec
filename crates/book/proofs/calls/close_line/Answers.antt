-- Where the closing is taken the figures of the book that it left fit, and they are the closing's.
use Rattle.std.proofs.Common.{subst, Some}
use Rattle.numbers.proofs.Machine.{stored, stored_both}
use Rattle.rules.specs.declared.call.Call.{Call}
use Rattle.rules.specs.declared.call.Call.TheVariants.{CloseLine as close_line}
use Rattle.book.specs.Calls.{Closes}
use Rattle.book.proofs.Joined.{closes}
use Rattle.book.proofs.Closable.{closed_answer_fits}
use Rattle.book.proofs.calls.close_line.Goals as goal

pub closed-requires : goal.closed-requires
closed-requires c = closed_answer_fits c.args.b (stored c.args.number) (Some (stored c.args.end)) c.take.ensures

pub returns : goal.returns
returns c =
    let told = c.closed.ensures in
    subst (λ (k : Call). Closes c.args.b k c.closed.result) (stored_both close_line c.ranges.number c.ranges.end)
    (closes c.args.b (close_line (stored c.args.number) (stored c.args.end)) c.closed.result c.take.ensures told.number told.figures told.book)
