-- `ready` returns the book of the reading before the first line.
use Rattle.repeat.proofs.Reached.{ready_holds}
use Rattle.repeat.proofs.reading.ready.Goals as goal

pub returns : goal.returns
returns c = ready_holds c.args.class c.args.instrument c.fresh-book.result c.fresh-book.ensures
