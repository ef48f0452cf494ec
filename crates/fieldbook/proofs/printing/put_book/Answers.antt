-- Of a book that is not closed, OPN is written, and has room.
use Rattle.std.proofs.Common.{ap, length, arith}
use Rattle.fieldbook.proofs.Written.{book_open, open_long}
use Rattle.fieldbook.proofs.printing.put_book.Goals as goal

pub put_open-requires : goal.put_open-requires
put_open-requires c =
    let b = c.args.b.now in
    let few = c.requires.0.few in
    (omega (arith, ap length (book_open b c.in-Err.field-0 c.in-Err.ensures), open_long b.sections.count few), few)

pub returns-in-Err : goal.returns-in-Err
returns-in-Err c = rw (book_open c.args.b.now c.in-Err.field-0 c.in-Err.ensures) c.put_open.ensures
