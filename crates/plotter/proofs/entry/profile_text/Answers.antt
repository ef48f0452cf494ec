-- `profile_text`: a text that is too long, and what is answered of the book of another.
use Rattle.std.proofs.lemmas.Result.{err_from_is_err_and}
use Rattle.plotter.proofs.Calls.{unread_text, of_book}
use Rattle.plotter.proofs.entry.profile_text.Goals as goal

pub returns-in_err-state-clause-profiles : goal.returns-in_err-state-clause-profiles
returns-in_err-state-clause-profiles c =
    let p = err_from_is_err_and c.from_residual.result c.from_residual.ensures.1 in
    rw (p.1, p.2) (unread_text c.args.text.now c.args.buf.now c.in_err-state.field-0.0 c.in_err-state.ensures.number).0

pub returns-in_err-state-clause-buf_after : goal.returns-in_err-state-clause-buf_after
returns-in_err-state-clause-buf_after c = (unread_text c.args.text.now c.args.buf.now c.in_err-state.field-0.0 c.in_err-state.ensures.number).1

pub returns-clause-profiles : goal.returns-clause-profiles
returns-clause-profiles c =
    (of_book c.args.text.now c.args.buf.now c.in_ok-state.ensures.number c.in_ok-state.ensures.state c.put_profile.ensures.profiles c.put_profile.ensures.buf_after).0

pub returns-clause-buf_after : goal.returns-clause-buf_after
returns-clause-buf_after c =
    (of_book c.args.text.now c.args.buf.now c.in_ok-state.ensures.number c.in_ok-state.ensures.state c.put_profile.ensures.profiles c.put_profile.ensures.buf_after).1
