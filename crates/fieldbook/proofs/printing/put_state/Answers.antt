-- The title is written, and the lines below it to the rest.
use Rattle.std.proofs.Common.{sym, ◌∙◌, arith}
use Rattle.columns.specs.Lines.{title}
use Rattle.columns.specs.Texts.{joined}
use Rattle.columns.proofs.Lines.{length_title}
use Rattle.fieldbook.specs.code.Printed.{below_title, state_lines}
use Rattle.fieldbook.proofs.Written.{put_both, state_bytes, state_long, title_put}
use Rattle.fieldbook.proofs.printing.put_state.Goals as goal

pub returns : goal.returns
returns c =
    let d = c.args.buf.now in
    let s = c.args.s.now in
    record {
      value = omega (arith, state_long s, c.put_below.ensures.value);
      buf_after = put_both d title (joined (below_title s)) (joined (state_lines s)) (state_bytes s) (c.put_title.ensures.buf_after ∙ title_put d (omega arith)) (sym length_title) c.put_below.ensures.buf_after;
    }
