-- The title, and the lines behind it.
use Rattle.std.proofs.Common.{sym, ap, ◌∙◌, map, length, arith, length-append}
use Rattle.columns.specs.Texts.{joined}
use Rattle.fieldbook.proofs.Written.{put_both}
use Rattle.warnings.specs.Text.{drift_title, drift_line}
use Rattle.warnings.proofs.Lines.{title_put, title_long, warnings_long, below_title}
use Rattle.warnings.proofs.printing.put_warnings.Goals as goal

pub overflow_add-result : goal.overflow_add-result
overflow_add-result c = omega (arith, c.put_firsts.ensures.value, warnings_long c.args.firsts.now c.requires.1.1, c.requires.1.0)

pub returns : goal.returns
returns c =
    let ks = c.args.firsts.now in
    let below = joined (map drift_line ks) in
    record {
      value = omega (arith, c.put_firsts.ensures.value, ap length (below_title ks), length-append drift_title below, title_long);
      buf_after =
          put_both c.args.out.now drift_title below _ (below_title ks) (c.put_line.ensures.buf_after ∙ title_put c.args.out.now (omega (arith, c.requires.0))) (sym title_long) c.put_firsts.ensures.buf_after;
    }
