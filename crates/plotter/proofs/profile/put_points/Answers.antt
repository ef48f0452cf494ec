-- `put_points`: the start, and behind it the sections.
use Rattle.std.proofs.Common.{length, arith, length-append, ap}
use Rattle.fieldbook.proofs.Written.{put_both}
use Rattle.plotter.specs.Profile.{mark_bytes}
use Rattle.plotter.proofs.Written.{mark_long, marks_long, points_left, points_bytes}
use Rattle.plotter.proofs.profile.put_points.Goals as goal

pub overflow_add-result : goal.overflow_add-result
overflow_add-result c =
    let m = c.args.start in
    omega (arith, c.put_mark-at.ensures.value, c.put_sections.ensures.value, mark_long m, marks_long m c.args.sections.now, c.requires.1.0.few)

pub returns : goal.returns
returns c =
    let m = c.args.start in
    let ss = c.args.sections.now in
    let first = c.put_mark-at.ensures in
    let others = c.put_sections.ensures in
    record {
      value = omega (arith, first.value, others.value, ap length (points_bytes m ss), length-append (mark_bytes m) (points_left m ss));
      buf_after = put_both c.args.buf.now (mark_bytes m) (points_left m ss) _ (points_bytes m ss) first.buf_after first.value others.buf_after;
    }
