-- Point k is written, and then no point is left.
use Rattle.std.proofs.Common.{◌≡◌, ◌+◌, get_or, arith}
use Rattle.adjust.specs.Frames.{no_point}
use Rattle.fieldbook.specs.Report.{point_line}
use Rattle.fieldbook.proofs.Written.{part_put, left_turn, left_none, points_left, points_turn, no_point_left, first_fits, others_fit, point_long}
use Rattle.fieldbook.proofs.printing.put_points.Goals as goal

module _ (c : goal.After-slice_known-in-loop-point-1) where
  long : c.put_point-at.result ≡ 84
  long =
      let ps = c.args.points.now in
      let k = c.loop-point.point-index in
      omega (arith, c.put_point-at.ensures.value, point_long c.args.unit (get_or ps k no_point) (first_fits c.args.unit ps k c.loop-point-test.true c.loop-point.invariant.fit))

pub overflow_add-at : goal.overflow_add-at
overflow_add-at c = omega (arith, long c)

pub loop-point-preserved : goal.loop-point-preserved
loop-point-preserved c =
    let ps = c.args.points.now in
    let k = c.loop-point.point-index in
    let h = c.loop-point-test.true in
    let p = point_line c.args.unit (get_or ps k no_point) in
    let after = c.put_point-at.ensures in
    let is = long c in
    record {
      room = omega (arith, is);
      fit = others_fit c.args.unit ps k h c.loop-point.invariant.fit;
      left = left_turn c.loop-point.invariant.left p (points_left c.args.unit ps (k + 1)) (points_turn c.args.unit ps k h) (omega (arith, is, after.value)) (part_put c.loop-point.buf c.put_point-at.new.buf p c.loop-point.at after.buf_after) (omega (arith, after.value));
    }

pub returns : goal.returns
returns c = left_none c.loop-point.invariant.left (no_point_left c.args.unit c.args.points.now c.loop-point.point-index (omega arith))
