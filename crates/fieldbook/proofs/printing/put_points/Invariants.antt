-- Before each point, what is left to write are the points from it on.
use Rattle.std.proofs.Common.{◌≡◌, ◌*◌, drop}
use Rattle.fieldbook.specs.code.Printed.{points_fit}
use Rattle.fieldbook.proofs.Written.{Left, points_left}
use Rattle.fieldbook.proofs.printing.put_points.Given as goal

abbrev pub invariant-loop-point : goal.invariant-loop-point
invariant-loop-point l =
    record {
      room : l.at ≡ 84 * l.point-index;
      fit : points_fit l.unit (drop l.point-index l.points);
      left : Left (points_left l.unit l.points 0) l.initial.buf (points_left l.unit l.points l.point-index) l.buf l.at;
    }
