-- With the figures of the points that are left to put, all are put.
use mathlib.Core.Path.{◌≡◌}
use Prim.Native.Nat.{◌+◌, ◌*◌}
use lib.ListN.{drop}
use lib.Seq.{sets}
use Rattle.runner.specs.Figures.{point_figures}
use Rattle.runner.proofs.figures.put_points.Given as goal

abbrev pub invariant-loop-k : goal.invariant-loop-k
invariant-loop-k l = sets l.list (4 * l.k + 10) (point_figures (drop l.k l.points)) ≡ sets l.initial.list 10 (point_figures l.points)
