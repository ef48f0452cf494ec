-- What the loop of `put_heights` keeps: with the heights that are left to write, all are written.
use Rattle.std.proofs.Common.{◌≡◌, map, drop}
use Rattle.numbers.specs.Numbers.{over, put_at}
use Rattle.adjust.specs.declared.Point.{Point}
use Rattle.adjust.proofs.call.put_heights.Given as goal

abbrev pub invariant-loop-k : goal.invariant-loop-k
invariant-loop-k l = put_at l.heights l.k (map (λ (p : Point). p.height) (drop l.k l.points)) ≡ over (map (λ (p : Point). p.height) l.points) l.fn.heights
