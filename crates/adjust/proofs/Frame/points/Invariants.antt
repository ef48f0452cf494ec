-- What the loop of `points` keeps: with the points that are left to write, all are written, and with the sections that are left the distance is L.
use Rattle.std.proofs.Common.{◌≡◌, List, ℕ, ◌+◌, length, drop}
use lib.ListN.{replicate}
use lib.IntN.{ℤ, ◌+ℤ◌}
use Rattle.numbers.specs.Numbers.{over, put_at}
use Rattle.adjust.specs.declared.Point.{Point}
use Rattle.adjust.specs.declared.Section.{Section}
use Rattle.adjust.specs.declared.Frame.{Frame}
use Rattle.adjust.specs.Line.{line_length, points_after, points}
use Rattle.adjust.specs.Frames.{no_point}
use Rattle.adjust.specs.code.Bounds.{Reached}
use Rattle.adjust.proofs.Lists.{Fit}
use Rattle.adjust.proofs.Frame.points.Given as goal

-- before place k is visited
pub record Going (f : Frame) (number : ℤ) (ss : List Section) (array : List Point) (q : ℤ) (p : Point) (k : ℕ) : Type 0 where
  pub reached : Reached f k q p
  pub fit : Fit (drop k ss)
  pub ends : p.distance +ℤ line_length (drop k ss) ≡ f.total
  pub room : length array ≡ 65
  pub left : put_at array (k + 1) (points_after f q p.distance p.height (drop k ss)) ≡ over (points f number ss) (replicate 65 no_point)

abbrev pub invariant-loop-k : goal.invariant-loop-k
invariant-loop-k l = Going l.self l.fn.number l.sections l.points l.q l.point l.k
