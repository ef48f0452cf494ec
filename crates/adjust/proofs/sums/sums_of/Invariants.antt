-- What the loop of `sums_of` keeps: the sums so far and those of the sections that are left make the line's.
use Rattle.std.proofs.Common.{◌≡◌, List, ℕ, ◌*◌, ◌≤◌, drop}
use lib.IntN.{ℤ, nat_abs, ◌+ℤ◌}
use Rattle.adjust.specs.declared.Section.{Section}
use Rattle.adjust.specs.Sizes.{most_q, most_r}
use Rattle.adjust.specs.Line.{line_height, line_length}
use Rattle.adjust.proofs.Lists.{Fit}
use Rattle.adjust.proofs.sums.sums_of.Given as goal

-- before place k is visited
pub record Going (ss : List Section) (k : ℕ) (height distance : ℤ) : Type 0 where
  pub high : nat_abs height ≤ most_q * k
  pub long : nat_abs distance ≤ most_r * k
  pub fit : Fit (drop k ss)
  pub heights : height +ℤ line_height (drop k ss) ≡ line_height ss
  pub distances : distance +ℤ line_length (drop k ss) ≡ line_length ss

abbrev pub invariant-loop-x : goal.invariant-loop-x
invariant-loop-x l = Going l.sections l.x-index l.height l.distance
