-- What the loop of `accidental_sum` keeps: T so far and t of the sections that are left make T.
use Rattle.std.proofs.Common.{◌≡◌, List, ℕ, ◌*◌, ◌≤◌, drop}
use lib.IntN.{ℤ, nat_abs, ◌+ℤ◌}
use Rattle.numbers.proofs.All.{All}
use Rattle.adjust.specs.declared.Section.{Section}
use Rattle.adjust.specs.declared.terms.Terms.{Terms}
use Rattle.adjust.specs.Sizes.{most_t}
use Rattle.adjust.specs.Sections.{section_fits}
use Rattle.adjust.specs.Line.{accidental_sum}
use Rattle.adjust.proofs.accidental.accidental_sum.Given as goal

-- before place k is visited
pub record Going (terms : Terms) (n : ℕ) (ss : List Section) (k : ℕ) (t : ℤ) : Type 0 where
  pub small : nat_abs t ≤ most_t * k
  pub fit : All section_fits (drop k ss)
  pub whole : t +ℤ accidental_sum terms n (drop k ss) ≡ accidental_sum terms n ss

abbrev pub invariant-loop-x : goal.invariant-loop-x
invariant-loop-x l = Going l.terms (nat_abs l.squared) l.sections l.x-index l.t
