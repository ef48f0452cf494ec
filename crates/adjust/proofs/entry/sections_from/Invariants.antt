-- What the loop of `sections_from` keeps: the array holds the first k legs as sections, and zeros.
use Rattle.std.proofs.Common.{◌≡◌, take}
use Rattle.numbers.specs.Numbers.{filled}
use Rattle.adjust.specs.Sections.{no_section}
use Rattle.adjust.specs.Legs.{leg_sections}
use Rattle.adjust.proofs.entry.sections_from.Given as goal

abbrev pub invariant-loop-k : goal.invariant-loop-k
invariant-loop-k l = l.places ≡ filled no_section 64 (take l.k (leg_sections l.legs))
