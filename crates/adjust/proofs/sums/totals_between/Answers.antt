-- `totals_between`: ΣQ of one to 64 sections is in its range.
use Rattle.std.proofs.Common.{ap, rules, w64}
use lib.IntN.{ℤ}
use mir.Val.{SFits}
use Rattle.adjust.proofs.Sized.{between_sizes}
use Rattle.adjust.proofs.sums.totals_between.Goals as goal

pub totals_from-requires : goal.totals_from-requires
totals_from-requires c =
    let f : SFits w64 c.sums_of-height.result.0 = search rules in
    between_sizes (search rules) c.requires.1 c.ranges.start c.ranges.end f (ap (λ (t : ℤ × ℤ). t.0) c.sums_of-height.ensures)
