-- `adjust`: the points are asked of the frame of sections that are adjusted.
use Rattle.std.proofs.Common.{arith}
use Rattle.numbers.proofs.Machine.{stored}
use Rattle.adjust.specs.Sizes.{most_prints}
use Rattle.adjust.specs.code.Bounds.{OneTo, Between}
use Rattle.adjust.proofs.Taken.{taken, taken_framed}
use Rattle.adjust.proofs.call.adjust.Goals as goal

pub points-points-requires : goal.points-points-requires
points-points-requires c =
    let ss = c.args.sections.now in
    let between : Between (stored c.args.start) (stored c.args.end) ss = grind (arith, taken) in
    let prints : OneTo most_prints (stored c.args.prints) = grind (arith, taken) in (
      taken_framed (stored c.args.start) (stored c.args.end) (stored c.args.prints) ss c.totals_between-t.result c.new.result c.totals_between-t.ensures c.new.ensures prints between,
      grind (arith, taken),
      grind (arith, taken),
    )
