-- `next`: the sums of what is known to be small.
use Rattle.numbers.proofs.Chain.{known, add, kept}
use Rattle.plotter.proofs.Mark.next.Goals as goal

pub returns : goal.returns
returns c =
    let m = c.args.self in
    let x = c.args.x.now in
    let r = c.requires.0 in
    let b = c.requires.1 in
    λ i. record {
      distance = (kept (add (known m.distance r.distance tt) (known x.distance b.distance tt)) tt).is i;
      height = (kept (add (known m.height r.height tt) (known x.height b.height tt)) tt).is i;
    }
