-- `with_station` returns the line with a small run's sums and a station's: each sum fits, so that it is read back as it is.
use mathlib.Core.Path.{◌∙◌}
use Rattle.std.proofs.Common.{◌+◌}
use Rattle.numbers.proofs.Machine.{stored_id}
use Rattle.numbers.proofs.Chain.{known, add, kept}
use Rattle.rules.specs.Rules.{with_runs}
use Rattle.changes.proofs.effects.with_station.Goals as goal

pub returns : goal.returns
returns c =
    let l = c.args.line.now in
    let u = c.args.line.now.present in
    let f = c.args.f.now in
    let run = c.requires.0 in
    let small = c.requires.1 in
    let sight = kept (add (known f.back.sight small.back.sight tt) (known f.fore.sight small.fore.sight tt)) tt in
    c.with_runs.ensures
    ∙ (λ i.
    with_runs l l.waiting
    (record {
      count = u.count + 1;
      height = (kept (add (known u.height run.height tt) (known f.height small.height tt)) tt).is i;
      sights = (kept (add (known u.sights run.sights tt) sight) tt).is i;
      difference = (kept (add (known u.difference run.difference tt) (known f.difference small.difference tt)) tt).is i;
      last = stored_id c.ranges.kf i;
    }))
