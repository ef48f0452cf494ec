-- `both_ways` returns the section of two small runs: each sum and difference of theirs fits, so that it is read back as it is.
use Rattle.std.proofs.Common.{rules, w64}
use mir.Val.{SFits}
use Rattle.numbers.proofs.Machine.{stored_id}
use Rattle.numbers.proofs.Chain.{known, add, sub, kept}
use Rattle.changes.proofs.effects.both_ways.Goals as goal

pub returns : goal.returns
returns c =
    let out = c.args.outward.now.run in
    let back = c.args.back.now in
    let o = c.requires.0 in
    let b = c.requires.1 in
    let fits : SFits w64 c.args.outward.now.number = search rules in
    λ i.
    record {
      number = stored_id fits i;
      height = (kept (sub (known out.height o.height tt) (known back.height b.height tt)) tt).is i;
      distance = (kept (add (known out.sights o.sights tt) (known back.sights b.sights tt)) tt).is i;
      discrepancy = (kept (add (known out.height o.height tt) (known back.height b.height tt)) tt).is i;
    }
