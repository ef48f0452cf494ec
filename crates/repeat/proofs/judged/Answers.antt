-- `judged` makes the three comparisons: each sum fits, so that it is read back as it is.
use Rattle.std.proofs.Common.{◌∙◌, pos}
use Rattle.numbers.proofs.Machine.{stored_id}
use Rattle.numbers.proofs.Chain.{known, literal, add, sub, mul, kept}
use Rattle.repeat.specs.Repeat.{near, chosen}
use Rattle.repeat.proofs.judged.Goals as goal

pub returns : goal.returns
returns c =
    let root = c.args.root in
    let r = stored_id c.ranges.r in
    let old = known c.args.old c.requires.old tt in
    let new = known c.args.new c.requires.new tt in
    let opposite = known c.args.opposite c.requires.opposite tt in
    let against_old = (kept (sub new old) tt).is in
    let double_mean = (kept (add (kept (add old new) tt) (kept (mul (literal (pos 2)) opposite) tt)) tt).is in
    let against_opposite = (kept (add new opposite) tt).is in
    c.chosen.ensures
    ∙ (λ i. chosen (c.is_near-against_old.ensures i) (c.is_near-mean.ensures i) (c.is_near-against_opposite.ensures i))
    ∙ (λ i. chosen (near root (r i) (against_old i)) (near (c.doubled.ensures i) (r i) (double_mean i)) (near root (r i) (against_opposite i)))
