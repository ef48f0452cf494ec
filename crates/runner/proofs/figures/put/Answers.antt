-- As many figures are copied as there are places for.
use Rattle.std.proofs.Common.{ap, ◌∙◌, ◌+◌, ◌-◌}
use borrow.Rule.Slice.PartMut.{put_mid}
use Rattle.runner.proofs.Laws.{stores_part}
use Rattle.runner.proofs.figures.put.Goals as goal

pub returns : goal.returns
returns c =
    let list = c.args.list.now in
    let at = c.min-at.result in
    let n = c.min-places.result in
    ap (put_mid at (at + n - at) list) c.copy_from_slice.ensures.after
    ∙ stores_part list c.args.at at n c.args.figures.now c.min-at.ensures c.min-places.ensures
