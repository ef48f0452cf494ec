-- Section k is looked at, and then none is left.
use Rattle.std.proofs.Common.{◌≡◌, ◌+◌, sym, ap, ◌∙◌, drop}
use mathlib.Core.Path.{subst}
use Rattle.columns.proofs.Lists.{part_rest}
use Rattle.warnings.specs.Drift.{begins}
use Rattle.warnings.proofs.Found.{Found, not_found, one_found}
use Rattle.warnings.proofs.windows.find.Goals as goal
use Rattle.warnings.proofs.windows.find.Goals.{then-begins, else-begins}

pub loop-k-preserved : goal.loop-k-preserved
loop-k-preserved c =
    let apart = c.args.apart in
    let w = c.args.window in
    let ss = c.args.sections.now in
    let k = c.loop-k.k in
    let here : begins apart w (drop k ss) ≡ c.begins.result = ap (begins apart w) (sym (part_rest ss k)) ∙ sym c.begins.ensures in
    elim c.if-begins.branch [
      | then-begins w ↦ one_found apart c.args.window c.loop-k-test.true c.loop-k.invariant (here ∙ w.if-begins.true) c.requires.1.0 c.requires.1.1 (w.drift-is ∙ w.add.ensures)
      | else-begins w ↦ subst (Found apart c.args.window ss (k + 1)) (sym w.drift-is) (not_found apart c.args.window c.loop-k-test.true c.loop-k.invariant (here ∙ w.if-begins.false))
    ]
