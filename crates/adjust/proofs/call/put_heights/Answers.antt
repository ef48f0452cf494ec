-- `put_heights`: one height more is written, and none is left at the end.
use Rattle.std.proofs.Common.{List, ◌+◌, get_or, drop, map, refl, sym, ap, ◌∙◌, arith, rules}
use lib.IntN.{ℤ}
use lib.ListN.{drop_of_length-le, set}
use mir.Syntax.{w64}
use mir.Val.{SFits}
use Rattle.numbers.specs.Numbers.{put_at}
use Rattle.numbers.proofs.Machine.{stored_id}
use Rattle.numbers.proofs.Arrays.{drop_next, put_cons, put_all}
use Rattle.adjust.specs.declared.Point.{Point}
use Rattle.adjust.specs.Frames.{no_point}
use Rattle.adjust.proofs.call.put_heights.Goals as goal

pub loop-k-init : goal.loop-k-init
unfolding put_at
loop-k-init c = refl

pub loop-k-preserved : goal.loop-k-preserved
loop-k-preserved c =
    let points = c.args.points.now in
    let k = c.loop-k.k in
    let fits : SFits w64 (get_or points k no_point).height = search rules in
    ap (λ (z : ℤ). put_at (set c.loop-k.heights k z) (k + 1) (map (λ (p : Point). p.height) (drop (k + 1) points))) (stored_id fits)
    ∙ put_cons c.loop-k.heights k (get_or points k no_point).height (map (λ (p : Point). p.height) (drop (k + 1) points)) (omega arith)
    ∙ sym (ap (λ (ps : List Point). put_at c.loop-k.heights k (map (λ (p : Point). p.height) ps)) (drop_next points k no_point (omega arith)))
    ∙ c.loop-k.invariant

pub returns : goal.returns
returns c =
    put_all c.loop-k.heights c.loop-k.k (ap (map (λ (p : Point). p.height)) (drop_of_length-le c.args.points.now {i = c.loop-k.k} (omega arith))) c.loop-k.invariant
