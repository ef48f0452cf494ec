-- One more point's figures are put; behind the last there are none.
use mathlib.Core.Path.{◌≡◌, sym, ap, ◌∙◌}
use mathlib.Core.List.{List, [], ◌∷◌}
use Prim.Native.Nat.{suc, ◌+◌, ◌*◌}
use Rattle.std.proofs.Common.{rules, arith}
use lib.ListN.{get_or, drop, drop_of_length-le}
use lib.Seq.{sets}
use mir.Syntax.{w64}
use mir.Val.{SFits}
use Rattle.numbers.proofs.Arrays.{drop_next}
use Rattle.numbers.proofs.Machine.{stored_id}
use Rattle.adjust.specs.declared.Point.{Point}
use Rattle.adjust.specs.Frames.{no_point}
use Rattle.runner.specs.Figures.{point_figures}
use Rattle.runner.proofs.figures.put_points.Goals as goal

pub loop-k-preserved : goal.loop-k-preserved
unfolding point_figures
loop-k-preserved c =
    let points = c.args.points.now in
    let list = c.loop-k.list in
    let k = c.loop-k.k in
    let f : SFits w64 (get_or c.args.points.now c.loop-k.k no_point).number × SFits w64 (get_or c.args.points.now c.loop-k.k no_point).distance
    × SFits w64 (get_or c.args.points.now c.loop-k.k no_point).correction × SFits w64 (get_or c.args.points.now c.loop-k.k no_point).height = search rules in
    let next : 4 * (k + 1) + 10 ≡ suc (suc (suc (suc (4 * k + 10)))) = omega arith in
    let put = c.put.ensures ∙ (λ i. sets list (4 * k + 10) (stored_id f.0 i ∷ stored_id f.1 i ∷ stored_id f.2 i ∷ stored_id f.3 i ∷ [])) in
    (λ i. sets (put i) (next i) (point_figures (drop (k + 1) points)))
    ∙ ap (λ (ps : List Point). sets list (4 * k + 10) (point_figures ps)) (sym (drop_next points k no_point (omega arith)))
    ∙ c.loop-k.invariant

pub returns : goal.returns
unfolding point_figures
returns c =
    let points = c.args.points.now in
    let k = c.loop-k.k in
    ap (λ (ps : List Point). sets c.loop-k.list (4 * k + 10) (point_figures ps)) (sym (drop_of_length-le points {i = k} (omega arith))) ∙ c.loop-k.invariant
