-- Each figure is the number that it is read from.
use mathlib.Core.Path.{ap, ◌∙◌}
use mathlib.Core.List.{[], ◌∷◌}
use lib.IntN.{pos}
use Rattle.std.proofs.Common.{rules, arith}
use mir.Syntax.{w64}
use mir.Val.{SFits}
use Rattle.numbers.proofs.Machine.{stored_id, cast_nat}
use Rattle.runner.proofs.figures.head_of.Goals as goal

pub returns : goal.returns
returns c =
    let s = c.args.s.now in
    let run = c.args.run.now in
    let f : SFits w64 c.args.s.now.closure × SFits w64 c.args.s.now.distance × SFits w64 c.args.s.now.accidental
    × SFits w64 c.args.run.now.height × SFits w64 c.args.run.now.sights × SFits w64 c.args.run.now.difference = search rules in
    λ i.
    stored_id f.0 i ∷ stored_id f.1 i ∷ cast_nat s.count (omega (arith, c.requires)) i ∷ stored_id f.2 i
    ∷ (cast_nat c.number.result (omega arith) ∙ ap pos c.number.ensures) i ∷ cast_nat run.count (omega (arith, c.requires)) i
    ∷ stored_id f.3 i ∷ stored_id f.4 i ∷ stored_id f.5 i ∷ cast_nat c.args.sections (omega (arith, c.requires)) i ∷ []
