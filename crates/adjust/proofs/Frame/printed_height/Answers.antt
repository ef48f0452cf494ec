-- `printed_height`: units × L is a divisor in its range, so the promise of rounding is the printed height.
use Rattle.std.proofs.Common.{◌*◌, ap, ◌∙◌, arith, rules}
use lib.IntN.{◌*ℤ◌}
use mir.Syntax.{w64}
use mir.Val.{SFits}
use Rattle.roots.specs.Round.{round_even, divisor}
use Rattle.numbers.proofs.Machine.{stored, stored_id}
use Rattle.numbers.proofs.Chain.{Value, known, mul, fits, kept}
use Rattle.adjust.specs.declared.Frame.{Frame}
use Rattle.adjust.specs.Sizes.{most_units, most_l}
use Rattle.adjust.specs.Line.{exact_top}
use Rattle.adjust.specs.code.Bounds.{Framed}
use Rattle.adjust.proofs.Bounded.{divides}
use Rattle.adjust.proofs.Frame.printed_height.Goals as goal

total : (f : Frame) → Framed f → Value (stored f.units *ℤ stored f.total) (f.units *ℤ f.total) (most_units * most_l)
total f h = mul (known f.units h.units.most tt) (known f.total h.total.most tt)

pub overflow_mul-self : goal.overflow_mul-self
overflow_mul-self c = fits (total c.args.self c.requires.0) tt

pub returns : goal.returns
returns c =
    let f = c.args.self in
    let top : SFits w64 c.exact_top.result = search rules in
    let out : SFits w64 c.round_half_even.result = search rules in
    let n = stored_id top ∙ c.exact_top.ensures ∙ (λ i. exact_top f (stored_id c.ranges.q i) (stored_id c.ranges.s i)) in
    stored_id out ∙ c.round_half_even.ensures ∙ (λ i. round_even (n i) (divisor ((kept (total f c.requires.0) tt).is i)))
    ∙ ap (round_even (exact_top f c.args.q c.args.s)) (divides c.requires.0.units c.requires.0.total (omega arith))
