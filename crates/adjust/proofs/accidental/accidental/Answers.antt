-- `accidental`: each product fits, so what rounding gives is t of the section.
use Rattle.std.proofs.Common.{◌*◌, ◌≤◌, ap, ◌∙◌, arith, rules}
use lib.IntN.{ℤ, pos, nat_abs, ◌*ℤ◌}
use mir.Syntax.{w64}
use mir.Val.{SFits}
use Rattle.roots.specs.Round.{round_even, divisor}
use Rattle.numbers.proofs.Sizes.{abs_mul}
use Rattle.numbers.proofs.Machine.{stored, stored_id}
use Rattle.numbers.proofs.Chain.{Value, known, literal, mul, kept}
use Rattle.adjust.specs.declared.Section.{Section}
use Rattle.adjust.specs.Sizes.{most_r, most_d, most_squared}
use Rattle.adjust.specs.code.Bounds.{OneTo, LegBounds}
use Rattle.adjust.proofs.Bounded.{divides}
use Rattle.adjust.proofs.accidental.accidental.Goals as goal

module _ (squared : ℤ) (x : Section) (one : OneTo most_squared squared) (d : nat_abs x.discrepancy ≤ most_d) (h : LegBounds x) where
  top :
      Value (pos 500000 *ℤ stored (stored x.discrepancy *ℤ stored x.discrepancy)) (pos 500000 *ℤ (x.discrepancy *ℤ x.discrepancy)) (500000 * (most_d * most_d))
  top = mul (literal (pos 500000)) (kept (mul (known x.discrepancy d tt) (known x.discrepancy d tt)) tt)

  divides_by : Value (stored squared *ℤ stored x.distance) (squared *ℤ x.distance) (most_squared * most_r)
  divides_by = mul (known squared one.most tt) (known x.distance h.distance tt)

pub returns : goal.returns
returns c =
    let x = c.args.x.now in
    let out : SFits w64 c.round_half_even.result = search rules in
    let long : OneTo most_r x.distance = record { least = c.requires.2.long; most = c.requires.2.distance } in
    let n = (kept (top c.args.squared x c.requires.0 c.requires.1 c.requires.2) tt).is in
    let d = (kept (divides_by c.args.squared x c.requires.0 c.requires.1 c.requires.2) tt).is in
    stored_id out ∙ c.round_half_even.ensures ∙ (λ i. round_even (n i) (divisor (d i)))
    ∙ ap (round_even (pos 500000 *ℤ (x.discrepancy *ℤ x.discrepancy))) (divides c.requires.0 long (omega arith) ∙ abs_mul c.args.squared x.distance)
