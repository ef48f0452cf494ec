-- `next_point`: sums, height and correction fit for up to 64 sections, step by step.
use Rattle.std.proofs.Common.{◌≡◌, ◌+◌, ◌*◌, ◌≤◌, sym, ◌∙◌, rules}
use mathlib.Core.Path.{subst}
use lib.IntN.{ℤ, nat_abs, ◌+ℤ◌, ◌-ℤ◌, ◌*ℤ◌}
use mir.Syntax.{w64}
use mir.Val.{SFits}
use Rattle.numbers.proofs.Machine.{stored, stored_id}
use Rattle.numbers.proofs.Chain.{Value, known, add, sub, mul, fits, kept}
use Rattle.adjust.specs.declared.Section.{Section}
use Rattle.adjust.specs.declared.Frame.{Frame}
use Rattle.adjust.specs.declared.Point.{Point}
use Rattle.adjust.specs.Sizes.{most_q, most_r, most_units, most_prints, most_sum_q, most_l, most_printed}
use Rattle.adjust.specs.Line.{printed_height}
use Rattle.adjust.specs.code.Bounds.{LegBounds, Framed, Along, Reached}
use Rattle.adjust.proofs.Bounded.{along_size, printed_size}
use Rattle.adjust.proofs.Frame.next_point.Goals as goal
use Rattle.adjust.proofs.Frame.next_point.Goals.{After-printed_height-h}

-- ---- the running sums

module _ (f : Frame) (q : ℤ) (p : Point) (x : Section) (h : Framed f × Reached f 63 q p × LegBounds x × Along f (p.distance +ℤ x.distance)) where
  height : Value (stored q +ℤ stored x.height) (q +ℤ x.height) most_sum_q
  height = add (known q {k = most_q * 63} h.1.height tt) (known x.height h.2.height tt)

  distance : Value (stored p.distance +ℤ stored x.distance) (p.distance +ℤ x.distance) (most_l + most_r)
  distance = add (known p.distance (along_size f p.distance h.0 h.1.along) tt) (known x.distance h.2.distance tt)

module _ (c : After-printed_height-h) where
  abbrev q : Value (stored c.args.q +ℤ stored c.args.x.now.height) (c.args.q +ℤ c.args.x.now.height) most_sum_q
  q = height c.args.self c.args.q c.args.p c.args.x.now c.requires

  abbrev s : Value (stored c.args.p.distance +ℤ stored c.args.x.now.distance) (c.args.p.distance +ℤ c.args.x.now.distance) (most_l + most_r)
  s = distance c.args.self c.args.q c.args.p c.args.x.now c.requires

  -- ---- the height

  printed_is : c.printed_height-h.result ≡ printed_height c.args.self (c.args.q +ℤ c.args.x.now.height) (c.args.p.distance +ℤ c.args.x.now.distance)
  printed_is = c.printed_height-h.ensures ∙ (λ i. printed_height c.args.self ((kept q tt).is i) ((kept s tt).is i))

  result_size : nat_abs c.printed_height-h.result ≤ most_printed
  result_size =
      subst (λ (z : ℤ). nat_abs z ≤ most_printed) (sym printed_is)
      (printed_size c.args.self (c.args.q +ℤ c.args.x.now.height) (c.args.p.distance +ℤ c.args.x.now.distance) c.requires.0 q.size c.requires.3)

  -- ---- the correction

  rise : Value (stored c.printed_height-h.result -ℤ stored c.args.p.height) (c.printed_height-h.result -ℤ c.args.p.height) (most_printed + most_printed)
  rise = sub (known c.printed_height-h.result result_size tt) (known c.args.p.height c.requires.1.printed tt)

  climbed :
      Value (stored c.args.self.units *ℤ stored (stored c.printed_height-h.result -ℤ stored c.args.p.height))
      (c.args.self.units *ℤ (c.printed_height-h.result -ℤ c.args.p.height)) (most_units * (most_printed + most_printed))
  climbed = mul (known c.args.self.units c.requires.0.units.most tt) (kept rise tt)

  measured : Value (stored c.args.self.prints *ℤ stored c.args.x.now.height) (c.args.self.prints *ℤ c.args.x.now.height) (most_prints * most_q)
  measured = mul (known c.args.self.prints c.requires.0.prints.most tt) (known c.args.x.now.height c.requires.2.height tt)

  correction :
      Value (stored (stored c.args.self.units *ℤ stored (stored c.printed_height-h.result -ℤ stored c.args.p.height)) -ℤ stored (stored c.args.self.prints *ℤ stored c.args.x.now.height))
      (c.args.self.units *ℤ (c.printed_height-h.result -ℤ c.args.p.height) -ℤ c.args.self.prints *ℤ c.args.x.now.height)
      (most_units * (most_printed + most_printed) + most_prints * most_q)
  correction = sub (kept climbed tt) (kept measured tt)

pub overflow_sub-result : goal.overflow_sub-result
overflow_sub-result c = fits (rise (goal.at.overflow_sub-result c).After-printed_height-h) tt

pub overflow_mul-result : goal.overflow_mul-result
overflow_mul-result c = fits (climbed (goal.at.overflow_mul-result c).After-printed_height-h) tt

pub overflow_mul-result-2 : goal.overflow_mul-result-2
overflow_mul-result-2 c = fits (measured (goal.at.overflow_mul-result-2 c).After-printed_height-h) tt

pub overflow_sub-result-2 : goal.overflow_sub-result-2
overflow_sub-result-2 c = fits (correction (goal.at.overflow_sub-result-2 c).After-printed_height-h) tt

pub returns : goal.returns
returns c =
    let p = (goal.at.returns c).After-printed_height-h in
    let number : SFits w64 c.args.x.now.number = search rules in
    let fixed = (kept (correction p) tt).is ∙ (λ i. c.args.self.units *ℤ (printed_is p i -ℤ c.args.p.height) -ℤ c.args.self.prints *ℤ c.args.x.now.height) in
    λ i.
    record {
      number = stored_id number i;
      distance = (kept (s p) tt).is i;
      correction = fixed i;
      height = ((known c.printed_height-h.result (result_size p) tt).is ∙ printed_is p) i;
    }
