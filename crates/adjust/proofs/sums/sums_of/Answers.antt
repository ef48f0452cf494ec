-- `sums_of`: one section more is added.
use Rattle.std.proofs.Common.{◌≡◌, List, ◌∷◌, ℕ, ◌+◌, ◌*◌, ◌≤◌, ◌<◌, length, get_or, drop, sym, ap, ◌∙◌, arith}
use mathlib.Core.Path.{subst}
use lib.IntN.{ℤ, ◌+ℤ◌, +ℤ_assoc}
use Rattle.numbers.proofs.Sizes.{abs_add}
use Rattle.numbers.proofs.Machine.{stored}
use Rattle.numbers.proofs.Chain.{Value, known, plain, add, kept}
use Rattle.numbers.proofs.Arrays.{drop_next}
use Rattle.adjust.specs.declared.Section.{Section}
use Rattle.adjust.specs.Sizes.{most_q, most_r, most_sum_q, most_l}
use Rattle.adjust.specs.Sections.{no_section}
use Rattle.adjust.specs.Line.{line_height, line_length}
use Rattle.adjust.specs.code.Bounds.{LegBounds}
use Rattle.adjust.proofs.Lists.{Fit, fit_head, fit_tail}
use Rattle.adjust.proofs.sums.sums_of.Invariants.{Going}
use Rattle.adjust.proofs.sums.sums_of.Goals as goal

module _ {ss : List Section} {k : ℕ} {height distance : ℤ} (here : k < length ss) (few : length ss ≤ 64) (g : Going ss k height distance) where
  abbrev x : Section
  x = get_or ss k no_section

  rest : drop k ss ≡ x ∷ drop (k + 1) ss
  rest = drop_next ss k no_section here

  fits_here : Fit (x ∷ drop (k + 1) ss)
  fits_here = subst Fit rest g.fit

  leg : LegBounds x
  leg = fit_head x (drop (k + 1) ss) fits_here

  higher : Value (height +ℤ stored x.height) (height +ℤ x.height) most_sum_q
  higher = add (plain height {k = most_q * 63} (omega (arith, g.high))) (known x.height leg.height tt)

  longer : Value (distance +ℤ stored x.distance) (distance +ℤ x.distance) most_l
  longer = add (plain distance {k = most_r * 63} (omega (arith, g.long))) (known x.distance leg.distance tt)

  next : Going ss (k + 1) (height +ℤ x.height) (distance +ℤ x.distance)
  next =
      record {
        high = omega (arith, abs_add height x.height, g.high, leg.height);
        long = omega (arith, abs_add distance x.distance, g.long, leg.distance);
        fit = fit_tail x (drop (k + 1) ss) fits_here;
        heights = +ℤ_assoc height x.height (line_height (drop (k + 1) ss)) ∙ sym (ap (λ (xs : List Section). height +ℤ line_height xs) rest) ∙ g.heights;
        distances = +ℤ_assoc distance x.distance (line_length (drop (k + 1) ss)) ∙ sym (ap (λ (xs : List Section). distance +ℤ line_length xs) rest) ∙ g.distances;
      }

pub loop-x-preserved : goal.loop-x-preserved
loop-x-preserved c =
    let here = c.loop-x-test.true in
    let few = c.requires.few in
    let g = c.loop-x.invariant in
    subst (λ (t : ℤ × ℤ). Going c.args.sections.now (c.loop-x.x-index + 1) t.0 t.1) (λ i. (sym (kept (higher here few g) tt).is i, sym (kept (longer here few g) tt).is i)) (next here few g)
