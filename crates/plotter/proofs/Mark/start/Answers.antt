-- `start`: a known height, in the units of Q.
use Rattle.std.proofs.Common.{◌≡◌, sym, subst, ◌*◌, ◌≤◌}
use lib.IntN.{ℤ, pos, nat_abs, ◌*ℤ◌}
use Rattle.numbers.proofs.Chain.{Value, known, mul, fits, kept}
use Rattle.numbers.proofs.Machine.{stored}
use Rattle.adjust.specs.Sizes.{highest, most_units}
use Rattle.adjust.proofs.Sized.{units_in}
use Rattle.plotter.proofs.Mark.start.Goals as goal

-- the machine's product, of the units u that are those of the staffs
height : (h : ℤ) {u w : ℤ} → nat_abs h ≤ highest → u ≡ w → nat_abs w ≤ most_units → Value (stored u *ℤ stored h) (w *ℤ h) (most_units * highest)
height h {u} small e few = subst (λ (z : ℤ). Value (stored u *ℤ stored h) (z *ℤ h) (most_units * highest)) e (mul (known u (subst (λ (z : ℤ). nat_abs z ≤ most_units) (sym e) few) tt) (known h small tt))

pub overflow_mul-result : goal.overflow_mul-result
overflow_mul-result c = fits (height c.args.opening.now.start.height c.requires c.units_of.ensures (units_in c.args.opening.now.staffs).most) tt

pub returns : goal.returns
returns c = λ i. record { distance = pos 0; height = (kept (height c.args.opening.now.start.height c.requires c.units_of.ensures (units_in c.args.opening.now.staffs).most) tt).is i }
