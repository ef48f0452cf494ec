-- One product is the number chosen, the other is 0.
use Rattle.std.proofs.Common.{◌≡◌, Bool, true, false, cond, ℤ, pos, ◌+ℤ◌, ◌-ℤ◌, ◌*ℤ◌, w64, to_z}
use lib.IntN.{*ℤ-zero, +ℤ_idl, +ℤ_idr}
use mir.Val.{SFits, bool_byte}
use Rattle.numbers.proofs.Ring.{mul_oneℤ}
use Rattle.numbers.proofs.Machine.{stored, stored_id, stored_as, fits_as}
use Rattle.roots.proofs.rounding.select.Goals as goal

chosen : (x y : ℤ) (b : Bool) → SFits w64 x → SFits w64 y → stored (stored x *ℤ to_z w64 (bool_byte b)) +ℤ stored (stored y *ℤ stored (pos 1 -ℤ to_z w64 (bool_byte b))) ≡ cond b x y
chosen x y true fx fy = simp (stored_id, mul_oneℤ, *ℤ-zero, +ℤ_idr)
chosen x y false fx fy = simp (stored_id, mul_oneℤ, *ℤ-zero, +ℤ_idl)

chosen_fits : (x y : ℤ) (b : Bool) → SFits w64 x → SFits w64 y → SFits w64 (cond b x y)
chosen_fits x y true fx fy = fx
chosen_fits x y false fx fy = fy

pub overflow_add-result : goal.overflow_add-result
overflow_add-result c = fits_as (chosen c.args.x c.args.y c.args.b c.ranges.x c.ranges.y) (chosen_fits c.args.x c.args.y c.args.b c.ranges.x c.ranges.y)

pub returns : goal.returns
returns c = stored_as (chosen c.args.x c.args.y c.args.b c.ranges.x c.ranges.y) (chosen_fits c.args.x c.args.y c.args.b c.ranges.x c.ranges.y)
