-- Twice the height of a station whose readings are not refused: no sum wraps, and the code's result is the whole number that the spec gives, and is small.
use mir.Val.{to_z}
use Rattle.std.proofs.Common.{w64, ◌≡◌, subst, ℤ, pos, ◌+ℤ◌, ◌-ℤ◌, ◌*ℤ◌}
use Rattle.numbers.proofs.Ring.{ringℤ}
use Rattle.numbers.proofs.Machine.{stored}
use Rattle.numbers.proofs.Chain.{Value, known, add, sub, mul, fits, kept}
use Rattle.station.specs.declared.Staffs.{Staffs}
use Rattle.station.specs.Station.{Station, scale_of, constant_of, twice_height}
use Rattle.station.proofs.Sizes.{Read, of_tests, scale_value, constant_value, sized}
use Rattle.station.proofs.Station.twice_height.Goals as goal
use Rattle.station.proofs.Station.twice_height.Goals.{After-constant_of-2}

in_parts : (n mb mf rb rf k : ℤ) → n *ℤ ((mb -ℤ mf) +ℤ (rb -ℤ rf)) -ℤ k ≡ (n *ℤ mb -ℤ n *ℤ mf) +ℤ (n *ℤ rb -ℤ n *ℤ rf) -ℤ k
in_parts n mb mf rb rf k = simp ringℤ

module _ {x : Station} (h : Read x) where
  black : Value (stored x.back.black -ℤ stored x.fore.black) (x.back.black -ℤ x.fore.black) 6000
  black = sub (known x.back.black h.back.black tt) (known x.fore.black h.fore.black tt)

  red : Value (stored x.back.red -ℤ stored x.fore.red) (x.back.red -ℤ x.fore.red) 15998
  red = sub (known x.back.red h.back.red tt) (known x.fore.red h.fore.red tt)

  -- what the code adds, multiplies and takes away: n the scale, k the difference of the constants, as they are read back
  abbrev faces_of : ℤ
  faces_of = stored (stored x.back.black -ℤ stored x.fore.black) +ℤ stored (stored x.back.red -ℤ stored x.fore.red)

  abbrev parts_of : ℤ → ℤ
  parts_of n = n *ℤ stored faces_of

  faces : Value faces_of ((x.back.black -ℤ x.fore.black) +ℤ (x.back.red -ℤ x.fore.red)) 21998
  faces = add (kept black tt) (kept red tt)

  module _ (c : Staffs) {n : ℤ} (scale : Value n (pos (scale_of c)) 10) where
    parts : Value (parts_of n) (pos (scale_of c) *ℤ ((x.back.black -ℤ x.fore.black) +ℤ (x.back.red -ℤ x.fore.red))) 219980
    parts = mul scale (kept faces tt)

    height : {k : ℤ} → Value k (constant_of c x.back.constant -ℤ constant_of c x.fore.constant) 131070
        → Value (stored (parts_of n) -ℤ k) (twice_height c x) 351050
    height {k} constants =
        subst (λ (y : ℤ). Value (stored (parts_of n) -ℤ k) y 351050)
        (in_parts (pos (scale_of c)) x.back.black x.fore.black x.back.red x.fore.red (constant_of c x.back.constant -ℤ constant_of c x.fore.constant))
        (sub (kept parts tt) constants)

-- the constants and the height, of what `constant_of` and `scale_of` answered
module _ (c : After-constant_of-2) where
  read_of : Read c.args.self.now
  read_of = of_tests c.args.self.now c.requires

  constants : Value (stored c.constant_of.result -ℤ stored c.constant_of-2.result)
      (constant_of c.args.staffs c.args.self.now.back.constant -ℤ constant_of c.args.staffs c.args.self.now.fore.constant) 131070
  constants =
      sub (constant_value c.args.staffs c.args.self.now.back.constant read_of.back.constant c.constant_of.ensures.value c.constant_of.ensures.result_bound)
      (constant_value c.args.staffs c.args.self.now.fore.constant read_of.fore.constant c.constant_of-2.ensures.value c.constant_of-2.ensures.result_bound)

  whole : Value (stored (parts_of read_of (to_z w64 c.scale_of-scale.result)) -ℤ stored (stored c.constant_of.result -ℤ stored c.constant_of-2.result)) (twice_height c.args.staffs c.args.self.now) 351050
  whole = height read_of c.args.staffs (scale_value c.args.staffs c.scale_of-scale.ensures) (kept constants tt)

pub overflow_sub-constants : goal.overflow_sub-constants
overflow_sub-constants c = fits (constants (goal.at.overflow_sub-constants c).After-constant_of-2) tt

pub overflow_sub-result : goal.overflow_sub-result
overflow_sub-result c = fits (black (of_tests c.args.self.now c.requires)) tt

pub overflow_sub-result-2 : goal.overflow_sub-result-2
overflow_sub-result-2 c = fits (red (of_tests c.args.self.now c.requires)) tt

pub overflow_add-result : goal.overflow_add-result
overflow_add-result c = fits (faces (of_tests c.args.self.now c.requires)) tt

pub overflow_mul-result : goal.overflow_mul-result
overflow_mul-result c =
    fits (parts (of_tests c.args.self.now c.requires) c.args.staffs (scale_value c.args.staffs c.scale_of-scale.ensures)) tt

pub overflow_sub-result-3 : goal.overflow_sub-result-3
overflow_sub-result-3 c = fits (whole (goal.at.overflow_sub-result-3 c).After-constant_of-2) tt

pub returns : goal.returns
returns c = let v = kept (whole (goal.at.returns c).After-constant_of-2) tt in record { value = v.is; result_bound = sized v }
