-- What one staff shows, where its readings are in their ranges: no sum wraps, each figure is the whole number that the spec gives, and is small.
use Rattle.std.proofs.Common.{◌≡◌, subst, ℤ, pos, ◌+ℤ◌, ◌-ℤ◌, ◌*ℤ◌}
use Rattle.numbers.proofs.Ring.{ringℤ}
use Rattle.numbers.proofs.Machine.{stored}
use Rattle.numbers.proofs.Chain.{Value, known, add, sub, mul, fits, kept}
use Rattle.station.specs.declared.Staffs.{Staffs}
use Rattle.station.specs.Station.{Staff, scale_of, constant_of, sight, face_difference}
use Rattle.station.proofs.Sizes.{SmallStaff, small_staff, scale_value, constant_value, sized}
use Rattle.station.proofs.Staff.sighting.Goals as goal

in_parts : (k n m r : ℤ) → k +ℤ n *ℤ (m -ℤ r) ≡ k +ℤ n *ℤ m -ℤ n *ℤ r
in_parts k n m r = simp ringℤ

module _ {s : Staff} (h : SmallStaff s) where
  sight_value : Value (stored s.upper -ℤ stored s.lower) (sight s) 6000
  sight_value = sub (known s.upper h.upper tt) (known s.lower h.lower tt)

  -- what the code multiplies and adds: n the scale and k the constant as they are read back
  abbrev parts_of : ℤ → ℤ
  parts_of n = n *ℤ stored (stored s.black -ℤ stored s.red)

  abbrev face_of : ℤ → ℤ → ℤ
  face_of n k = k +ℤ stored (parts_of n)

  module _ (c : Staffs) {n : ℤ} (scale : Value n (pos (scale_of c)) 10) where
    parts : Value (parts_of n) (pos (scale_of c) *ℤ (s.black -ℤ s.red)) 109990
    parts = mul scale (kept (sub (known s.black h.black tt) (known s.red h.red tt)) tt)

    face_value : {k : ℤ} → Value k (constant_of c s.constant) 65535 → Value (face_of n k) (face_difference c s) 175525
    face_value {k} constant =
        subst (λ (y : ℤ). Value (face_of n k) y 175525) (in_parts (constant_of c s.constant) (pos (scale_of c)) s.black s.red)
        (add constant (kept parts tt))

pub overflow_mul-result : goal.overflow_mul-result
overflow_mul-result c =
    fits (parts (small_staff c.args.self.now c.requires.0 c.requires.1) c.args.staffs (scale_value c.args.staffs c.scale_of-scale.ensures)) tt

pub overflow_add-result : goal.overflow_add-result
overflow_add-result c =
    let h = small_staff c.args.self.now c.requires.0 c.requires.1 in
    let scale = scale_value c.args.staffs c.scale_of-scale.ensures in
    let constant = constant_value c.args.staffs c.args.self.now.constant c.requires.0 c.constant_of.ensures.value c.constant_of.ensures.result_bound in
    fits (face_value h c.args.staffs scale constant) tt

pub returns : goal.returns
returns c =
    let h = small_staff c.args.self.now c.requires.0 c.requires.1 in
    let scale = scale_value c.args.staffs c.scale_of-scale.ensures in
    let constant = constant_value c.args.staffs c.args.self.now.constant c.requires.0 c.constant_of.ensures.value c.constant_of.ensures.result_bound in
    let sees = kept (sight_value h) tt in
    let face = kept (face_value h c.args.staffs scale constant) tt in
    record {
      value = λ i. record { sight = sees.is i; face = face.is i };
      small_sighting = record { sight = sized sees; face = sized face };
    }
