-- The limit is computed without a wrap, and is not negative, so it compares with a magnitude as it is.
use mathlib.Core.Path.{◌≡◌, ap, ◌∙◌}
use Prim.Native.Nat.{ℕ}
use native.Mathlib.Omega.{arith}
use lib.Dec.{leb}
use lib.IntN.{ℤ, pos, nat_abs, ◌-ℤ◌, ◌*ℤ◌}
use lib.Signed.{◌≤ℤ◌, le_z}
use mir.Syntax.{w64}
use mir.Val.{SFits}
use Rattle.numbers.proofs.Parts.{pos_abs}
use Rattle.numbers.proofs.Machine.{stored, stored_id, cast_fits}
use Rattle.numbers.proofs.Chain.{Value, known, literal, sub, mul, fits, kept}
use Rattle.collimation.specs.Collimation.{Collimation, scaled_angle, scaled_limit, within_angle}
use Rattle.collimation.proofs.Sizes.{Small, small, limit_from_zero}
use Rattle.collimation.proofs.Collimation.within_angle.Goals as goal

apart : {c : Collimation} → Small c → Value (stored c.d2 -ℤ stored c.d1) (c.d2 -ℤ c.d1) 57000
apart {c} h = sub (known c.d2 h.d2 tt) (known c.d1 h.d1 tt)

limit : {c : Collimation} → Small c → Value (pos 1600000000 *ℤ stored (stored c.d2 -ℤ stored c.d1)) (scaled_limit c) 91200000000000
limit h = mul (literal (pos 1600000000)) (kept (apart h) tt)

-- the limit as the code compares it
as_limit : (c : Collimation) → pos 0 ≤ℤ scaled_limit c → (angle : ℕ) → leb angle (nat_abs (scaled_limit c)) ≡ le_z (pos angle) (scaled_limit c)
as_limit c h angle = ap (λ (z : ℤ). le_z (pos angle) z) (pos_abs h)

pub overflow_sub-limit : goal.overflow_sub-limit
overflow_sub-limit c = fits (apart (small c.args.self.now c.requires)) tt

pub overflow_mul-limit : goal.overflow_mul-limit
overflow_mul-limit c = fits (limit (small c.args.self.now c.requires)) tt

pub overflow_cast-result : goal.overflow_cast-result
overflow_cast-result c =
    let l = kept (limit (small c.args.self.now c.requires)) tt in
    cast_fits l.is (limit_from_zero c.args.self.now c.requires) (omega (arith, l.size))

pub returns : goal.returns
unfolding within_angle
returns c =
    let x = c.args.self.now in
    let f : SFits w64 c.scaled_angle.result = record { sfits = c.scaled_angle.type_inv } in
    let angle = c.unsigned_abs.ensures.value ∙ ap nat_abs (stored_id f ∙ c.scaled_angle.ensures) in
    (λ i. leb (angle i) (nat_abs ((kept (limit (small x c.requires)) tt).is i)))
    ∙ as_limit x (limit_from_zero x c.requires) (nat_abs (scaled_angle x))
