-- Values in their ranges make no difference and no product that wraps.
use lib.IntN.{ℤ, pos, ◌-ℤ◌, ◌*ℤ◌}
use Rattle.numbers.proofs.Machine.{stored}
use Rattle.numbers.proofs.Chain.{Value, known, literal, sub, mul, fits, kept}
use Rattle.collimation.specs.Collimation.{Collimation, eight_delta, scaled_angle}
use Rattle.collimation.proofs.Sizes.{Small, small}
use Rattle.collimation.proofs.Collimation.scaled_angle.Goals as goal

-- U and the difference of the squares, as the code makes them
abbrev code_u : Collimation → ℤ
code_u c = stored (stored c.a2 -ℤ stored c.b2) -ℤ stored (stored c.a1 -ℤ stored c.b1)

abbrev code_squares : Collimation → ℤ
code_squares c = stored (stored c.d2 *ℤ stored c.d2) -ℤ stored (stored c.d1 *ℤ stored c.d1)

module _ {c : Collimation} (h : Small c) where
  second : Value (stored c.a2 -ℤ stored c.b2) (c.a2 -ℤ c.b2) 24000
  second = sub (known c.a2 h.a2 tt) (known c.b2 h.b2 tt)

  first : Value (stored c.a1 -ℤ stored c.b1) (c.a1 -ℤ c.b1) 24000
  first = sub (known c.a1 h.a1 tt) (known c.b1 h.b1 tt)

  u : Value (code_u c) (eight_delta c) 48000
  u = sub (kept second tt) (kept first tt)

  far : Value (stored c.d2 *ℤ stored c.d2) (c.d2 *ℤ c.d2) 2500000000
  far = mul (known c.d2 h.d2 tt) (known c.d2 h.d2 tt)

  near : Value (stored c.d1 *ℤ stored c.d1) (c.d1 *ℤ c.d1) 49000000
  near = mul (known c.d1 h.d1 tt) (known c.d1 h.d1 tt)

  squares : Value (code_squares c) (c.d2 *ℤ c.d2 -ℤ c.d1 *ℤ c.d1) 2549000000
  squares = sub (kept far tt) (kept near tt)

  angle : Value (stored (pos 2062650000000 *ℤ stored (code_u c)) -ℤ stored (pos 1288 *ℤ stored (code_squares c))) (scaled_angle c) 99010483112000000
  angle = sub (kept (mul (literal (pos 2062650000000)) (kept u tt)) tt) (kept (mul (literal (pos 1288)) (kept squares tt)) tt)

pub overflow_sub-u : goal.overflow_sub-u
overflow_sub-u c = fits (second (small c.args.self.now c.requires)) tt

pub overflow_sub-u-3 : goal.overflow_sub-u-3
overflow_sub-u-3 c = fits (u (small c.args.self.now c.requires)) tt

pub overflow_mul-result : goal.overflow_mul-result
overflow_mul-result c = fits (mul (literal (pos 2062650000000)) (kept (u (small c.args.self.now c.requires)) tt)) tt

pub overflow_mul-result-2 : goal.overflow_mul-result-2
overflow_mul-result-2 c = fits (far (small c.args.self.now c.requires)) tt

pub overflow_mul-result-3 : goal.overflow_mul-result-3
overflow_mul-result-3 c = fits (near (small c.args.self.now c.requires)) tt

pub overflow_sub-result : goal.overflow_sub-result
overflow_sub-result c = fits (squares (small c.args.self.now c.requires)) tt

pub overflow_mul-result-4 : goal.overflow_mul-result-4
overflow_mul-result-4 c = fits (mul (literal (pos 1288)) (kept (squares (small c.args.self.now c.requires)) tt)) tt

pub overflow_sub-result-2 : goal.overflow_sub-result-2
overflow_sub-result-2 c = fits (angle (small c.args.self.now c.requires)) tt

pub returns : goal.returns
returns c = (kept (angle (small c.args.self.now c.requires)) tt).is
