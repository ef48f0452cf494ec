-- What the refusals say: values that 44 does not refuse are in their ranges, and a refusal of the ranges, with 44, is also that of the test, whose first number it is.
use mathlib.Core.Path.{◌≡◌, refl}
use mathlib.Core.Bool.{true, not, cond}
use Rattle.numbers.specs.Tables.{first_of}
use Rattle.numbers.proofs.Tests.{by_test, not-false}
use Rattle.numbers.proofs.Tables.{failed}
use Rattle.records.specs.declared.Refusal.{Refusal}
use Rattle.records.specs.Refusals.{refusal_number}
use Rattle.records.proofs.Numbered.{not_zero}
use Rattle.collimation.specs.Collimation.{Collimation, in_range, within_angle, range_tests, angle_tests}

-- a law of its own
pub in_range_lem : (c : Collimation) → first_of (range_tests c) ≡ 0 → in_range c ≡ true
in_range_lem c e = not-false (in_range c) (failed (range_tests c) refl e 44)

pub range_refused : (c : Collimation) (e : Refusal) → refusal_number e ≡ first_of (range_tests c) → refusal_number e ≡ first_of (angle_tests c)
range_refused c e h =
    by_test (in_range c) (λ t. refusal_number e ≡ cond (not t) 44 0 → refusal_number e ≡ cond (not t) 44 (cond (not (within_angle c)) 45 0))
    (λ t k. absurd (not_zero e k)) (λ t k. k) h
