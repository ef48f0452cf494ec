-- The test that two integers are equal, to and from equations; and the machine's test of equality, which compares bits.
use mathlib.Core.Path.{◌≡◌, refl, sym, ap, ◌∙◌}
use mathlib.Core.Bool.{true, false}
use borrow.Author.Tests.{eqb-true, eq-eqb, ne_eqb}
use lib.Dec.{eqb}
use lib.IntN.{ℤ, pos, negsuc, ℤ_discrete}
use mir.Syntax.{w64}
use mir.Val.{SFits, of_z, to_z}
use mir.Facts.{to_z-of_z}
use Rattle.numbers.specs.Numbers.{eq_z}
use Rattle.numbers.proofs.Tests.{by_test, not_both}

pub eq_z_refl : (x : ℤ) → eq_z x x ≡ true
eq_z_refl (pos a) = eq-eqb a a refl
eq_z_refl (negsuc a) = eq-eqb a a refl

pub eq_z_eq : (x y : ℤ) → eq_z x y ≡ true → x ≡ y
eq_z_eq (pos a) (pos b) e = ap pos (eqb-true a b e)
eq_z_eq (pos a) (negsuc b) e = absurd (not_both e refl)
eq_z_eq (negsuc a) (pos b) e = absurd (not_both e refl)
eq_z_eq (negsuc a) (negsuc b) e = ap negsuc (eqb-true a b e)

pub eq_z_ne : (x y : ℤ) → (x ≡ y → ⊥) → eq_z x y ≡ false
eq_z_ne x y f = by_test (eq_z x y) (λ t. eq_z x y ≡ t → t ≡ false) (λ t e. absurd (f (eq_z_eq x y e))) (λ t e. refl) refl

-- what `x == y` computes
pub eq_as : {x y : ℤ} → SFits w64 x → SFits w64 y → eqb (of_z w64 x) (of_z w64 y) ≡ eq_z x y
eq_as {x} {y} f g = go (ℤ_discrete x y)
  where
    go : Dec (x ≡ y) → eqb (of_z w64 x) (of_z w64 y) ≡ eq_z x y
    go (yes e) = eq-eqb (of_z w64 x) (of_z w64 y) (ap (of_z w64) e) ∙ sym (ap (eq_z x) (sym e) ∙ eq_z_refl x)
    go (no n) =
        ne_eqb (of_z w64 x) (of_z w64 y) (λ e. n (sym (to_z-of_z f) ∙ ap (to_z w64) e ∙ to_z-of_z g)) ∙ sym (eq_z_ne x y n)
