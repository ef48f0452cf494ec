-- What callers use of `within`: it decides the inequality over whole numbers, and does not look at the sign of x.
use mathlib.Core.Path.{◌≡◌, sym, ap, ◌∙◌}
use mathlib.Core.Bool.{true, false}
use Prim.Native.Nat.{ℕ, ◌*◌}
use lib.IntN.{ℤ, pos, neg_ℤ, nat_abs, ◌*ℤ◌}
use lib.Signed.{◌≤ℤ◌, ◌<ℤ◌, le_z}
use lib.Dec.{leb}
use Rattle.numbers.proofs.Parts.{test_le, test_gt, le_z_true, le_z_false}
use Rattle.numbers.proofs.Sizes.{square_abs, abs_neg}
use Rattle.roots.specs.Limit.{is_within}

module _ (a : ℕ) (x : ℤ) (b : ℕ) (l : ℤ) where
  pub within_le : is_within a x b l ≡ true → (pos a *ℤ (x *ℤ x)) ≤ℤ (pos b *ℤ l)
  unfolding is_within
  within_le e = test_le e

  pub beyond_lt : is_within a x b l ≡ false → (pos b *ℤ l) <ℤ (pos a *ℤ (x *ℤ x))
  unfolding is_within
  beyond_lt e = test_gt e

  pub le_within : (pos a *ℤ (x *ℤ x)) ≤ℤ (pos b *ℤ l) → is_within a x b l ≡ true
  unfolding is_within
  le_within h = le_z_true h

  pub lt_beyond : (pos b *ℤ l) <ℤ (pos a *ℤ (x *ℤ x)) → is_within a x b l ≡ false
  unfolding is_within
  lt_beyond h = le_z_false h

  pub within_neg : is_within a (neg_ℤ x) b l ≡ is_within a x b l
  unfolding is_within
  within_neg =
      ap (λ (z : ℤ). le_z (pos a *ℤ z) (pos b *ℤ l)) (square_abs (neg_ℤ x) ∙ ap (λ (n : ℕ). pos (n * n)) (abs_neg x) ∙ sym (square_abs x))

-- for a natural l: by magnitudes
pub within_nat : (a : ℕ) (x : ℤ) (b l : ℕ) → is_within a x b (pos l) ≡ leb (a * (nat_abs x * nat_abs x)) (b * l)
unfolding is_within
within_nat a x b l = ap (λ (z : ℤ). le_z (pos a *ℤ z) (pos (b * l))) (square_abs x)
