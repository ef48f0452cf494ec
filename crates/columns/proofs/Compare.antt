-- `same` tests whether two lists of bytes are equal.
use mathlib.Core.Path.{◌≡◌, refl, ap}
use mathlib.Core.Bool.{Bool, true, false, cond}
use mathlib.Core.List.{List}
use Prim.Native.Nat.{ℕ}
use lib.ListN.{length}
use Rattle.std.proofs.lemmas.Slice.Eq.{bytes_eq-Decides}
use Rattle.numbers.proofs.Tests.{by_test, holds, is_true}
use Rattle.columns.specs.Decimals.{same}

-- of two tests of which the second is made where the first holds
pub both : (a b : Bool) → cond a b false ≡ true → (a ≡ true) × (b ≡ true)
both true b e = (refl, e)
both false b e = absurd (holds e)

pub same_true : (xs ys : List ℕ) → same xs ys ≡ true → xs ≡ ys
unfolding same
same_true xs ys = (bytes_eq-Decides xs ys).0

pub same_equal : (xs ys : List ℕ) → xs ≡ ys → same xs ys ≡ true
unfolding same
same_equal xs ys = (bytes_eq-Decides xs ys).1

pub same_refl : (xs : List ℕ) → same xs xs ≡ true
same_refl xs = same_equal xs xs refl

pub same_differ : (xs ys : List ℕ) → (xs ≡ ys → ⊥) → same xs ys ≡ false
same_differ xs ys h = by_test (same xs ys) (λ t. t ≡ false) (λ t. absurd (h (same_true xs ys (is_true t)))) (λ t. refl)

pub same_lengths : (xs ys : List ℕ) → (length xs ≡ length ys → ⊥) → same xs ys ≡ false
same_lengths xs ys h = same_differ xs ys (λ e. h (ap length e))
