-- Tests and what they say: a case on a test, and how a flag that is known to be true or false becomes a fact, and back.
use mathlib.Core.Path.{◌≡◌, refl, sym, subst, ◌∙◌}
use mathlib.Core.Bool.{Bool, true, false, not, ◌&&◌, ◌||◌}
use Prim.Native.Nat.{ℕ, ◌≤◌}
use native.Mathlib.Decide.{dec_le}
use native.Mathlib.Nat.{lt_of_not-le}
use borrow.Author.Tests.{le-leb, lt-leb}
pub use borrow.Author.Tests.{not-true, not-false}
use lib.Dec.{T, leb}

-- a case on a test: what is to be shown, in either case from what the test then says
pub by_test : (b : Bool) (C : Bool → Type 0) → (T b → C true) → (T (not b) → C false) → C b
by_test true C f g = f tt
by_test false C f g = g tt

pub holds : {b : Bool} → b ≡ true → T b
holds e = subst T (sym e) tt

pub fails : {b : Bool} → b ≡ false → T (not b)
fails e = subst (λ (x : Bool). T (not x)) (sym e) tt

pub is_true : {b : Bool} → T b → b ≡ true
is_true {b = true} t = refl
is_true {b = false} t = absurd t

pub is_false : {b : Bool} → T (not b) → b ≡ false
is_false {b = true} t = absurd t
is_false {b = false} t = refl

pub not_both : {b : Bool} → b ≡ true → b ≡ false → ⊥
not_both e f = subst T (sym e ∙ f) tt

-- ---- tests joined

pub no_true : {A : Type 0} → false ≡ true → A
no_true e = absurd (holds e)

pub and_l : (a b : Bool) → a && b ≡ true → a ≡ true
and_l true b e = refl
and_l false b e = e

pub and_r : (a b : Bool) → a && b ≡ true → b ≡ true
and_r true b e = e
and_r false b e = no_true e

pub or_l : (a b : Bool) → a || b ≡ false → a ≡ false
or_l true b e = e
or_l false b e = refl

pub or_r : (a b : Bool) → a || b ≡ false → b ≡ false
or_r true b e = no_true (sym e)
or_r false b e = e

-- two tests of naturals that hold together
pub leb_same : (x y u v : ℕ) → (x ≤ y → u ≤ v) → (u ≤ v → x ≤ y) → leb x y ≡ leb u v
leb_same x y u v there back = go (dec_le x y)
  where
    go : Dec (x ≤ y) → leb x y ≡ leb u v
    go (yes p) = le-leb x y p ∙ sym (le-leb u v (there p))
    go (no f) = lt-leb x y (lt_of_not-le f) ∙ sym (lt-leb u v (lt_of_not-le (λ p. f (back p))))
