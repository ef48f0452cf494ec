-- The ring laws of ℤ that the library leaves out, and `simp ringℤ`, which proves an identity of sums, differences and products.
use mathlib.Core.Path.{◌≡◌, refl, sym, ap, ◌∙◌}
use Prim.Native.Nat.{ℕ, zero, suc, ◌*◌}
use native.Mathlib.Omega.{arith}
use lib.IntN.{ℤ, pos, negsuc, neg_ℤ, ◌+ℤ◌, ◌-ℤ◌, ◌*ℤ◌, ℤ_ind, +ℤ_assoc, +ℤ_comm, +ℤ_idl, +ℤ_idr, +ℤ_invr, +ℤ_invl, +ℤ-suc_ℤ, +ℤ-pred_ℤ, +ℤ_one, -ℤ_one, suc_ℤ-*ℤ, pred_ℤ-*ℤ, *ℤ_comm, zero-*ℤ, neg_ℤ-+ℤ, neg_ℤ-neg_ℤ}

pub add_mulℤ : (a b c : ℤ) → (a +ℤ b) *ℤ c ≡ a *ℤ c +ℤ b *ℤ c
add_mulℤ a b c =
    ℤ_ind (λ (k : ℤ). (a +ℤ k) *ℤ c ≡ a *ℤ c +ℤ k *ℤ c)
    (ap (λ (x : ℤ). x *ℤ c) (+ℤ_idr a) ∙ sym (ap (λ (x : ℤ). a *ℤ c +ℤ x) (zero-*ℤ c) ∙ +ℤ_idr (a *ℤ c)))
    (λ n ih. up (pos n) ih) (λ n ih. down (neg_ℤ (pos n)) ih) b
  where
    up : (k : ℤ) → (a +ℤ k) *ℤ c ≡ a *ℤ c +ℤ k *ℤ c → (a +ℤ (k +ℤ pos 1)) *ℤ c ≡ a *ℤ c +ℤ (k +ℤ pos 1) *ℤ c
    up k ih = simp (+ℤ_one, +ℤ-suc_ℤ, suc_ℤ-*ℤ, ih, +ℤ_assoc)

    down : (k : ℤ) → (a +ℤ k) *ℤ c ≡ a *ℤ c +ℤ k *ℤ c → (a +ℤ (k +ℤ neg_ℤ (pos 1))) *ℤ c ≡ a *ℤ c +ℤ (k +ℤ neg_ℤ (pos 1)) *ℤ c
    down k ih = simp (-ℤ_one, +ℤ-pred_ℤ, pred_ℤ-*ℤ, ih, +ℤ_assoc)

pub mul_addℤ : (c a b : ℤ) → c *ℤ (a +ℤ b) ≡ c *ℤ a +ℤ c *ℤ b
mul_addℤ c a b =
    *ℤ_comm c (a +ℤ b) ∙ add_mulℤ a b c ∙ ap (λ (x : ℤ). x +ℤ b *ℤ c) (*ℤ_comm a c) ∙ ap (λ (x : ℤ). c *ℤ a +ℤ x) (*ℤ_comm b c)

pub neg_mulℤ : (a b : ℤ) → neg_ℤ a *ℤ b ≡ neg_ℤ (a *ℤ b)
neg_mulℤ (pos zero) b = zero-*ℤ b ∙ sym (ap neg_ℤ (zero-*ℤ b))
neg_mulℤ (pos (suc n)) (pos m) = refl
neg_mulℤ (pos (suc n)) (negsuc m) = sym (neg_ℤ-neg_ℤ (pos (suc n * suc m)))
neg_mulℤ (negsuc n) (pos m) = sym (neg_ℤ-neg_ℤ (pos (suc n * m)))
neg_mulℤ (negsuc n) (negsuc m) = refl

pub mul_negℤ : (a b : ℤ) → a *ℤ neg_ℤ b ≡ neg_ℤ (a *ℤ b)
mul_negℤ a b = *ℤ_comm a (neg_ℤ b) ∙ neg_mulℤ b a ∙ ap neg_ℤ (*ℤ_comm b a)

pub mul_assocℤ : (a b c : ℤ) → a *ℤ b *ℤ c ≡ a *ℤ (b *ℤ c)
mul_assocℤ a b c =
    ℤ_ind (λ (k : ℤ). k *ℤ b *ℤ c ≡ k *ℤ (b *ℤ c))
    (ap (λ (x : ℤ). x *ℤ c) (zero-*ℤ b) ∙ zero-*ℤ c ∙ sym (zero-*ℤ (b *ℤ c)))
    (λ n ih. up (pos n) ih) (λ n ih. down (neg_ℤ (pos n)) ih) a
  where
    up : (k : ℤ) → k *ℤ b *ℤ c ≡ k *ℤ (b *ℤ c) → (k +ℤ pos 1) *ℤ b *ℤ c ≡ (k +ℤ pos 1) *ℤ (b *ℤ c)
    up k ih = simp (+ℤ_one, suc_ℤ-*ℤ, add_mulℤ, ih)

    down : (k : ℤ) → k *ℤ b *ℤ c ≡ k *ℤ (b *ℤ c) → (k +ℤ neg_ℤ (pos 1)) *ℤ b *ℤ c ≡ (k +ℤ neg_ℤ (pos 1)) *ℤ (b *ℤ c)
    down k ih = simp (-ℤ_one, pred_ℤ-*ℤ, add_mulℤ, neg_mulℤ, ih)

pub one_mulℤ : (a : ℤ) → pos 1 *ℤ a ≡ a
one_mulℤ (pos n) = ap pos (omega arith)
one_mulℤ (negsuc n) = ap neg_ℤ (ap pos (one n))
  where
    one : (n : ℕ) → 1 * suc n ≡ suc n
    one n = omega arith

pub mul_oneℤ : (a : ℤ) → a *ℤ pos 1 ≡ a
mul_oneℤ a = *ℤ_comm a (pos 1) ∙ one_mulℤ a

-- ---- the order of `ringℤ`: products and sums lean to the right, their terms sorted

pub add_left_commℤ : (a b c : ℤ) → a +ℤ (b +ℤ c) ≡ b +ℤ (a +ℤ c)
add_left_commℤ a b c = sym (+ℤ_assoc a b c) ∙ ap (λ (x : ℤ). x +ℤ c) (+ℤ_comm a b) ∙ +ℤ_assoc b a c

pub mul_left_commℤ : (a b c : ℤ) → a *ℤ (b *ℤ c) ≡ b *ℤ (a *ℤ c)
mul_left_commℤ a b c = sym (mul_assocℤ a b c) ∙ ap (λ (x : ℤ). x *ℤ c) (*ℤ_comm a b) ∙ mul_assocℤ b a c

-- a term and its negation cancel, with up to three terms between them
pub cancel : (a b : ℤ) → a +ℤ (neg_ℤ a +ℤ b) ≡ b
cancel a b = sym (+ℤ_assoc a (neg_ℤ a) b) ∙ ap (λ (x : ℤ). x +ℤ b) (+ℤ_invr a) ∙ +ℤ_idl b

pub cancel' : (a b : ℤ) → neg_ℤ a +ℤ (a +ℤ b) ≡ b
cancel' a b = sym (+ℤ_assoc (neg_ℤ a) a b) ∙ ap (λ (x : ℤ). x +ℤ b) (+ℤ_invl a) ∙ +ℤ_idl b

pub cancel_1 : (a b : ℤ) → a +ℤ (b +ℤ neg_ℤ a) ≡ b
cancel_1 a b = ap (λ (x : ℤ). a +ℤ x) (+ℤ_comm b (neg_ℤ a)) ∙ cancel a b

pub cancel_1' : (a b c : ℤ) → a +ℤ (b +ℤ (neg_ℤ a +ℤ c)) ≡ b +ℤ c
cancel_1' a b c = ap (λ (x : ℤ). a +ℤ x) (add_left_commℤ b (neg_ℤ a) c) ∙ cancel a (b +ℤ c)

pub cancel_2 : (a b c : ℤ) → a +ℤ (b +ℤ (c +ℤ neg_ℤ a)) ≡ b +ℤ c
cancel_2 a b c = ap (λ (x : ℤ). a +ℤ (b +ℤ x)) (+ℤ_comm c (neg_ℤ a)) ∙ cancel_1' a b c

pub cancel_2' : (a b c d : ℤ) → a +ℤ (b +ℤ (c +ℤ (neg_ℤ a +ℤ d))) ≡ b +ℤ (c +ℤ d)
cancel_2' a b c d = ap (λ (x : ℤ). a +ℤ (b +ℤ x)) (add_left_commℤ c (neg_ℤ a) d) ∙ cancel_1' a b (c +ℤ d)

pub cancel_3 : (a b c d : ℤ) → a +ℤ (b +ℤ (c +ℤ (d +ℤ neg_ℤ a))) ≡ b +ℤ (c +ℤ d)
cancel_3 a b c d = ap (λ (x : ℤ). a +ℤ (b +ℤ (c +ℤ x))) (+ℤ_comm d (neg_ℤ a)) ∙ cancel_2' a b c d

pub cancel_3' : (a b c d e : ℤ) → a +ℤ (b +ℤ (c +ℤ (d +ℤ (neg_ℤ a +ℤ e)))) ≡ b +ℤ (c +ℤ (d +ℤ e))
cancel_3' a b c d e = ap (λ (x : ℤ). a +ℤ (b +ℤ (c +ℤ x))) (add_left_commℤ d (neg_ℤ a) e) ∙ cancel_2' a b c (d +ℤ e)

-- for simp: multiplies out, sorts and cancels. It does not gather a + a into 2 × a, and stops at calls that compute: state an identity over variables
pub ruleset ringℤ = (add_mulℤ, mul_addℤ, neg_mulℤ, mul_negℤ, neg_ℤ-+ℤ, neg_ℤ-neg_ℤ, mul_assocℤ, *ℤ_comm, mul_left_commℤ, +ℤ_assoc, +ℤ_comm, add_left_commℤ, +ℤ_invr, +ℤ_invl, cancel, cancel', cancel_1, cancel_1', cancel_2, cancel_2', cancel_3, cancel_3', +ℤ_idl, +ℤ_idr)
