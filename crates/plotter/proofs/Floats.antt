-- Whole numbers as floats: each up to 2 ^ 53 is a float, and the difference of two such floats is the float of the difference.
use mathlib.Core.Path.{◌≡◌, refl, sym, ◌∙◌, ap, subst}
use mathlib.Core.Bool.{Bool, true, false, not, ◌&&◌, beq, cond}
use Prim.Native.Nat.{ℕ, zero, suc, ◌+◌, ◌-◌, ◌*◌, ◌≤◌, ◌<◌, zero-le}
use native.Mathlib.Nat.{mul-one, mul_assoc, mul_comm, mul-sub, add-mul, mul-le-mul_right, mul-lt-mul_of_pos_right, mul-pos, zero-lt-suc}
use native.Mathlib.Omega.{arith}
use borrow.Author.Tests.{ltb-true, ltb-false, lt-ltb, le-ltb}
use lib.Dec.{T, ltb}
use lib.IntN.{ℤ, pos, negsuc, nat_abs, ◌-ℤ◌}
use lib.Ieee.{Float, nan, inf, fin, binary64, up, down, round, neg, sum, add, sub, of_int, is_nan}
use lib.Ieee.Back.{round_whole}
use lib.Ieee.Fits.{down_pos}
use lib.Ieee.Scale.{round_same}
use Rattle.plotter.specs.Floats.{below_zero, Equals, Exact, float_of}
use Rattle.plotter.specs.Claims.{WholeExact, DifferenceExact}

-- the float of z equals z
pub whole_exact : WholeExact
unfolding of_int
whole_exact (pos n) h = round_whole binary64 false n h
whole_exact (negsuc n) h = round_whole binary64 true (suc n) h

a_number : (x : Float) (z : ℤ) → Equals x z → T (not (is_nan x))
unfolding is_nan
a_number nan z e = absurd e
a_number (inf s) z e = tt
a_number (fin s m k) z e = tt

pub whole_number : (z : ℤ) → Exact z → T (not (is_nan (float_of z)))
whole_number z h = a_number (float_of z) z (whole_exact z h)

-- ---- a sum over a common divisor

ltb_scale : (a b c : ℕ) → 0 < c → ltb (a * c) (b * c) ≡ ltb a b
ltb_scale a b c p = go (ltb a b) refl
  where
    go : (t : Bool) → ltb a b ≡ t → ltb (a * c) (b * c) ≡ t
    go true e = lt-ltb (a * c) (b * c) (mul-lt-mul_of_pos_right (ltb-true a b e) p)
    go false e = le-ltb (a * c) (b * c) (mul-le-mul_right c (ltb-false a b e))

sub_scale : (a b c : ℕ) → (a - b) * c ≡ a * c - b * c
sub_scale a b c = mul_comm (a - b) c ∙ mul-sub c a b ∙ ap (λ (x : ℕ). x - c * b) (mul_comm c a) ∙ ap (λ (x : ℕ). a * c - x) (mul_comm c b)

-- a / c rounds as the whole number that it is
plus_round : (s : Bool) (a b c : ℕ) → 0 < c → round binary64 s (a * c + b * c) c ≡ round binary64 s (a + b) 1
plus_round s a b c p = round_same binary64 s (a * c + b * c) c (a + b) 1 p (zero-lt-suc 0) (mul-one (a * c + b * c) ∙ sym (add-mul a b c))

minus_round : (s : Bool) (a b c : ℕ) → 0 < c → round binary64 s (a * c - b * c) c ≡ round binary64 s (a - b) 1
minus_round s a b c p = round_same binary64 s (a * c - b * c) c (a - b) 1 p (zero-lt-suc 0) (mul-one (a * c - b * c) ∙ sym (sub_scale a b c))

scaled : (s t : Bool) (a b c : ℕ) → 0 < c → sum binary64 s (a * c) t (b * c) c ≡ sum binary64 s a t b 1
unfolding sum
scaled s t a b c p =
    ap (λ (x : Float). cond (beq s t) x (cond (ltb (a * c) (b * c)) (round binary64 t (b * c - a * c) c) (round binary64 (s && ltb (b * c) (a * c)) (a * c - b * c) c))) (plus_round s a b c p)
    ∙ ap (λ (x : Float). cond (beq s t) (round binary64 s (a + b) 1) (cond (ltb (a * c) (b * c)) x (round binary64 (s && ltb (b * c) (a * c)) (a * c - b * c) c))) (minus_round t b a c p)
    ∙ ap (λ (x : Float). cond (beq s t) (round binary64 s (a + b) 1) (cond (ltb (a * c) (b * c)) (round binary64 t (b - a) 1) x)) (minus_round (s && ltb (b * c) (a * c)) a b c p)
    ∙ ap (λ (l : Bool). cond (beq s t) (round binary64 s (a + b) 1) (cond l (round binary64 t (b - a) 1) (round binary64 (s && ltb (b * c) (a * c)) (a - b) 1))) (ltb_scale a b c p)
    ∙ ap (λ (l : Bool). cond (beq s t) (round binary64 s (a + b) 1) (cond (ltb a b) (round binary64 t (b - a) 1) (round binary64 (s && l) (a - b) 1))) (ltb_scale b a c p)

-- ---- the difference, by the signs

-- m - n as a float, where m is not below zero and n above
low_of : (m n : ℕ) (t : Bool) → ltb m (suc n) ≡ t → cond t (round binary64 true (suc n - m) 1) (round binary64 false (m - suc n) 1) ≡ of_int binary64 (cond t (negsuc (suc n - suc m)) (pos (m - suc n)))
unfolding of_int
low_of m n true e = let h : m < suc n = ltb-true m (suc n) e in let q : suc n - m ≡ suc (suc n - suc m) = omega arith in ap (λ (x : ℕ). round binary64 true x 1) q
low_of m n false e = refl

-- suc n - suc m as a float, where both are above zero
high_of : (m n : ℕ) (t : Bool) → ltb (suc n) (suc m) ≡ t → (u : Bool) → ltb (suc m) (suc n) ≡ u
    → cond u (round binary64 false (suc n - suc m) 1) (round binary64 t (suc m - suc n) 1) ≡ of_int binary64 (cond t (negsuc (suc m - suc (suc n))) (pos (suc n - suc m)))
unfolding of_int
high_of m n true e true f = let h : suc n < suc m = ltb-true (suc n) (suc m) e in let k : suc m < suc n = ltb-true (suc m) (suc n) f in absurd (omega arith)
high_of m n true e false f = let h : suc n < suc m = ltb-true (suc n) (suc m) e in let q : suc m - suc n ≡ suc (suc m - suc (suc n)) = omega arith in ap (λ (x : ℕ). round binary64 true x 1) q
high_of m n false e true f = refl
high_of m n false e false f =
    let h : suc m ≤ suc n = ltb-false (suc n) (suc m) e in let k : suc n ≤ suc m = ltb-false (suc m) (suc n) f in
    let q : suc m - suc n ≡ suc n - suc m = omega arith in ap (λ (x : ℕ). round binary64 false x 1) q

ends : (a b : ℤ) → sum binary64 (below_zero a) (nat_abs a) (not (below_zero b)) (nat_abs b) 1 ≡ of_int binary64 (a -ℤ b)
unfolding sum of_int
ends (pos m) (pos zero) =
    let q : m - 0 ≡ m + 0 = omega arith in
    ap (λ (t : Bool). cond t (round binary64 true (0 - m) 1) (round binary64 false (m - 0) 1)) (le-ltb m 0 zero-le) ∙ ap (λ (x : ℕ). round binary64 false x 1) q
ends (pos m) (pos (suc n)) = low_of m n (ltb m (suc n)) refl
ends (pos m) (negsuc n) = refl
ends (negsuc m) (pos zero) =
    let q : suc m + 0 ≡ suc (suc m - suc 0) = omega arith in
    ap (λ (x : ℕ). round binary64 true x 1) q ∙ sym (ap (λ (t : Bool). of_int binary64 (cond t (negsuc (suc m - suc 0)) (pos (0 - suc m)))) (lt-ltb 0 (suc m) (zero-lt-suc m)))
ends (negsuc m) (pos (suc n)) = let q : suc m + suc n ≡ suc (suc (m + n)) = omega arith in ap (λ (x : ℕ). round binary64 true x 1) q
ends (negsuc m) (negsuc n) = high_of m n (ltb (suc n) (suc m)) refl (ltb (suc m) (suc n)) refl

-- the floats' difference is the float of the whole numbers' difference
float_difference : (x y : Float) (a b : ℤ) → Equals x a → Equals y b → sub binary64 x y ≡ float_of (a -ℤ b)
unfolding sub add neg
float_difference nan y a b p q = absurd p
float_difference (inf s) y a b p q = absurd p
float_difference (fin s m e) nan a b p q = absurd q
float_difference (fin s m e) (inf t) a b p q = absurd q
float_difference (fin s m e) (fin t n d) a b p q =
    let c = down e * down d in
    let g : m * up e * down d ≡ nat_abs a * c = ap (λ (x : ℕ). x * down d) (sym (mul-one (m * up e)) ∙ p.1) ∙ mul_assoc (nat_abs a) (down e) (down d) in
    let h : n * up d * down e ≡ nat_abs b * c =
    ap (λ (x : ℕ). x * down e) (sym (mul-one (n * up d)) ∙ q.1) ∙ mul_assoc (nat_abs b) (down d) (down e) ∙ ap (λ (x : ℕ). nat_abs b * x) (mul_comm (down d) (down e)) in
    (λ i. sum binary64 (p.0 i) (g i) (not (q.0 i)) (h i) c) ∙ scaled (below_zero a) (not (below_zero b)) (nat_abs a) (nat_abs b) c (mul-pos (down_pos e) (down_pos d)) ∙ ends a b

pub difference_exact : DifferenceExact
difference_exact x y a b p q h = subst (λ (r : Float). Equals r (a -ℤ b)) (sym (float_difference x y a b p q)) (whole_exact (a -ℤ b) h)
