-- The laws of `round_even`: it is the nearest whole number, a tie going to the even one, and the only such number; and what follows for callers, who never unfold it.
use mathlib.Core.Path.{◌≡◌, sym, ap, ◌∙◌}
use mathlib.Core.Bool.{cond}
use Prim.Native.Nat.{ℕ, suc, ◌+◌, ◌-◌, ◌*◌, ◌%◌, ◌≤◌, ◌<◌}
use native.Mathlib.Decide.{dec_le}
use native.Mathlib.Nat.{mul-pos, eq_of_mul-eq-mul_left, mul-le-mul_left, mul-le-mul_right, le_of_mul-le-mul_left, mul-one}
use native.Mathlib.Omega.{arith}
use lib.Dec.{ltb, ltb→lt, nltb→le}
use lib.IntN.{ℤ, pos, negsuc, neg_ℤ, nat_abs, ◌+ℤ◌, ◌-ℤ◌, ◌*ℤ◌, +ℤ_invr}
use lib.Signed.{◌≤ℤ◌, mag}
use mir.Syntax.{Width}
use mir.Val.{SFits}
use mir.ValLaws.{sfits_le}
use Rattle.numbers.proofs.Tests.{by_test}
use Rattle.numbers.proofs.Ring.{ringℤ, mul_addℤ, mul_oneℤ, mul_assocℤ}
use Rattle.numbers.proofs.Parts.{pos_part, neg_part, ints, parts_le, parts_eq, parts_sub, parts_abs, parts_times, pos_abs}
use Rattle.numbers.proofs.Sizes.{abs_neg, abs_sub, abs_sub_pos, abs_mul, abs_apart, parity_add, parity_sub}
use Rattle.roots.specs.Round.{IsRound, floor_div, round_even, greatest_divisor, divisor}
use Rattle.roots.proofs.Floor.{floor_split}

-- ---- round_even rounds

-- how far d × q and d × (q + 1) are from n, where n is ρ above d × q
module _ (n q : ℤ) (d ρ : ℕ) (e : n -ℤ pos d *ℤ q ≡ pos ρ) where
  below : nat_abs (pos d *ℤ q -ℤ n) ≡ ρ
  below = ap nat_abs turned ∙ abs_neg (n -ℤ pos d *ℤ q) ∙ ap nat_abs e
    where
      turned : pos d *ℤ q -ℤ n ≡ neg_ℤ (n -ℤ pos d *ℤ q)
      turned = simp ringℤ

  above : ρ < d → nat_abs (pos d *ℤ (q +ℤ pos 1) -ℤ n) ≡ d - ρ
  above h = ap nat_abs (turned ∙ ap (λ (z : ℤ). pos d -ℤ z) e) ∙ abs_sub_pos d ρ ∙ omega arith
    where
      turned : pos d *ℤ (q +ℤ pos 1) -ℤ n ≡ pos d -ℤ (n -ℤ pos d *ℤ q)
      turned = ap (λ (z : ℤ). z -ℤ n) (mul_addℤ (pos d) q (pos 1) ∙ ap (λ (z : ℤ). pos d *ℤ q +ℤ z) (mul_oneℤ (pos d))) ∙ simp ringℤ

pub round_is : (n : ℤ) (d : ℕ) → 0 < d → IsRound n d (round_even n d)
unfolding round_even
round_is n d h =
    let s = floor_split n d h in
    let e : n -ℤ pos d *ℤ q ≡ pos ρ = sym (pos_abs s.low) in
    let l : ρ < d = omega (ints, s.low, s.below, parts_abs (n -ℤ pos d *ℤ q)) in
    by_test (ltb d (2 * ρ + nat_abs q % 2)) (λ b. IsRound n d (cond b (q +ℤ pos 1) q))
    (λ t. let k : d < 2 * ρ + nat_abs q % 2 = ltb→lt d (2 * ρ + nat_abs q % 2) t in
    record {
      near = rw (above n q d ρ e l) (omega arith);
      even = λ v. let j : 2 * (d - ρ) ≡ d = rw (above n q d ρ e l) at v in omega (arith, parity_add q (pos 1));
    })
    (λ t. let k : 2 * ρ + nat_abs q % 2 ≤ d = nltb→le d (2 * ρ + nat_abs q % 2) t in
    record {
      near = rw (below n q d ρ e) (omega arith);
      even = λ v. let j : 2 * ρ ≡ d = rw (below n q d ρ e) at v in omega arith;
    })
  where
    q : ℤ
    q = floor_div n d

    ρ : ℕ
    ρ = nat_abs (n -ℤ pos d *ℤ q)

-- ---- and nothing else does

-- two numbers within reach of n are within reach of each other
reach : (n : ℤ) (d : ℕ) (r s : ℤ) → d * nat_abs (r -ℤ s) ≤ nat_abs (pos d *ℤ r -ℤ n) + nat_abs (pos d *ℤ s -ℤ n)
reach n d r s = omega (arith, abs_mul (pos d) (r -ℤ s), ap nat_abs split, abs_sub (pos d *ℤ r -ℤ n) (pos d *ℤ s -ℤ n))
  where
    split : pos d *ℤ (r -ℤ s) ≡ (pos d *ℤ r -ℤ n) -ℤ (pos d *ℤ s -ℤ n)
    split = simp ringℤ

pub round_unique : (n : ℤ) (d : ℕ) (r s : ℤ) → 0 < d → IsRound n d r → IsRound n d s → r ≡ s
round_unique n d r s h p q = abs_apart r s (go (dec_le (nat_abs (r -ℤ s)) 0))
  where
    go : Dec (nat_abs (r -ℤ s) ≤ 0) → nat_abs (r -ℤ s) ≡ 0
    go (yes z) = omega arith
    go (no f) =
        let g : 1 ≤ nat_abs (r -ℤ s) = omega arith in
        let l : d ≤ d * nat_abs (r -ℤ s) = omega (arith, mul-le-mul_left d g, mul-one d) in
        let tie_r : 2 * nat_abs (pos d *ℤ r -ℤ n) ≡ d = omega (arith, p.near, q.near, reach n d r s) in
        let tie_s : 2 * nat_abs (pos d *ℤ s -ℤ n) ≡ d = omega (arith, p.near, q.near, reach n d r s) in
        let m : d * nat_abs (r -ℤ s) ≤ d * 1 = omega (arith, p.near, q.near, reach n d r s, mul-one d) in
        let o : nat_abs (r -ℤ s) ≤ 1 = le_of_mul-le-mul_left m h in
        omega (arith, parity_sub r s, p.even tie_r, q.even tie_s)

-- so a number that rounds n / d is round_even n d
pub round_eq : (n : ℤ) (d : ℕ) (r : ℤ) → 0 < d → IsRound n d r → round_even n d ≡ r
round_eq n d r h p = round_unique n d (round_even n d) r h (round_is n d h) p

-- ---- what follows

-- a multiple of d is divided exactly
pub round_exact : (k : ℤ) (d : ℕ) → 0 < d → round_even (pos d *ℤ k) d ≡ k
round_exact k d h =
    round_eq (pos d *ℤ k) d k h
    (record { near = rw z (omega arith); even = λ e. let u : 2 * 0 ≡ d = rw z at e in absurd (omega arith) })
  where
    z : nat_abs (pos d *ℤ k -ℤ pos d *ℤ k) ≡ 0
    z = ap nat_abs (+ℤ_invr (pos d *ℤ k))

-- the negative of n has the negative result
pub round_neg : (n : ℤ) (d : ℕ) → 0 < d → round_even (neg_ℤ n) d ≡ neg_ℤ (round_even n d)
round_neg n d h =
    let p = round_is n d h in
    round_eq (neg_ℤ n) d (neg_ℤ r) h (record { near = rw flip p.near; even = λ e. rw (abs_neg r) (p.even (rw flip at e)) })
  where
    r : ℤ
    r = round_even n d

    flip : nat_abs (pos d *ℤ neg_ℤ r -ℤ neg_ℤ n) ≡ nat_abs (pos d *ℤ r -ℤ n)
    flip = ap nat_abs turned ∙ abs_neg (pos d *ℤ r -ℤ n)
      where
        turned : pos d *ℤ neg_ℤ r -ℤ neg_ℤ n ≡ neg_ℤ (pos d *ℤ r -ℤ n)
        turned = simp ringℤ

-- a larger n has no smaller result
pub round_mono : (m n : ℤ) (d : ℕ) → 0 < d → m ≤ℤ n → round_even m d ≤ℤ round_even n d
round_mono m n d h k = go (dec_le (pos_part x + neg_part y) (pos_part y + neg_part x))
  where
    x : ℤ
    x = round_even m d

    y : ℤ
    y = round_even n d

    go : Dec (pos_part x + neg_part y ≤ pos_part y + neg_part x) → x ≤ℤ y
    go (yes p) = parts_le p
    go (no f) =
        let l : pos_part y + neg_part x + 1 ≤ pos_part x + neg_part y = omega arith in
        let e : m ≡ n = parts_eq m n (omega (
          ints,
          k,
          mul-le-mul_left d l,
          (round_is m d h).near,
          (round_is n d h).near,
          parts_sub (pos d *ℤ x) m,
          parts_abs (pos d *ℤ x -ℤ m),
          parts_times d x,
          parts_sub (pos d *ℤ y) n,
          parts_abs (pos d *ℤ y -ℤ n),
          parts_times d y,
        )) in
        absurd (omega (arith, ap (λ z. pos_part (round_even z d)) e, ap (λ z. neg_part (round_even z d)) e))

-- the same ratio in smaller units
pub round_scale : (n : ℤ) (d k : ℕ) → 0 < d → 0 < k → round_even (pos k *ℤ n) (k * d) ≡ round_even n d
round_scale n d k h j =
    let p = round_is n d h in
    round_eq (pos k *ℤ n) (k * d) r (mul-pos j h)
    (record {
      near = rw scaled (omega (arith, mul-le-mul_left k p.near));
      even = λ e. p.even (eq_of_mul-eq-mul_left k j (2 * nat_abs (pos d *ℤ r -ℤ n)) d (omega (arith, rw scaled at e)));
    })
  where
    r : ℤ
    r = round_even n d

    scaled : nat_abs (pos (k * d) *ℤ r -ℤ pos k *ℤ n) ≡ k * nat_abs (pos d *ℤ r -ℤ n)
    scaled = ap nat_abs factor ∙ abs_mul (pos k) (pos d *ℤ r -ℤ n)
      where
        factor : pos (k * d) *ℤ r -ℤ pos k *ℤ n ≡ pos k *ℤ (pos d *ℤ r -ℤ n)
        factor = ap (λ (z : ℤ). z -ℤ pos k *ℤ n) (mul_assocℤ (pos k) (pos d) r) ∙ simp ringℤ

-- the result is 0 or has n's sign and no larger a magnitude, so it fits every signed type that n fits
toward : (u v d : ℕ) → 0 < d → 2 * (d * u) ≤ 2 * v + d → u ≤ v
toward u v d h k = go (dec_le u v)
  where
    go : Dec (u ≤ v) → u ≤ v
    go (yes p) = p
    go (no f) =
        let l : v + 1 ≤ u = omega arith in
        omega (arith, mul-le-mul_left d l, mul-le-mul_right v h)

mag_round : (n r : ℤ) (d : ℕ) → 0 < d → 2 * nat_abs (pos d *ℤ r -ℤ n) ≤ d → mag r ≤ mag n
mag_round (pos a) (pos x) d h p = toward x a d h (omega (arith, p, abs_sub_pos (d * x) a))
mag_round (pos a) (negsuc x) d h p =
    let s = pos d *ℤ negsuc x -ℤ pos a in
    absurd (omega (arith, toward (suc x) 0 d h (omega (arith, p, parts_times d (negsuc x), parts_sub (pos d *ℤ negsuc x) (pos a), parts_abs s))))
mag_round (negsuc a) (pos x) d h p =
    let s = pos (d * x) -ℤ negsuc a in
    omega (arith, toward x 0 d h (omega (arith, p, parts_sub (pos (d * x)) (negsuc a), parts_abs s)))
mag_round (negsuc a) (negsuc x) d h p =
    let s = pos d *ℤ negsuc x -ℤ negsuc a in
    omega (arith, toward (suc x) (suc a) d h (omega (arith, p, parts_times d (negsuc x), parts_sub (pos d *ℤ negsuc x) (negsuc a), parts_abs s)))

pub round_fits : {w : Width} (n : ℤ) (d : ℕ) → 0 < d → SFits w n → SFits w (round_even n d)
round_fits n d h f = sfits_le (mag_round n (round_even n d) d h (round_is n d h).near) f

pub round_size : (n : ℤ) (d : ℕ) → 0 < d → nat_abs (round_even n d) ≤ nat_abs n + 1
round_size n d h = omega (arith, mag_round n (round_even n d) d h (round_is n d h).near, near_mag n, near_mag (round_even n d))
  where
    near_mag : (z : ℤ) → (mag z ≤ nat_abs z) × (nat_abs z ≤ mag z + 1)
    near_mag (pos a) = (omega arith, omega arith)
    near_mag (negsuc a) = (omega arith, omega arith)

-- ---- the divisor that a number stands for

pub divisor_in : (d : ℤ) → pos 1 ≤ℤ d → nat_abs d ≤ greatest_divisor → divisor d ≡ nat_abs d
divisor_in (pos d) h k = omega ints
divisor_in (negsuc d) h k = absurd h.le

pub divisor_range : (d : ℤ) → (1 ≤ divisor d) × (divisor d ≤ greatest_divisor)
divisor_range (pos d) = (omega arith, omega arith)
divisor_range (negsuc d) = (omega arith, omega arith)
