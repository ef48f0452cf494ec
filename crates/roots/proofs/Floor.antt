-- The floor: what is left over it is below the divisor, nothing else has that property, and it is the quotient toward zero less 1 where the remainder is negative.
use mathlib.Core.Path.{◌≡◌, refl, sym, ap, ◌∙◌}
use mathlib.Core.Bool.{Bool, true, false}
use Prim.Native.Nat.{ℕ, ◌*◌, ◌/◌, ◌≤◌, ◌<◌}
use native.Mathlib.Decide.{dec_le}
use native.Mathlib.Nat.{div-add-mod, div-le_self, mod-lt, mul-le-mul_left, mul-one, mul-suc}
use native.Mathlib.Omega.{arith}
use lib.IntN.{ℤ, pos, negsuc, nat_abs, ◌+ℤ◌, ◌-ℤ◌, ◌*ℤ◌}
use lib.Signed.{◌≤ℤ◌, ◌<ℤ◌, mag, lt_z, quot_z, rem_z}
use mir.Syntax.{Width}
use mir.Val.{SFits, bool_byte}
use mir.ValLaws.{sfits_le}
use Rattle.std.proofs.lemmas.Int.{quot-rem, rem_below}
use Rattle.numbers.proofs.Ring.{ringℤ}
use Rattle.numbers.proofs.Parts.{ints, parts_add, parts_sub, parts_times, parts_abs, test_lt, test_ge}
use Rattle.numbers.proofs.Sizes.{abs_mul, abs_apart}
use Rattle.roots.specs.Round.{floor_div}

-- n is r above d × q, with r from 0 to below d
pub record Split (n : ℤ) (d : ℕ) (q r : ℤ) : Type 0 where
  pub is : n -ℤ pos d *ℤ q ≡ r
  pub low : pos 0 ≤ℤ r
  pub below : r <ℤ pos d

pub split_unique : {n : ℤ} {d : ℕ} {q r p s : ℤ} → Split n d q r → Split n d p s → q ≡ p
split_unique {n} {d} {q} {r} {p} {s} x y = abs_apart q p (go (dec_le (nat_abs (q -ℤ p)) 0))
  where
    apart : (n d q p : ℤ) → d *ℤ (q -ℤ p) ≡ (n -ℤ d *ℤ p) -ℤ (n -ℤ d *ℤ q)
    apart n d q p = simp ringℤ

    size : d * nat_abs (q -ℤ p) ≡ nat_abs (s -ℤ r)
    size = sym (abs_mul (pos d) (q -ℤ p)) ∙ ap nat_abs (apart n (pos d) q p ∙ (λ i. y.is i -ℤ x.is i))

    go : Dec (nat_abs (q -ℤ p) ≤ 0) → nat_abs (q -ℤ p) ≡ 0
    go (yes z) = omega arith
    go (no f) =
        let g : 1 ≤ nat_abs (q -ℤ p) = omega arith in
        absurd (omega (ints, size, mul-le-mul_left d g, mul-one d, x.low, x.below, y.low, y.below, parts_sub s r, parts_abs (s -ℤ r)))

pub floor_split : (n : ℤ) (d : ℕ) → 0 < d → Split n d (floor_div n d) (n -ℤ pos d *ℤ floor_div n d)
unfolding floor_div
floor_split (pos a) d h =
    record {
      is = refl;
      low = omega (ints, parts_sub (pos a) (pos (d * (a / d))), div-add-mod a d);
      below = omega (ints, parts_sub (pos a) (pos (d * (a / d))), div-add-mod a d, mod-lt a h);
    }
floor_split (negsuc a) d h =
    let m = parts_times d (negsuc (a / d)) in
    let s = parts_sub (negsuc a) (pos d *ℤ negsuc (a / d)) in
    record {
      is = refl;
      low = omega (ints, s, m, div-add-mod a d, mod-lt a h, mul-suc d (a / d));
      below = omega (ints, s, m, div-add-mod a d, mod-lt a h, mul-suc d (a / d));
    }

-- the floor fits every signed type that n fits
mag_floor : (n : ℤ) (d : ℕ) → mag (floor_div n d) ≤ mag n
unfolding floor_div
mag_floor (pos a) d = div-le_self a d
mag_floor (negsuc a) d = div-le_self a d

pub floor_fits : {w : Width} (n : ℤ) (d : ℕ) → SFits w n → SFits w (floor_div n d)
floor_fits n d f = sfits_le (mag_floor n d) f

-- ---- from the machine's quotient and remainder

-- 1 where the remainder of n by d is negative
abbrev pub lowered : ℤ → ℕ → ℤ
lowered n d = pos (bool_byte (lt_z (rem_z n (pos d)) (pos 0)))

division : (n : ℤ) (d : ℕ) → n ≡ pos d *ℤ quot_z n (pos d) +ℤ rem_z n (pos d)
division n d = sym (quot-rem n (pos d)) ∙ turn (quot_z n (pos d)) (pos d) (rem_z n (pos d))
  where
    turn : (q d r : ℤ) → q *ℤ d +ℤ r ≡ d *ℤ q +ℤ r
    turn q d r = simp ringℤ

-- a remainder that is negative, raised by d, is from 0 to below d
raised : (r : ℤ) (d : ℕ) → nat_abs r < d → (b : Bool) → lt_z r (pos 0) ≡ b → (pos 0 ≤ℤ (r +ℤ pos d *ℤ pos (bool_byte b))) × ((r +ℤ pos d *ℤ pos (bool_byte b)) <ℤ pos d)
raised r d h true e =
    let n : r <ℤ pos 0 = test_lt e in
    let s = parts_add r (pos (d * 1)) in
    (omega (ints, s, parts_abs r), omega (ints, s, parts_abs r))
raised r d h false e =
    let n : pos 0 ≤ℤ r = test_ge e in
    let s = parts_add r (pos (d * 0)) in
    (omega (ints, s, parts_abs r), omega (ints, s, parts_abs r))

-- so the quotient lowered and the remainder raised are a split
machine_split : (n : ℤ) (d : ℕ) → 0 < d → Split n d (quot_z n (pos d) -ℤ lowered n d) (rem_z n (pos d) +ℤ pos d *ℤ lowered n d)
machine_split n d h =
    let u = raised (rem_z n (pos d)) d (rem_below n (pos d) h) (lt_z (rem_z n (pos d)) (pos 0)) refl in
    record {
      is = ap (λ (z : ℤ). z -ℤ pos d *ℤ (quot_z n (pos d) -ℤ lowered n d)) (division n d) ∙ regroup (pos d) (quot_z n (pos d)) (rem_z n (pos d)) (lowered n d);
      low = u.0;
      below = u.1;
    }
  where
    regroup : (d q r f : ℤ) → (d *ℤ q +ℤ r) -ℤ d *ℤ (q -ℤ f) ≡ r +ℤ d *ℤ f
    regroup d q r f = simp ringℤ

pub floor_is : (n : ℤ) (d : ℕ) → 0 < d → quot_z n (pos d) -ℤ lowered n d ≡ floor_div n d
floor_is n d h = split_unique (machine_split n d h) (floor_split n d h)

pub excess_is : (n : ℤ) (d : ℕ) → 0 < d → rem_z n (pos d) +ℤ pos d *ℤ lowered n d ≡ n -ℤ pos d *ℤ floor_div n d
excess_is n d h = sym (machine_split n d h).is ∙ ap (λ (q : ℤ). n -ℤ pos d *ℤ q) (floor_is n d h)
