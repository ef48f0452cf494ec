-- A station whose readings are not refused: its ranges and orders hold, so its readings and constants are small.
use mathlib.Core.Path.{◌≡◌, refl, ap, ◌∙◌}
use mathlib.Core.Bool.{Bool, true, false, ◌&&◌, ◌||◌}
use mathlib.Core.List.{List}
use Prim.Native.Nat.{ℕ, ◌≤◌}
use native.Mathlib.Omega.{arith}
use lib.IntN.{ℤ, pos, nat_abs}
use mir.Syntax.{w64}
use mir.Val.{to_z}
use Rattle.numbers.specs.Numbers.{between, eq_z}
use Rattle.numbers.specs.Tables.{first_of}
use Rattle.numbers.proofs.Tests.{and_l, and_r, not-false}
use Rattle.numbers.proofs.Equal.{eq_z_eq}
use Rattle.numbers.proofs.Sizes.{between_size}
use Rattle.numbers.proofs.Machine.{stored, stored_id, abs_fits}
use Rattle.numbers.proofs.Chain.{Value, known, cast}
use Rattle.numbers.proofs.Tables.{failed}
use Rattle.station.specs.declared.Staffs.{Staffs}
use Rattle.station.specs.declared.Staffs.TheVariants.{Nominal, Measured}
use Rattle.station.specs.Station.{Staff, Station, station_of, scale_of, constant_of, readings_in_range, constants_paired, threads_in_order, reading_tests, reading_refusal}

pub record SmallStaff (s : Staff) : Type 0 where
  pub constant : nat_abs s.constant ≤ 4787
  pub upper : nat_abs s.upper ≤ 3000
  pub lower : nat_abs s.lower ≤ 3000
  pub black : nat_abs s.black ≤ 3000
  pub red : nat_abs s.red ≤ 7999

pub small_staff : (s : Staff) → nat_abs s.constant ≤ 4787 → readings_in_range s ≡ true → SmallStaff s
small_staff s k e =
    let u = between (pos 0) s.upper (pos 3000) in
    let l = between (pos 0) s.lower (pos 3000) in
    let m = between (pos 0) s.black (pos 3000) in
    let r = between (pos 0) s.red (pos 7999) in
    record {
      constant = k;
      upper = between_size 0 s.upper 3000 (and_l u l (and_l (u && l) m (and_l (u && l && m) r e)));
      lower = between_size 0 s.lower 3000 (and_r u l (and_l (u && l) m (and_l (u && l && m) r e)));
      black = between_size 0 s.black 3000 (and_r (u && l) m (and_l (u && l && m) r e));
      red = between_size 0 s.red 7999 (and_r (u && l && m) r e);
    }

-- of two constants that pair, one is 4,687 and the other 4,787
module _ (x : Station) where
  abbrev Sizes : Type 0
  Sizes = (nat_abs x.back.constant ≤ 4787) × (nat_abs x.fore.constant ≤ 4787)

  paired_sizes : constants_paired x ≡ true → Sizes
  paired_sizes e = go (eq_z x.back.constant (pos 4687) && eq_z x.fore.constant (pos 4787)) refl e
    where
      size : (k : ℤ) (n : ℕ) → n ≤ 4787 → eq_z k (pos n) ≡ true → nat_abs k ≤ 4787
      size k n h q = omega (arith, ap nat_abs (eq_z_eq k (pos n) q))

      both : (b f : ℕ) → b ≤ 4787 → f ≤ 4787 → eq_z x.back.constant (pos b) && eq_z x.fore.constant (pos f) ≡ true → Sizes
      both b f h k q = (
        size x.back.constant b h (and_l (eq_z x.back.constant (pos b)) (eq_z x.fore.constant (pos f)) q),
        size x.fore.constant f k (and_r (eq_z x.back.constant (pos b)) (eq_z x.fore.constant (pos f)) q),
      )

      go : (t : Bool) → eq_z x.back.constant (pos 4687) && eq_z x.fore.constant (pos 4787) ≡ t
          → t || (eq_z x.back.constant (pos 4787) && eq_z x.fore.constant (pos 4687)) ≡ true
          → Sizes
      go true p q = both 4687 4787 (omega arith) (omega arith) p
      go false p q = both 4787 4687 (omega arith) (omega arith) q

-- what the tests 6, 7 and 8 leave of a station
pub record Read (x : Station) : Type 0 where
  pub back_range : readings_in_range x.back ≡ true
  pub fore_range : readings_in_range x.fore ≡ true
  pub paired : constants_paired x ≡ true
  pub back_order : threads_in_order x.back ≡ true
  pub fore_order : threads_in_order x.fore ≡ true
  pub back : SmallStaff x.back
  pub fore : SmallStaff x.fore

pub of_tests : (x : Station) → first_of (reading_tests x) ≡ 0 → Read x
of_tests x e =
    let fails = failed (reading_tests x) refl e in
    let range = not-false (readings_in_range x.back && readings_in_range x.fore) (fails 6) in
    let pair = not-false (constants_paired x) (fails 7) in
    let order = not-false (threads_in_order x.back && threads_in_order x.fore) (fails 8) in
    let b = and_l (readings_in_range x.back) (readings_in_range x.fore) range in
    let r = and_r (readings_in_range x.back) (readings_in_range x.fore) range in
    record {
      back_range = b;
      fore_range = r;
      paired = pair;
      back_order = and_l (threads_in_order x.back) (threads_in_order x.fore) order;
      fore_order = and_r (threads_in_order x.back) (threads_in_order x.fore) order;
      back = small_staff x.back (paired_sizes x pair).0 b;
      fore = small_staff x.fore (paired_sizes x pair).1 r;
    }

pub read : (kb kf : ℤ) (readings : List (List ℤ)) → reading_refusal kb kf readings ≡ 0 → Read (station_of kb kf readings)
unfolding reading_refusal
read kb kf readings e = of_tests (station_of kb kf readings) e

-- ---- what `scale_of` and `constant_of` give, as an operation reads it

pub scale_size : (c : Staffs) → scale_of c ≤ 10
scale_size Nominal = omega arith
scale_size (Measured first second) = omega arith

pub scale_value : (c : Staffs) {n : ℕ} → n ≡ scale_of c → Value (to_z w64 n) (pos (scale_of c)) 10
scale_value c {n} e = let v = cast n {k = 10} (omega (arith, e, scale_size c)) tt in record { is = v.is ∙ ap pos e; size = scale_size c }

pub constant_value : (c : Staffs) (k : ℤ) {z : ℤ} → nat_abs k ≤ 4787
    → z ≡ constant_of c (stored k) → (nat_abs (stored k) ≤ 65535 → nat_abs z ≤ 65535) → Value (stored z) (constant_of c k) 65535
constant_value c k {z} h value bound =
    let e : stored k ≡ k = stored_id (abs_fits (omega arith)) in
    let is = value ∙ ap (constant_of c) e in
    let small = bound (omega (arith, h, ap nat_abs e)) in
    record { is = (known z {k = 65535} small tt).is ∙ is; size = omega (arith, small, ap nat_abs is) }

-- so the machine's term has the value's size
pub sized : {z y : ℤ} {k : ℕ} → Value z y k → nat_abs z ≤ k
sized v = omega (arith, ap nat_abs v.is, v.size)
