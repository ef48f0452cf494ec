-- One to 64 sections in the wider range between known heights: the sizes of ΣQ, L and W, and that a line is at least 1 long.
use mathlib.Core.Path.{◌≡◌, refl, ap, ◌∙◌, sym, subst}
use mathlib.Core.Bool.{Bool, true, false, cond, ◌&&◌, ◌||◌}
use mathlib.Core.List.{List, [], ◌∷◌}
use Prim.Native.Nat.{ℕ, ◌*◌, ◌≤◌}
use native.Mathlib.Omega.{arith}
use lib.Dec.{leb, ltb, leb→le, ltb→lt, nltb→le}
use lib.ListN.{length}
use lib.IntN.{ℤ, pos, neg_ℤ, nat_abs}
use mir.Syntax.{w64}
use mir.Val.{SFits}
use lib.Signed.{◌≤ℤ◌, le_z}
use Rattle.numbers.proofs.Tests.{holds, fails, and_l, and_r, not-false, by_test, is_true}
use Rattle.numbers.specs.Numbers.{eq_z}
use Rattle.numbers.proofs.Equal.{eq_z_eq}
use Rattle.numbers.proofs.Parts.{ints, parts_add, parts_abs, test_le}
use Rattle.numbers.proofs.Sizes.{abs_add}
use Rattle.numbers.proofs.Tables.{failed}
use Rattle.numbers.proofs.Machine.{stored, stored_id}
use Rattle.numbers.proofs.Chain.{plain, add, sub, mul}
use Rattle.station.specs.declared.Staffs.{Staffs}
use Rattle.station.specs.declared.Staffs.TheVariants.{Nominal, Measured}
use Rattle.adjust.specs.declared.Section.{Section}
use Rattle.adjust.specs.declared.Totals.{Totals}
use Rattle.adjust.specs.declared.terms.Terms.{Terms}
use Rattle.adjust.specs.Sizes.{highest, most_q, most_r, most_units, most_prints, most_squared, most_sum_q, most_w}
use Rattle.adjust.specs.Sections.{height_in_range}
use Rattle.adjust.specs.Terms.{squared_of}
use Rattle.adjust.specs.Line.{quarters, units_of, line_height, line_length, totals_by, frame, frame_of}
use Rattle.adjust.specs.declared.prints.PrintUnit.{PrintUnit}
use Rattle.adjust.specs.declared.prints.PrintUnit.TheVariants.{Millimetres, Tenths}
use Rattle.adjust.specs.Prints.{prints_of, prints_allowed}
use Rattle.adjust.specs.Call.{adjust_tests, adjust_refusal}
use Rattle.adjust.specs.code.Bounds.{OneTo, Between, Framed}
use Rattle.adjust.proofs.Lists.{Fit, fit_head, fit_tail, strict_legs}

pub height_size : (xs : List Section) → Fit xs → nat_abs (line_height xs) ≤ most_q * length xs
height_size [] f = omega arith
height_size (x ∷ xs) f = omega (arith, abs_add x.height (line_height xs), (fit_head x xs f).height, height_size xs (fit_tail x xs f))

pub length_size : (xs : List Section) → Fit xs → nat_abs (line_length xs) ≤ most_r * length xs
length_size [] f = omega arith
length_size (x ∷ xs) f = omega (arith, abs_add x.distance (line_length xs), (fit_head x xs f).distance, length_size xs (fit_tail x xs f))

-- as long as it has sections
pub long : (xs : List Section) → Fit xs → pos (length xs) ≤ℤ line_length xs
long [] f = omega ints
long (x ∷ xs) f = omega (ints, parts_add x.distance (line_length xs), (fit_head x xs f).long, long xs (fit_tail x xs f))

pub in_range_lem : (h : ℤ) → height_in_range h ≡ true → nat_abs h ≤ highest
in_range_lem h e =
    let low : neg_ℤ (pos 999999) ≤ℤ h = test_le (and_l (le_z (neg_ℤ (pos 999999)) h) (le_z h (pos highest)) e) in
    let high : h ≤ℤ pos highest = test_le (and_r (le_z (neg_ℤ (pos 999999)) h) (le_z h (pos highest)) e) in
    omega (ints, parts_abs h)

module _ {units prints start end : ℤ} {ss : List Section} (u : OneTo most_units units) (p : OneTo most_prints prints) (b : Between start end ss) where
  pub framed : Framed (frame_of units prints start end ss)
  framed =
      let h : nat_abs (line_height ss) ≤ most_sum_q = omega (arith, height_size ss b.fits.legs, b.fits.few) in
      record {
        units = u;
        prints = p;
        start = b.start_size;
        closure = (sub (add (mul (plain units u.most) (plain start b.start_size)) (plain (line_height ss) h)) (mul (plain units u.most) (plain end b.end_size))).size;
        total =
            record {
              least = omega (ints, long ss b.fits.legs, b.some);
              most = omega (arith, length_size ss b.fits.legs, b.fits.few);
            };
      }

-- and what `totals_from` asks of the machine's heights and ΣQ
pub between_sizes : {units start end q : ℤ} {ss : List Section} → OneTo most_units units → Between start end ss → SFits w64 start → SFits w64 end → SFits w64 q → q ≡ line_height ss
    → OneTo most_units units × (nat_abs (stored start) ≤ highest) × (nat_abs (stored end) ≤ highest) × (nat_abs (stored q) ≤ most_sum_q)
between_sizes {start = start} {end = end} {q = q} {ss = ss} u b f g h e =
    let begins : nat_abs (stored start) ≤ highest = omega (arith, ap nat_abs (stored_id f), b.start_size) in
    let ends : nat_abs (stored end) ≤ highest = omega (arith, ap nat_abs (stored_id g), b.end_size) in
    let height : nat_abs (stored q) ≤ most_sum_q = omega (arith, ap nat_abs (stored_id h ∙ e), height_size ss b.fits.legs, b.fits.few) in
    (u, begins, ends, height)

-- the base's units are some
pub quarters_in : OneTo most_units quarters
quarters_in = record { least = omega ints; most = omega arith }

-- and so is a print unit, by its name or by its number
pub prints_in : (u : PrintUnit) → OneTo most_prints (pos (prints_of u))
prints_in Millimetres = record { least = omega ints; most = omega arith }
prints_in Tenths = record { least = omega ints; most = omega arith }

pub allowed_in : (prints : ℤ) → prints_allowed prints ≡ true → OneTo most_prints prints
allowed_in prints e =
    by_test (eq_z prints (pos 1)) (λ t. t || eq_z prints (pos 10) ≡ true → OneTo most_prints prints)
    (λ t g. subst (OneTo most_prints) (sym (eq_z_eq prints (pos 1) (is_true t))) (prints_in Millimetres))
    (λ t g. subst (OneTo most_prints) (sym (eq_z_eq prints (pos 10) g)) (prints_in Tenths)) e

-- and so are those by the staffs, and the square of their parts
pub units_in : (c : Staffs) → OneTo most_units (units_of c)
units_in Nominal = quarters_in
units_in (Measured first second) = record { least = omega ints; most = omega arith }

pub squared_in : (c : Staffs) → OneTo most_squared (pos (squared_of c))
squared_in Nominal = record { least = omega ints; most = omega arith }
squared_in (Measured first second) = record { least = omega ints; most = omega arith }

-- and by its class
pub framed_by : (terms : Terms) {units prints start : ℤ} {t : Totals} → Framed (frame units prints start t) → Framed (frame units prints start (totals_by terms t))
framed_by terms {t} f = record { units = f.units; prints = f.prints; start = f.start; closure = smaller terms.tied; total = f.total }
  where
    smaller : (known : Bool) → nat_abs (cond known t.closure (pos 0)) ≤ most_w
    smaller true = f.closure
    smaller false = omega arith

-- ---- an adjustment that is not refused

pub adjustable : (start end prints : ℤ) (ss : List Section) (places : ℕ) → adjust_refusal start end prints ss places ≡ 0
    → Between start end ss × (length ss ≤ places) × OneTo most_prints prints
unfolding adjust_refusal
adjustable start end prints ss places e =
    let test = failed (adjust_tests start end prints ss places) refl e in
    let count = not-false (ltb 0 (length ss) && leb (length ss) 64) (test 11) in
    let heights = not-false (height_in_range start && height_in_range end) (test 5) in (
      record {
        some = omega (arith, ltb→lt 0 (length ss) (holds (and_l (ltb 0 (length ss)) (leb (length ss) 64) count)));
        fits =
            record {
              few = leb→le (length ss) 64 (holds (and_r (ltb 0 (length ss)) (leb (length ss) 64) count));
              legs = strict_legs ss (test 12);
            };
        start_size = in_range_lem start (and_l (height_in_range start) (height_in_range end) heights);
        end_size = in_range_lem end (and_r (height_in_range start) (height_in_range end) heights);
      },
      nltb→le places (length ss) (fails (test 13)),
      allowed_in prints (not-false (prints_allowed prints) (test 57)),
    )
