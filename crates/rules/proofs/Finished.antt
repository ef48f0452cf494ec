-- A section that a taken call finishes is in the wider range: by the ranges of its runs, and by the test 32.
use mathlib.Core.Path.{◌≡◌, refl, subst}
use mathlib.Core.Bool.{Bool, true, false, not, cond, ◌&&◌, ◌||◌}
use Prim.Native.Nat.{ℕ, ◌+◌, ◌*◌, ◌%◌, ◌≤◌, ◌<◌}
use native.Mathlib.Nat.{mul-le-mul, mul-le-mul_left, mul-le-mul_right}
use native.Mathlib.Decide.{dec_le}
use native.Mathlib.Omega.{arith}
use borrow.Author.Tests.{eqb-false}
use lib.Dec.{leb, eqb}
use lib.ListN.{length}
use lib.IntN.{ℤ, pos, nat_abs, ◌+ℤ◌, ◌*ℤ◌}
use lib.Signed.{◌≤ℤ◌, le_z, lt_z}
use Rattle.std.specs.declared.option.Option.{Option}
use Rattle.std.specs.Prelude.{Some, None}
use Rattle.numbers.specs.Numbers.{within, between}
use Rattle.numbers.proofs.Tables.{test_of}
use Rattle.numbers.proofs.Tests.{by_test, and_l, and_r, or_l, not-false}
use Rattle.numbers.proofs.Parts.{ints, pos_part, parts_add, parts_times, parts_abs, test_le}
use Rattle.numbers.proofs.Sizes.{abs_sub, abs_mul, square_abs, within_true, between_true}
use Rattle.roots.specs.Limit.{is_within}
use Rattle.roots.proofs.LimitLaws.{within_le}
use Rattle.adjust.specs.declared.Section.{Section}
use Rattle.adjust.specs.declared.terms.Terms.{Terms}
use Rattle.adjust.specs.Sizes.{most_q, most_r, most_d}
use Rattle.adjust.specs.Sections.{section_fits}
use Rattle.adjust.specs.Terms.{terms_by}
use Rattle.adjust.proofs.Classes.{Row, row}
use Rattle.rules.specs.declared.Run.{Run}
use Rattle.rules.specs.declared.Outward.{Outward}
use Rattle.rules.specs.LineState.{LineState, waiting_broken, outward_or_return, one_way, both_ways, run_fits, most_g, most_s, most_difference}
use Rattle.rules.specs.declared.call.Call.TheVariants.{EndRun as end_run}
use Rattle.rules.specs.Rules.{counted_length, discrepancy_within, book_tests, book_refusal}
use Rattle.rules.specs.code.Bounds.{finish_fits}
use Rattle.rules.proofs.Tables.{book_fails, line_unbroken}
use Rattle.rules.proofs.Unbroken.{Unbroken, unbroken, small_run}

-- ---- the sights of a run: a decimetre a station at least

record Sights (u : Run) : Type 0 where
  low : pos u.count ≤ℤ u.sights
  high : u.sights ≤ℤ pos most_s

sights : (u : Run) → run_fits u ≡ true → Sights u
sights u e =
    let n = leb u.count 200 in
    let h = within u.height most_g in
    let s = between (pos u.count) u.sights (pos most_s) in
    let k = and_r (n && h) s (and_l (n && h && s) (within u.difference most_difference) e) in
    record {
      low = test_le (and_l (le_z (pos u.count) u.sights) (le_z u.sights (pos most_s)) k);
      high = test_le (and_r (le_z (pos u.count) u.sights) (le_z u.sights (pos most_s)) k);
    }

-- ---- a section of one run, and of two

section_fits_lem : (x : Section) → nat_abs x.height ≤ most_q → pos 1 ≤ℤ x.distance → x.distance ≤ℤ pos most_r → nat_abs x.discrepancy ≤ most_d
    → section_fits x ≡ true
section_fits_lem x height low high discrepancy =
    rw (within_true x.height most_q height, between_true low high, within_true x.discrepancy most_d discrepancy)

pub one_way_fits : (number : ℤ) (u : Run) → run_fits u ≡ true → 0 < u.count → section_fits (one_way number u) ≡ true
one_way_fits number u e some =
    let s = sights u e in
    section_fits_lem (one_way number u) (omega (arith, (small_run u e).height, abs_mul (pos 2) u.height)) (omega (ints, s.low, parts_times 2 u.sights))
    (omega (ints, s.high, parts_times 2 u.sights)) (omega arith)

-- a root limit of a length, as a bound
pub root_size : (a : ℕ) (x : ℤ) (b : ℕ) (l : ℤ) (k : ℕ) → 0 < a → is_within a x b l ≡ true → (pos b *ℤ l) ≤ℤ pos (k * k) → nat_abs x ≤ k
root_size a x b l k some e h = go (dec_le (nat_abs x) k)
  where
    square : (pos a *ℤ pos (nat_abs x * nat_abs x)) ≤ℤ (pos b *ℤ l)
    square = subst (λ (z : ℤ). (pos a *ℤ z) ≤ℤ (pos b *ℤ l)) (square_abs x) (within_le a x b l e)

    go : Dec (nat_abs x ≤ k) → nat_abs x ≤ k
    go (yes p) = p
    go (no f) =
        let above : k + 1 ≤ nat_abs x = omega arith in
        omega (ints, square, mul-le-mul above above, mul-le-mul_right (nat_abs x * nat_abs x) some)

pub both_ways_fits : (t : Terms) → Row t → (number : ℤ) (out back : Run) → run_fits out ≡ true → run_fits back ≡ true → 0 < back.count
    → discrepancy_within t.apart (both_ways number out back) ≡ true → section_fits (both_ways number out back) ≡ true
both_ways_fits t r number out back h k few e =
    section_fits_lem (both_ways number out back) (omega (arith, (small_run out h).height, (small_run back k).height, abs_sub out.height back.height)) low high
    (root_size t.apart.a (out.height +ℤ back.height) t.apart.b (counted_length (out.sights +ℤ back.sights)) most_d r.some e within_most)
  where
    low : pos 1 ≤ℤ (out.sights +ℤ back.sights)
    low = omega (ints, (sights out h).low, (sights back k).low, parts_add out.sights back.sights)

    high : (out.sights +ℤ back.sights) ≤ℤ pos most_r
    high = omega (ints, (sights out h).high, (sights back k).high, parts_add out.sights back.sights)

    counted_high : (l : ℤ) → l ≤ℤ pos most_r → counted_length l ≤ℤ pos most_r
    counted_high l h = by_test (lt_z l (pos 2000)) (λ t. cond t (pos 2000) l ≤ℤ pos most_r) (λ t. omega ints) (λ t. h)

    within_most : (pos t.apart.b *ℤ counted_length (out.sights +ℤ back.sights)) ≤ℤ pos (most_d * most_d)
    within_most =
        let l : ℤ = counted_length (out.sights +ℤ back.sights) in
        let short : pos_part l ≤ most_r = omega (ints, counted_high (out.sights +ℤ back.sights) high, parts_abs l) in
        omega (ints, r.apart, mul-le-mul_left t.apart.b short, parts_times t.apart.b l)

-- ---- by the end of a run that is taken

pub finished_fits : (v : LineState) (number : ℤ) → book_refusal v (end_run number) ≡ 0 → finish_fits v.line number ≡ true
finished_fits v number e = go v.line.waiting terms.double line.waits (test 32)
  where
    test : (n : ℕ) → test_of n (book_tests v (end_run number)) ≡ false
    test n = book_fails v (end_run number) e n

    line : Unbroken v.line (length v.sections)
    line = unbroken v.line (length v.sections) (line_unbroken v (end_run number) e)

    u : Run
    u = v.line.present

    terms : Terms
    terms = terms_by v.line.opening.staffs v.line.opening.class

    some : 0 < u.count
    some = omega (arith, eqb-false u.count 0 (or_l (eqb u.count 0) (eqb (u.count % 2) 1) (test 29)))

    go : (w : Option Outward) (d : Bool) → waiting_broken w (length v.sections) ≡ false
        → outward_or_return w false (λ outward run. not (discrepancy_within terms.apart (both_ways outward run u))) ≡ false
        → outward_or_return w (d || section_fits (one_way number u)) (λ outward run. section_fits (both_ways outward run u)) ≡ true
    go None true h e = refl
    go None false h e = one_way_fits number u line.fit some
    go (Some w) d h e =
        both_ways_fits terms (row v.line.opening.staffs v.line.opening.class) w.number w.run u
        (not-false (run_fits w.run) (or_l (not (run_fits w.run)) (leb 64 (length v.sections)) h)) line.fit some
        (not-false (discrepancy_within terms.apart (both_ways w.number w.run u)) e)
