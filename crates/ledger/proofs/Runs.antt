-- How large a run and a section get: a taken station keeps a run's sums within its count, so runs and the sections made of them fit, in 64 bits and in
-- the report's fields.
use mathlib.Core.Path.{◌≡◌, ap}
use mathlib.Core.Bool.{Bool, true, ◌&&◌}
use mathlib.Core.List.{List}
use Prim.Native.Nat.{ℕ, ◌*◌, ◌≤◌, ◌<◌}
use native.Mathlib.Nat.{le_trans, mul-le-mul_left}
use native.Mathlib.Omega.{arith}
use borrow.Author.Tests.{le-leb, leb-false}
use lib.IntN.{ℤ, pos, nat_abs, ◌+ℤ◌, ◌-ℤ◌, ◌*ℤ◌}
use lib.Signed.{◌≤ℤ◌, ◌<ℤ◌, lt_z}
use Rattle.numbers.specs.Numbers.{within}
use Rattle.numbers.proofs.Tests.{and_l, and_r, not-false}
use Rattle.numbers.proofs.Ring.{ringℤ}
use Rattle.numbers.proofs.Tables.{first_none}
use Rattle.numbers.proofs.Parts.{ints, parts_add, parts_sub, parts_abs, test_lt}
use Rattle.numbers.proofs.Sizes.{abs_add, abs_sub, abs_mul, within_size, within_true, between_true}
use Rattle.station.specs.declared.Order.{Order}
use Rattle.station.specs.declared.Order.TheVariants.{Third, Fourth}
use Rattle.station.specs.declared.Instrument.{Instrument}
use Rattle.station.specs.declared.Instrument.TheVariants.{Ds3, Ds1}
use Rattle.station.specs.declared.Staffs.{Staffs}
use Rattle.station.specs.declared.Limits.{Limits}
use Rattle.station.specs.declared.Figures.{Figures}
use Rattle.station.specs.declared.Staff.{Staff}
use Rattle.station.specs.declared.Station.{Station}
use Rattle.station.specs.Station.{station_of, scale_of, constant_of, in_parts, figures_of, limits_of, sight, face_difference, twice_height, threads_in_order, reading_tests, reading_refusal}
use Rattle.station.proofs.Sizes.{read, scale_size}
use Rattle.adjust.specs.declared.Section.{Section}
use Rattle.adjust.specs.Terms.{order_of}
use Rattle.rules.specs.declared.Run.{Run}
use Rattle.rules.specs.LineState.{LineState, no_run, with_station, one_way, both_ways, run_fits, most_g, most_s, most_difference}
use Rattle.rules.specs.declared.call.Call.TheVariants.{Station as station}
use Rattle.rules.specs.Rules.{state_tests, refusal}
use Rattle.rules.proofs.Tables.{fails}

-- a run of stations whose figures go by the constants of the staffs c
pub record Sized (c : Staffs) (u : Run) : Type 0 where
  pub count : u.count ≤ 200
  -- G and s, by the stations
  pub height : nat_abs u.height ≤ scale_of c * (12006 * u.count)
  pub low : pos u.count ≤ℤ u.sights
  pub high : u.sights ≤ℤ pos (3000 * u.count)
  -- the accumulated d was tested at the last station
  pub difference : nat_abs u.difference ≤ 100

pub no_run_sized : (c : Staffs) → Sized c no_run
no_run_sized c = record { count = omega arith; height = omega arith; low = omega ints; high = omega ints; difference = omega arith }

-- ---- one station more

sight_limit_lem : (order : Order) (instrument : Instrument) (c : Staffs) → (limits_of order instrument c).sight ≤ 1500
sight_limit_lem Third Ds3 c = omega arith
sight_limit_lem Third Ds1 c = omega arith
sight_limit_lem Fourth Ds3 c = omega arith
sight_limit_lem Fourth Ds1 c = omega arith

accumulated_limit : (order : Order) (instrument : Instrument) (c : Staffs) → (limits_of order instrument c).accumulated ≤ 100
accumulated_limit Third instrument c = omega arith
accumulated_limit Fourth instrument c = omega arith

face_limit : (order : Order) (instrument : Instrument) (c : Staffs) → (limits_of order instrument c).face ≤ 3 * scale_of c
face_limit Third instrument c = omega arith
face_limit Fourth instrument c = omega arith

-- a sight by the tests 8 and 24
abbrev Sight : ℤ → Type 0
Sight x = (pos 1 ≤ℤ x) × (x ≤ℤ pos 1500)

sight_size : (s : Staff) (limit : ℕ) → threads_in_order s ≡ true → within (sight s) limit ≡ true → limit ≤ 1500 → Sight (sight s)
sight_size s limit e k h =
    let a : s.lower <ℤ s.black = test_lt (and_l (lt_z s.lower s.black) (lt_z s.black s.upper) e) in
    let b : s.black <ℤ s.upper = test_lt (and_r (lt_z s.lower s.black) (lt_z s.black s.upper) e) in
    (omega (ints, parts_sub s.upper s.lower), omega (ints, within_size (sight s) limit k, parts_abs (sight s)))

-- a height by the tests 6 and 27: twice the height of the black faces, less the difference of the two face differences
height_size : (c : Staffs) (b f : Staff) (limit : ℕ) → nat_abs b.black ≤ 3000 → nat_abs f.black ≤ 3000
    → within (face_difference c b) limit ≡ true → within (face_difference c f) limit ≡ true → limit ≤ 3 * scale_of c
    → nat_abs (twice_height c (record { back = b; fore = f })) ≤ scale_of c * 12006
height_size c b f limit h k back fore small =
    omega (
      arith,
      ap nat_abs (by_faces (in_parts c b.black) (in_parts c f.black) (in_parts c b.red) (in_parts c f.red) (constant_of c b.constant) (constant_of c f.constant)),
      abs_sub (black +ℤ black) (face_difference c b -ℤ face_difference c f),
      abs_add black black,
      abs_sub (in_parts c b.black) (in_parts c f.black),
      parts b.black h,
      parts f.black k,
      abs_sub (face_difference c b) (face_difference c f),
      within_size (face_difference c b) limit back,
      within_size (face_difference c f) limit fore,
    )
  where
    black : ℤ
    black = in_parts c b.black -ℤ in_parts c f.black

    parts : (m : ℤ) → nat_abs m ≤ 3000 → nat_abs (in_parts c m) ≤ scale_of c * 3000
    parts m small = rw (abs_mul (pos (scale_of c)) m) (mul-le-mul_left (scale_of c) small)

    by_faces : (mb mf rb rf kb kf : ℤ)
        → (mb -ℤ mf) +ℤ (rb -ℤ rf) -ℤ (kb -ℤ kf) ≡ ((mb -ℤ mf) +ℤ (mb -ℤ mf)) -ℤ ((kb +ℤ mb -ℤ rb) -ℤ (kf +ℤ mf -ℤ rf))
    by_faces mb mf rb rf kb kf = simp ringℤ

figures_sized : (c : Staffs) (u : Run) (f : Figures) (kf : ℤ) → Sized c u → u.count < 200
    → nat_abs f.height ≤ scale_of c * 12006 → Sight f.back.sight → Sight f.fore.sight → nat_abs (u.difference +ℤ f.difference) ≤ 100
    → Sized c (with_station u f kf)
figures_sized c u f kf h few height back fore difference =
    record {
      count = omega arith;
      height = omega (arith, h.height, abs_add u.height f.height);
      low = omega (ints, h.low, parts_add u.sights both, parts_add f.back.sight f.fore.sight);
      high = omega (ints, h.high, parts_add u.sights both, parts_add f.back.sight f.fore.sight);
      difference = difference;
    }
  where
    both : ℤ
    both = f.back.sight +ℤ f.fore.sight

-- by the tests 6 to 8, 22, 24, 26 and 27
pub station_sized : (v : LineState) (kb kf : ℤ) (readings : List (List ℤ)) → refusal v (station kb kf readings) ≡ 0
    → let c = v.line.opening.staffs in Sized c v.line.present → Sized c (with_station v.line.present (figures_of c (station_of kb kf readings)) kf)
unfolding reading_refusal
station_sized v kb kf readings e h =
    let test = fails v (station kb kf readings) e in
    let r = read kb kf readings (first_none (reading_tests x) (state_tests v (station kb kf readings)) e) in
    let back = within f.back.sight l.sight in
    let fore = within f.fore.sight l.sight in
    let sights = not-false (back && fore) (test 24) in
    let face_back = within f.back.face l.face in
    let face_fore = within f.fore.face l.face in
    let faces = not-false (face_back && face_fore) (test 27) in
    let accumulated = within_size (u.difference +ℤ f.difference) l.accumulated (not-false _ (test 26)) in
    figures_sized c u f kf h (leb-false 200 u.count (test 22))
    (height_size c x.back x.fore l.face r.back.black r.fore.black (and_l face_back face_fore faces) (and_r face_back face_fore faces)
    (face_limit order instrument c))
    (sight_size x.back l.sight r.back_order (and_l back fore sights) (sight_limit_lem order instrument c))
    (sight_size x.fore l.sight r.fore_order (and_r back fore sights) (sight_limit_lem order instrument c))
    (le_trans accumulated (accumulated_limit order instrument c))
  where
    c : Staffs
    c = v.line.opening.staffs

    u : Run
    u = v.line.present

    x : Station
    x = station_of kb kf readings

    f : Figures
    f = figures_of c x

    order : Order
    order = order_of v.line.opening.class

    instrument : Instrument
    instrument = v.line.opening.instrument

    l : Limits
    l = limits_of order instrument c

-- ---- runs fit

-- G of 200 stations
run_height : (c : Staffs) (u : Run) → Sized c u → nat_abs u.height ≤ 2401200 * scale_of c
run_height c u h =
    let most : 12006 * u.count ≤ 2401200 = omega (arith, h.count) in
    omega (arith, h.height, mul-le-mul_left (scale_of c) most)

pub run_fits_lem : (c : Staffs) (u : Run) → Sized c u → run_fits u ≡ true
run_fits_lem c u h =
    rw (
      le-leb u.count 200 h.count,
      within_true u.height most_g (omega (arith, run_height c u h, scale_size c)),
      between_true {low = pos u.count} {x = u.sights} {high = pos most_s} h.low (omega (ints, h.high, h.count)),
      within_true u.difference most_difference (omega (arith, h.difference)),
    )

-- ---- sections are narrow

-- what the fields of the report ask of a section: of its number, and of Q (of 400 stations at most)
abbrev pub narrow : Staffs → Section → Bool
narrow c x = within x.number 9999 && within x.height (4802400 * scale_of c)

pub one_way_narrow : (c : Staffs) (number : ℤ) (u : Run) → nat_abs number ≤ 9999 → Sized c u → narrow c (one_way number u) ≡ true
one_way_narrow c number u n h =
    rw (within_true number 9999 n, within_true (pos 2 *ℤ u.height) (4802400 * scale_of c) (omega (arith, run_height c u h, abs_mul (pos 2) u.height)))

pub both_ways_narrow : (c : Staffs) (number : ℤ) (out back : Run) → nat_abs number ≤ 9999 → Sized c out → Sized c back → narrow c (both_ways number out back) ≡ true
both_ways_narrow c number out back n h k =
    rw (
      within_true number 9999 n,
      within_true (out.height -ℤ back.height) (4802400 * scale_of c) (omega (arith, run_height c out h, run_height c back k, abs_sub out.height back.height)),
    )
