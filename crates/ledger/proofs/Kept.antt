-- What every taken call keeps of the state of a line. So no book that calls from a fresh one leave meets the test of 20, and a closed line is at least 1 long.
use mathlib.Core.Path.{◌≡◌, refl, sym, ap, subst, ◌∙◌}
use mathlib.Core.Bool.{Bool, true, false, not, cond, ◌&&◌, ◌||◌}
use mathlib.Core.List.{List, [], ◌∷◌, ◌++◌}
use Prim.Native.Nat.{ℕ, ◌%◌, ◌≤◌, ◌<◌}
use Rattle.std.specs.declared.option.Option.{Option}
use Rattle.std.specs.Prelude.{Some, None}
use native.Mathlib.Omega.{arith}
use borrow.Author.Tests.{le-leb, lt-leb, leb-false, eqb-false, ne_eqb}
use lib.Dec.{leb, eqb, eqb→eq}
use lib.ListN.{length, length-append}
use lib.IntN.{ℤ, pos, nat_abs}
use lib.Signed.{◌≤ℤ◌, le_z}
use Rattle.numbers.specs.Tables.{first_of}
use Rattle.numbers.proofs.Tests.{by_test, no_true, and_l, and_r, or_l, or_r, not-false}
use Rattle.numbers.proofs.Tables.{first_skips}
use Rattle.numbers.proofs.All.{All, all_cons, all_append}
use Rattle.numbers.proofs.Last.{but_last_short, all_last, all_but_last}
use Rattle.numbers.specs.Numbers.{between, last_of, but_last}
use Rattle.numbers.proofs.Parts.{ints, parts_abs, pos_abs, test_le}
use Rattle.station.specs.declared.Staffs.{Staffs}
use Rattle.station.specs.declared.Staffs.TheVariants.{Nominal, Measured}
use Rattle.adjust.specs.declared.Opening.{Opening}
use Rattle.adjust.specs.declared.Section.{Section}
use Rattle.adjust.specs.declared.terms.Class.TheVariants.{Spur}
use Rattle.adjust.specs.declared.terms.Root.{Root}
use Rattle.adjust.specs.declared.terms.Terms.{Terms}
use Rattle.adjust.specs.Terms.{terms_of, terms_by}
use Rattle.adjust.specs.declared.SectionSums.{SectionSums}
use Rattle.adjust.specs.Sections.{no_section, section_fits, height_in_range}
use Rattle.adjust.specs.Kept.{sums_of, sums_plus, sums_minus, sums_fit, unsummed}
use Rattle.adjust.specs.Line.{line_length}
use Rattle.adjust.proofs.Classes.{row}
use Rattle.adjust.proofs.Lists.{fitted_legs}
use Rattle.adjust.proofs.Sized.{long}
use Rattle.adjust.proofs.Kept.{sums_more, sums_less, sums_in_range, own_summed}
use Rattle.rules.specs.declared.Stage.{Stage}
use Rattle.rules.specs.declared.Stage.TheVariants.{Fresh, Open, Closed}
use Rattle.rules.specs.declared.Run.{Run}
use Rattle.rules.specs.declared.Line.{Line}
use Rattle.rules.specs.declared.Outward.{Outward}
use Rattle.rules.specs.LineState.{LineState, is_fresh, is_open, constants_in_range, staffs_fit, is_closed, is_shut, is_empty, is_return, outward_or_return, no_run, one_way, both_ways, waiting_broken, misplaced, out_of_range, line_broken}
use Rattle.rules.specs.declared.call.Call.{Call}
use Rattle.rules.specs.declared.call.Call.TheVariants.{OpenLine as open_line, Station as station, EndRun as end_run, DropRun as drop_run, DropSection as drop_section, CloseLine as close_line, OpenSpur as open_spur, CloseSpur as close_spur, Collimation as collimation, Constants as constants, LiftSection as lift_section}
use Rattle.rules.specs.Rules.{is_closing, is_lift, all_broken, last_broken, broken, input_tests, state_tests, refusal, book_refusal, number_in_range, discrepancy_within, class_of, opening_of, collimated, measured, begun, closed_at, with_opening, with_runs, with_section, lifted, run_ended, taken}
use Rattle.rules.proofs.Tables.{fails}
use Rattle.rules.proofs.Finished.{one_way_fits, both_ways_fits}
use Rattle.ledger.specs.Plain as Plain
use Rattle.ledger.specs.Plain.{Reading, fresh_reading, after, next, plain_state}
use Rattle.ledger.proofs.Follows.{follows}
use Rattle.ledger.proofs.Runs.{Sized, no_run_sized, station_sized, run_fits_lem, narrow, one_way_narrow, both_ways_narrow}

-- ---- stages

pub open_not_closed : Open ≡ Closed → ⊥
open_not_closed e = let z : ◌≡◌ {A = ℕ} 0 1 = cc in omega arith

pub fresh_not_closed : Fresh ≡ Closed → ⊥
fresh_not_closed e = let z : ◌≡◌ {A = ℕ} 0 1 = cc in omega arith

-- ---- what is kept

-- what waits beside n sections, levelled with the staffs c: a run leaves room for the section that it will be
abbrev pub Awaits : Staffs → ℕ → Option Outward → Type 0
Awaits c n None = Unit {0}
Awaits c n (Some w) = Sized c w.run × (n < 64) × (nat_abs w.number ≤ 9999)

pub record Kept (v : LineState) : Type 0 where
  pub few : length v.sections ≤ 64
  pub fit : All section_fits v.sections
  pub present : Sized v.line.opening.staffs v.line.present
  pub waiting : Awaits v.line.opening.staffs (length v.sections) v.line.waiting
  pub start : height_in_range v.line.opening.start.height ≡ true
  pub end : height_in_range v.line.end ≡ true
  pub closed : v.line.stage ≡ Closed → 1 ≤ length v.sections
  pub sums : v.line.sums ≡ sums_of v.line.opening v.sections
  pub placed : misplaced v.line (length v.sections) ≡ false
  -- what the report's fields ask
  pub number : nat_abs v.line.opening.start.number ≤ 9999
  pub narrow_sections : All (narrow v.line.opening.staffs) v.sections
  -- measured constants are in their ranges
  pub staffs : staffs_fit v.line.opening.staffs ≡ true

-- so the test of 20 does not hold
pub kept_unbroken : (v : LineState) → Kept v → (c : Call) → broken v c ≡ false
unfolding line_broken
kept_unbroken v i call =
    λ j. (unread (is_closing call) (is_lift call) j || (not (le-leb (length ss) 64 i.few j) || not (run_fits_lem c v.line.present i.present j) || waits v.line.waiting i.waiting j || ranges j || i.placed j))
  where
    c : Staffs
    c = v.line.opening.staffs

    ss : List Section
    ss = v.sections

    all : all_broken v ≡ false
    all = (λ j. unsummed v.line.opening (i.sums j) ss) ∙ own_summed v.line.opening ss (λ j. not (le-leb (length ss) 64 i.few j) || i.fit j)

    last : (xs : List Section) → All section_fits xs → last_broken (record { line = v.line; sections = xs }) ≡ false
    last [] f = refl
    last (x ∷ xs) f = ap not (all_last section_fits x xs f)

    unread : (s t : Bool) → cond s (all_broken v) (t && last_broken v) ≡ false
    unread true t = all
    unread false true = last ss i.fit
    unread false false = refl

    waits : (w : Option Outward) → Awaits c (length ss) w → waiting_broken w (length ss) ≡ false
    waits None k = refl
    waits (Some w) k = λ j. not (run_fits_lem c w.run k.0 j) || lt-leb 64 (length ss) k.1 j

    sums : sums_fit v.line.sums ≡ true
    sums = ap sums_fit i.sums ∙ sums_in_range v.line.opening ss i.fit i.few

    ranges : out_of_range v.line ≡ false
    ranges = λ j. not (i.start j) || not (i.end j) || not (i.staffs j) || not (sums j)

-- where a call was taken since an open line was opened, what is left to see is what waits
abbrev stray : LineState → Bool
stray v = is_return v.line.waiting && not (terms_of v.line.opening.class).double

no_stray : (v : LineState) → Kept v → stray v ≡ false
no_stray v i =
    let new = is_fresh v.line.stage || not v.line.opening.touched in
    let full = new && not (eqb (length v.sections) 0 && eqb v.line.present.count 0 && not (is_return v.line.waiting)) in
    or_r full (stray v) (or_l (full || stray v) (is_closed v.line.stage && eqb (length v.sections) 0) i.placed)

not_fresh : (s : Stage) → is_open s ≡ true → is_fresh s ≡ false
not_fresh Fresh e = no_true e
not_fresh Open e = refl
not_fresh Closed e = refl

open_placed : (l : Line) (n : ℕ) → is_open l.stage ≡ true → l.opening.touched ≡ true → is_return l.waiting && not (terms_of l.opening.class).double ≡ false → misplaced l n ≡ false
open_placed l n o t e =
    λ j. ((not_fresh l.stage o j || not (t j)) && not (eqb n 0 && eqb l.present.count 0 && not (is_return l.waiting))) || e j || (not_shut l.stage o j && eqb n 0)
  where
    not_shut : (s : Stage) → is_open s ≡ true → is_closed s ≡ false
    not_shut Fresh e = refl
    not_shut Open e = refl
    not_shut Closed e = no_true e

-- other runs beside the same sections
runs_kept : (v : LineState) (w : Option Outward) (u : Run) → Kept v → is_open v.line.stage ≡ true → Awaits v.line.opening.staffs (length v.sections) w → Sized v.line.opening.staffs u
    → is_return w && not (terms_of v.line.opening.class).double ≡ false → Kept (record { line = with_runs v.line w u; sections = v.sections })
runs_kept v w u i o k h e = assumption (open_placed (with_runs v.line w u) (length v.sections) o refl e)

-- ---- the end of a run

-- a section more, one that fits and for which there is room
section_kept : (v : LineState) (x : Section) → Kept v → is_open v.line.stage ≡ true → length v.sections < 64 → section_fits x ≡ true
    → narrow v.line.opening.staffs x ≡ true → Kept (with_section v x)
section_kept v x i o room e n =
    let c : Staffs = v.line.opening.staffs in
    record {
      few = rw (length-append v.sections (x ∷ [])) (omega arith);
      fit = all_append section_fits v.sections (x ∷ []) i.fit (all_cons section_fits x [] e refl);
      present = no_run_sized c;
      waiting = tt;
      start = i.start;
      end = i.end;
      closed = λ c. rw (length-append v.sections (x ∷ [])) (omega arith);
      sums = ap (λ (s : SectionSums). sums_plus v.line.opening s x) i.sums ∙ sym (sums_more v.line.opening v.sections x);
      placed = open_placed (with_section v x).line (length (with_section v x).sections) o refl refl;
      number = i.number;
      narrow_sections = all_append (narrow c) v.sections (x ∷ []) i.narrow_sections (all_cons (narrow c) x [] n refl);
      staffs = i.staffs;
    }

number_size : (n : ℤ) → number_in_range n ≡ true → nat_abs n ≤ 9999
number_size n e =
    let low : pos 1 ≤ℤ n = test_le (and_l (le_z (pos 1) n) (le_z n (pos 9999)) e) in
    let high : n ≤ℤ pos 9999 = test_le (and_r (le_z (pos 1) n) (le_z n (pos 9999)) e) in
    omega (ints, parts_abs n)

-- by the tests 4, 21, 29, 31 and 32
run_kept : (v : LineState) (number : ℤ) → Kept v → refusal v (end_run number) ≡ 0 → Kept (run_ended v number)
run_kept v number i e =
    let test = fails v (end_run number) e in
    let some : 0 < u.count = omega (arith, eqb-false u.count 0 (or_l (eqb u.count 0) (eqb (u.count % 2) 1) (test 29))) in
    go v.line.waiting terms.double refl some i.waiting (test 31) (test 32)
  where
    running : is_open v.line.stage ≡ true
    running = not-false (is_open v.line.stage) (or_l (not (is_open v.line.stage)) (is_shut v) (fails v (end_run number) e 21))

    small : nat_abs number ≤ 9999
    small = number_size number (not-false (number_in_range number) (fails v (end_run number) e 4))

    c : Staffs
    c = v.line.opening.staffs

    u : Run
    u = v.line.present

    n : ℕ
    n = length v.sections

    terms : Terms
    terms = terms_of v.line.opening.class

    apart : Root
    apart = (terms_by c v.line.opening.class).apart

    go : (w : Option Outward) (t : Bool) → terms.double ≡ t → 0 < u.count → Awaits c n w → not (is_return w) && leb 64 n ≡ false
        → outward_or_return w false (λ outward run. not (discrepancy_within apart (both_ways outward run u))) ≡ false
        → Kept (outward_or_return w
        (cond t (record { line = with_runs v.line (Some (record { number = number; run = u })) no_run; sections = v.sections }) (with_section v (one_way number u)))
        (λ outward run. with_section v (both_ways outward run u)))
    go None true both some k room d =
        runs_kept v (Some (record { number = number; run = u })) no_run i running (i.present, leb-false 64 n room, small) (no_run_sized c) (λ j. not (both j))
    go None false both some k room d =
        section_kept v (one_way number u) i running (leb-false 64 n room) (one_way_fits number u (run_fits_lem c u i.present) some) (one_way_narrow c number u small i.present)
    go (Some w) t both some k room d =
        let x = both_ways w.number w.run u in
        let near = not-false (discrepancy_within apart x) d in
        section_kept v x i running k.1 (both_ways_fits (terms_by c v.line.opening.class) (row c v.line.opening.class) w.number w.run u (run_fits_lem c w.run k.0) (run_fits_lem c u i.present) some near)
        (both_ways_narrow c w.number w.run u k.2 k.0 i.present)

-- ---- a lift

-- the last section is taken off, by the tests 21 and 53
lift_kept : (v : LineState) → Kept v → refusal v lift_section ≡ 0 → Kept (lifted v)
lift_kept v i e =
    let test = fails v lift_section e in
    let open_line : is_open v.line.stage ≡ true = not-false (is_open v.line.stage) (test 21) in
    let alone = or_r (is_empty v.sections || not (eqb v.line.present.count 0)) (is_return v.line.waiting) (test 53) in
    let c : Staffs = v.line.opening.staffs in
    record {
      few = omega (arith, but_last_short v.sections, i.few);
      fit = all_but_last section_fits v.sections i.fit;
      present = i.present;
      waiting = awaits c v.line.waiting alone;
      start = i.start;
      end = i.end;
      closed = λ s. absurd (open_not_closed (sym (opened v.line.stage open_line) ∙ s));
      sums = ap (λ (s : SectionSums). sums_minus v.line.opening s (last_of no_section v.sections)) i.sums ∙ sym (sums_less v.line.opening v.sections);
      placed = open_placed (lifted v).line (length (but_last v.sections)) open_line refl (λ j. alone j && not (terms_of v.line.opening.class).double);
      number = i.number;
      narrow_sections = all_but_last (narrow c) v.sections i.narrow_sections;
      staffs = i.staffs;
    }
  where
    awaits : (c : Staffs) (w : Option Outward) → is_return w ≡ false → Awaits c (length (but_last v.sections)) w
    awaits c None e = tt
    awaits c (Some w) e = no_true (sym e)

    opened : (s : Stage) → is_open s ≡ true → s ≡ Open
    opened Fresh e = no_true e
    opened Open e = refl
    opened Closed e = no_true e

-- ---- a call

not_empty : (ss : List Section) → is_empty ss ≡ false → 1 ≤ length ss
not_empty [] e = no_true (sym e)
not_empty (x ∷ xs) e = omega arith

running_station : (v : LineState) (kb kf : ℤ) (readings : List (List ℤ)) → refusal v (station kb kf readings) ≡ 0 → is_open v.line.stage ≡ true
running_station v kb kf readings e =
    not-false (is_open v.line.stage)
    (or_l (not (is_open v.line.stage)) (is_shut v) (fails v (station kb kf readings) e 21))

-- an open line with nothing in it
pub begun_kept : (o : Opening) → nat_abs o.start.number ≤ 9999 → height_in_range o.start.height ≡ true → staffs_fit o.staffs ≡ true → Kept (record { line = begun o; sections = [] })
begun_kept o number start staffs =
    record {
      few = omega arith;
      fit = refl;
      present = no_run_sized o.staffs;
      waiting = tt;
      start = start;
      end = refl;
      closed = λ c. absurd (open_not_closed c);
      sums = refl;
      placed = λ j. nothing (not o.touched) j || false || false;
      number = number;
      narrow_sections = refl;
      staffs = staffs;
    }
  where
    nothing : (t : Bool) → t && false ≡ false
    nothing true = refl
    nothing false = refl

-- one that is opened, by the tests 4 and 5
opened_kept : (o : Opening) → not (number_in_range o.start.number) ≡ false → not (height_in_range o.start.height) ≡ false → staffs_fit o.staffs ≡ true
    → Kept (record { line = begun o; sections = [] })
opened_kept o four five = begun_kept o (number_size o.start.number (not-false (number_in_range o.start.number) four)) (not-false (height_in_range o.start.height) five)

-- constants in their ranges, as the line holds them
given_fit : (first second : ℤ) → constants_in_range first second ≡ true → staffs_fit (Measured (nat_abs first) (nat_abs second)) ≡ true
given_fit first second e =
    let a = between (pos 46770) first (pos 46970) in
    let b = between (pos 47770) second (pos 47970) in
    (λ j. constants_in_range (same 46770 46970 first (and_l a b e) j) (same 47770 47970 second (and_r a b e) j)) ∙ e
  where
    same : (low high : ℕ) (x : ℤ) → between (pos low) x (pos high) ≡ true → pos (nat_abs x) ≡ x
    same low high x e = let least : pos low ≤ℤ x = test_le (and_l (le_z (pos low) x) (le_z x (pos high)) e) in pos_abs (omega (ints, least))

-- one that is closed on a height in range, by the test 33
closed_kept : (v : LineState) (end : ℤ) → Kept v → height_in_range end ≡ true → not (eqb v.line.present.count 0) || is_return v.line.waiting || is_empty v.sections ≡ false
    → Kept (record { line = closed_at v.line end; sections = v.sections })
closed_kept v end i known ready =
    let some : 1 ≤ length v.sections = not_empty v.sections (or_r (not (eqb v.line.present.count 0) || is_return v.line.waiting) (is_empty v.sections) ready) in
    let placed : misplaced (closed_at v.line end) (length v.sections) ≡ false = λ j. no_stray v i j || ne_eqb (length v.sections) 0 (λ z. omega arith) j in
    assumption placed

taken_kept : (v : LineState) (c : Call) → Kept v → refusal v c ≡ 0 → Kept (taken v c)
taken_kept v (open_line order instrument number height prints) i e =
    let test = fails v (open_line order instrument number height prints) e in opened_kept (opening_of (class_of order) instrument number height prints) (test 4) (test 5) refl
taken_kept v (station kb kf readings) i e =
    runs_kept v v.line.waiting _ i (running_station v kb kf readings e) i.waiting (station_sized v kb kf readings e i.present) (no_stray v i)
taken_kept v (end_run number) i e = run_kept v number i e
taken_kept v drop_run i e =
    runs_kept v v.line.waiting no_run i (not-false (is_open v.line.stage) (fails v drop_run e 21)) i.waiting (no_run_sized v.line.opening.staffs) (no_stray v i)
taken_kept v drop_section i e = runs_kept v None no_run i (not-false (is_open v.line.stage) (fails v drop_section e 21)) tt (no_run_sized v.line.opening.staffs) refl
taken_kept v (close_line number end) i e =
    let test = fails v (close_line number end) e in closed_kept v end i (not-false (height_in_range end) (test 5)) (test 33)
taken_kept v (open_spur order instrument number height prints) i e =
    let test = fails v (open_spur order instrument number height prints) e in opened_kept (opening_of Spur instrument number height prints) (test 4) (test 5) refl
taken_kept v (close_spur number) i e = closed_kept v (pos 0) i refl (fails v (close_spur number) e 33)
taken_kept v (collimation x) i e =
    let running : is_open v.line.stage ≡ true = not-false (is_open v.line.stage) (fails v (collimation x) e 21) in
    assumption (open_placed (with_opening v.line (collimated v.line.opening)) (length v.sections) running refl (no_stray v i))
taken_kept v (constants first second) i e =
    begun_kept (measured v.line.opening first second) i.number i.start
    (given_fit first second (not-false (constants_in_range first second) (fails v (constants first second) e 42)))
taken_kept v lift_section i e = lift_kept v i e

-- ---- a list of calls

pub next_kept : (r : Reading) (c : Call) → Kept (plain_state r) → Kept (plain_state (next r c))
next_kept r c i =
    by_test (eqb (refusal (plain_state r) c) 0) (λ t. Kept (plain_state (cond t (Plain.taken r c) r)))
    (λ t. subst Kept (sym (follows r c)) (taken_kept (plain_state r) c i (eqb→eq (refusal (plain_state r) c) 0 t))) (λ t. i)

after_kept : (calls : List Call) (r : Reading) → Kept (plain_state r) → Kept (plain_state (after r calls))
after_kept [] r i = i
after_kept (c ∷ cs) r i = after_kept cs (next r c) (next_kept r c i)

pub fresh_kept : Kept (plain_state fresh_reading)
fresh_kept =
    record {
      few = omega arith;
      fit = refl;
      present = no_run_sized Nominal;
      waiting = tt;
      start = refl;
      end = refl;
      closed = λ c. absurd (fresh_not_closed c);
      sums = refl;
      placed = refl;
      number = omega arith;
      narrow_sections = refl;
      staffs = refl;
    }

pub calls_kept : (calls : List Call) → Kept (plain_state (after fresh_reading calls))
calls_kept calls = after_kept calls fresh_reading fresh_kept

-- ---- so a book made by calls never meets the test of 20

pub never_broken : (calls : List Call) (c : Call) → broken (plain_state (after fresh_reading calls)) c ≡ false
never_broken calls c = kept_unbroken (plain_state (after fresh_reading calls)) (calls_kept calls) c

-- and a book gives the number that the rules give
pub same_refusal : (v : LineState) (c : Call) → Kept v → book_refusal v c ≡ refusal v c
unfolding book_refusal
same_refusal v c i =
    ap (λ (b : Bool). first_of (input_tests c ++ ((20, b) ∷ state_tests v c))) (kept_unbroken v i c) ∙ first_skips (input_tests c) (state_tests v c) 20

-- ---- the length

pub closed_long : (calls : List Call) → (after fresh_reading calls).stage ≡ Closed
    → pos 1 ≤ℤ line_length (plain_state (after fresh_reading calls)).sections
closed_long calls e =
    let i : Kept (plain_state (after fresh_reading calls)) = calls_kept calls in
    let ss : List Section = (plain_state (after fresh_reading calls)).sections in
    omega (ints, long ss (fitted_legs ss i.fit), i.closed e)
