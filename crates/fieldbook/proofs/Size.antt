-- How many lines a report has: a section takes three lines of the text at least, so points never make up for more than the lines that were taken.
use mathlib.Core.Path.{◌≡◌, refl, sym}
use mathlib.Core.Bool.{true, false, cond, ◌||◌}
use mathlib.Core.List.{List, [], ◌∷◌}
use Prim.Native.Nat.{ℕ, zero, suc, ◌+◌, ◌*◌, ◌%◌, ◌≤◌}
use native.Mathlib.Omega.{arith}
use lib.Dec.{eqb, eqb→eq}
use lib.ListN.{length, length-append}
use lib.IntN.{ℤ}
use Rattle.std.specs.Prelude.{Some, None}
use Rattle.std.specs.declared.option.Option.{Option}
use Rattle.numbers.proofs.Last.{but_last_short}
use Rattle.numbers.proofs.Tests.{by_test, no_true, not-false}
use Rattle.adjust.specs.declared.terms.Class.{Class}
use Rattle.adjust.specs.declared.terms.Class.TheVariants.{Third, Fourth, Spur}
use Rattle.station.specs.Station.{station_of}
use Rattle.rules.specs.declared.Stage.{Stage}
use Rattle.rules.specs.declared.Stage.TheVariants.{Fresh, Open, Closed}
use Rattle.rules.specs.LineState.{is_open}
use Rattle.rules.specs.declared.call.Call.{Call}
use Rattle.rules.specs.declared.call.Call.TheVariants.{OpenLine as open_line, Station as station, EndRun as end_run, DropRun as drop_run, DropSection as drop_section, CloseLine as close_line, OpenSpur as open_spur, CloseSpur as close_spur, Collimation as collimation, Constants as constants, LiftSection as lift_section}
use Rattle.ledger.specs.Plain.{Reading, Awaited, refusal, taken, run_ended, plain_state}
use Rattle.ledger.specs.Entries.{Entry, asks, refused, entry_refusal, entry_next}
use Rattle.rules.proofs.Tables.{fails}
use Rattle.ledger.proofs.Follows.{recast}
use Rattle.textbook.specs.Text.{RefusedLine, line_entry, line_refusals, refusals_from, reading_after}

-- ---- so many lines at least a reading has taken

abbrev pub stage_lines : Stage → ℕ
stage_lines Fresh = 0
stage_lines Open = 1
stage_lines Closed = 2

abbrev pub waiting_lines : Option Awaited → ℕ
waiting_lines None = 0
waiting_lines (Some w) = 1 + length w.outward

abbrev pub least : Reading → ℕ
least r = stage_lines r.stage + 3 * length r.sections + waiting_lines r.waiting + length r.present

-- a run that may end has two stations at least
two_at_least : (n : ℕ) → eqb n 0 || eqb (n % 2) 1 ≡ false → 2 ≤ n
two_at_least zero e = no_true (sym e)
two_at_least (suc zero) e = no_true (sym e)
two_at_least (suc (suc n)) e = omega arith

ended : (r : Reading) (class : Class) (waiting : Option Awaited) (n : ℤ) → 2 ≤ length r.present
    → least (run_ended (recast r class waiting) n) ≤ least (recast r class waiting) + 1
ended r Third None n h = omega arith
ended r Spur None n h = omega arith
ended r Fourth None n h = omega (arith, length-append r.sections (record { number = n; outward = r.present; back = None } ∷ []))
ended r class (Some w) n h = omega (arith, length-append r.sections (record { number = w.number; outward = w.outward; back = Some r.present } ∷ []))

open_lines : (s : Stage) → is_open s ≡ true → stage_lines s ≡ 1
open_lines Fresh e = no_true e
open_lines Open e = refl
open_lines Closed e = no_true e

taken_least : (r : Reading) (c : Call) → refusal r c ≡ 0 → least (taken r c) ≤ least r + 1
taken_least r (open_line order instrument number height prints) e = omega arith
taken_least r (station kb kf readings) e = omega (arith, length-append r.present (station_of kb kf readings ∷ []))
taken_least r (end_run number) e =
    ended r r.opening.class r.waiting number (two_at_least (length r.present) (fails (plain_state r) (end_run number) e 29))
taken_least r drop_run e = omega arith
taken_least r drop_section e = omega arith
taken_least r (close_line number end) e =
    let opened = not-false (is_open r.stage) (fails (plain_state r) (close_line number end) e 21) in
    omega (arith, open_lines r.stage opened)
taken_least r (open_spur order instrument number height prints) e = omega arith
taken_least r (collimation x) e = omega arith
taken_least r (constants first second) e = omega arith
taken_least r lift_section e = omega (arith, but_last_short r.sections)
taken_least r (close_spur number) e =
    let opened = not-false (is_open r.stage) (fails (plain_state r) (close_spur number) e 21) in
    omega (arith, open_lines r.stage opened)

-- ---- a line is refused, or adds one at most

-- the refusal of line k, where there is one
abbrev refusal_of : ℕ → ℕ → List RefusedLine
refusal_of k n = cond (eqb n 0) [] (record { line = k; number = n } ∷ [])

entry_counts : (k : ℕ) (r : Reading) (e : Entry) → length (refusal_of k (entry_refusal r e)) + least (entry_next r e) ≤ 1 + least r
entry_counts k r (asks c) =
    by_test (eqb (refusal r c) 0) (λ b. length {A = RefusedLine} (cond b [] (record { line = k; number = refusal r c } ∷ [])) + least (cond b (taken r c) r) ≤ 1 + least r)
    (λ b. omega (arith, taken_least r c (eqb→eq (refusal r c) 0 b))) (λ b. omega arith)
entry_counts k r (refused n) = by_test (eqb n 0) (λ b. length {A = RefusedLine} (cond b [] (record { line = k; number = n } ∷ [])) + least r ≤ 1 + least r) (λ b. omega arith) (λ b. omega arith)

pub lines_count : (k : ℕ) (r : Reading) (ls : List (List ℕ)) → length (refusals_from k (line_refusals r ls)) + least (reading_after r ls) ≤ length ls + least r
unfolding refusals_from
lines_count k r [] = omega arith
lines_count k r (l ∷ ls) =
    let e : Entry = line_entry l in
    let s : Reading = entry_next r e in
    omega (arith, entry_counts k r e, lines_count (suc k) s ls, length-append (refusal_of k (entry_refusal r e)) (refusals_from (suc k) (line_refusals s ls)))
