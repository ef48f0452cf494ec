-- Every line of a report has 84 bytes: no number is too large for its field.
use mathlib.Core.Path.{◌≡◌, refl, sym, ap, subst}
use mathlib.Core.Bool.{Bool, true, false, cond}
use mathlib.Core.List.{List, [], ◌∷◌, ◌++◌, map, map-append}
use Prim.Native.Nat.{ℕ, suc, ◌+◌, ◌≤◌}
use native.Mathlib.Omega.{arith}
use borrow.Author.Tests.{eq-eqb, leb-true}
use lib.Dec.{leb, eqb}
use lib.ListN.{length, length-map}
use lib.IntN.{pos}
use Rattle.numbers.proofs.Tables.{first_each}
use Rattle.numbers.proofs.Tests.{by_test, is_true}
use Rattle.numbers.proofs.All.{All, all_head, all_tail, all_cons, all_append}
use Rattle.ledger.proofs.Kept.{calls_kept}
use Rattle.adjust.specs.declared.prints.PrintUnit.{PrintUnit}
use Rattle.adjust.specs.declared.Point.{Point}
use Rattle.std.specs.Prelude.{Ok, Err}
use Rattle.std.specs.declared.result.Result.{Result}
use Rattle.numbers.specs.Tables.{first_of}
use Rattle.records.specs.declared.Record.{Record}
use Rattle.records.specs.declared.Refusal.{Refusal}
use Rattle.records.specs.Refusals.{number_of}
use Rattle.columns.specs.Decimals.{same}
use Rattle.columns.specs.Lines.{heading, title}
use Rattle.columns.specs.Records.{line_in, shape_tests}
use Rattle.columns.proofs.Records.{parses}
use Rattle.columns.specs.Texts.{lines}
use Rattle.columns.proofs.Lines.{length_line, length_title}
use Rattle.rules.specs.LineState.{is_closed}
use Rattle.rules.specs.declared.call.Call.{Call}
use Rattle.rules.proofs.Tables.{tests, tables}
use Rattle.rules.specs.Records.{call_of}
use Rattle.ledger.specs.Entries.{entry_of, entry_refusal, entry_next}
use Rattle.ledger.specs.Plain.{Reading, fresh_reading, after, refusal, plain_state, section_of, figures_of}
use Rattle.textbook.specs.Text.{RefusedLine, line_entry, entries, line_refusals, reading_after, calls_of, refusals_from}
use Rattle.fieldbook.specs.Report.{ref_line, closed_numbers, closed_line, point_line, opn_line, closing_lines, result_lines, report_of, without_heading, report_lines}
use Rattle.fieldbook.specs.Fits.{point_fits, ReportWhole}
use Rattle.ledger.proofs.Entries.{reading_calls}
use Rattle.fieldbook.proofs.Widths.{figures_fit_lem}
use Rattle.fieldbook.proofs.Written.{refusal_fits, open_long, point_long}
use Rattle.fieldbook.proofs.Reports.{closed_stage, few_lines}

-- ---- refusal numbers have two digits at most

refusal_small : (r : Reading) (l : List ℕ) → entry_refusal r (line_entry l) ≤ 99
refusal_small r l = go (line_in l) refl
  where
    -- a line that is no record is refused with 1 or 2
    shapeless : number_of (line_in l) ≤ 99
    shapeless = omega (arith, (parses l refl).1.0, leb-true (first_of (shape_tests l)) 99 (first_each (λ n. leb n 99) (shape_tests l) refl refl))

    go : (x : Result Record Refusal) → line_in l ≡ x → entry_refusal r (entry_of x) ≤ 99
    go (Ok x) e = let c : Call = call_of x.tag x.values in leb-true (refusal r c) 99 (first_each (λ n. leb n 99) (tests (plain_state r) c) (tables (plain_state r) c).two_digits refl)
    go (Err x) e = omega (arith, shapeless, ap number_of e)

-- ---- whole lines

abbrev whole : List ℕ → Bool
whole l = eqb (length l) 84

abbrev AllWhole : List (List ℕ) → Type 0
AllWhole ls = All whole ls

is_whole : (l : List ℕ) → length l ≡ 84 → whole l ≡ true
is_whole l e = eq-eqb (length l) 84 e

refusal_whole : (k n : ℕ) → k ≤ 777 → n ≤ 99 → AllWhole (map ref_line (cond (eqb n 0) [] (record { line = k; number = n } ∷ [])))
refusal_whole k n h g =
    by_test (eqb n 0) (λ b. AllWhole (map ref_line (cond b [] (record { line = k; number = n } ∷ [])))) (λ b. refl)
    (λ b. all_cons whole (ref_line (record { line = k; number = n })) [] (is_whole (ref_line (record { line = k; number = n }))
    (length_line (82 ∷ 69 ∷ 70 ∷ []) (pos k ∷ pos n ∷ []) false (refusal_fits k n h (omega arith)))) refl)

refusals_whole : (k : ℕ) (r : Reading) (ls : List (List ℕ)) → k + length ls ≤ 778 → AllWhole (map ref_line (refusals_from k (line_refusals r ls)))
unfolding refusals_from
refusals_whole k r [] h = refl
refusals_whole k r (l ∷ ls) h =
    let n = entry_refusal r (line_entry l) in
    let s = entry_next r (line_entry l) in
    let here : List RefusedLine = cond (eqb n 0) [] (record { line = k; number = n } ∷ []) in
    let later = refusals_from (suc k) (line_refusals s ls) in
    subst AllWhole (sym (map-append ref_line here later))
    (all_append whole (map ref_line here) (map ref_line later) (refusal_whole k n (omega arith) (refusal_small r l)) (refusals_whole (suc k) s ls (omega arith)))

points_whole : (unit : PrintUnit) (ps : List Point) → All (point_fits unit) ps → AllWhole (map (point_line unit) ps)
points_whole unit [] f = refl
points_whole unit (p ∷ ps) f =
    all_cons whole (point_line unit p) (map (point_line unit) ps) (is_whole (point_line unit p) (point_long unit p (all_head (point_fits unit) p ps f))) (points_whole unit ps (all_tail (point_fits unit) p ps f))

-- ---- the report

result_whole : (calls : List Call) → AllWhole (result_lines (after fresh_reading calls))
result_whole calls =
    by_test (is_closed r.stage) (λ b. AllWhole (cond b (closing_lines r.opening.print_unit (figures_of r)) (opn_line (length r.sections) ∷ [])))
    (λ b.
    let f = figures_fit_lem calls (closed_stage r.stage (is_true b)) in
    let x = figures_of r in
    all_cons whole (closed_line x.summary) (map (point_line r.opening.print_unit) x.points)
    (is_whole (closed_line x.summary) (length_line (67 ∷ 76 ∷ 79 ∷ []) (closed_numbers x.summary) false f.0)) (points_whole r.opening.print_unit x.points f.1))
    (λ b. all_cons whole (opn_line n) [] (is_whole (opn_line n) (open_long n (omega (arith, (calls_kept calls).few, length-map r.sections (section_of r.opening.staffs))))) refl)
  where
    r : Reading
    r = after fresh_reading calls

    n : ℕ
    n = length r.sections

report_of_lem : (refusals : List RefusedLine) (r : Reading) → AllWhole (map ref_line refusals) → AllWhole (result_lines r) → AllWhole (report_of refusals r)
report_of_lem refusals r f g =
    all_cons whole title (map ref_line refusals ++ result_lines r) (is_whole title length_title) (all_append whole (map ref_line refusals) (result_lines r) f g)

without : AllWhole without_heading
without = report_of_lem (record { line = 1; number = 1 } ∷ []) fresh_reading (refusal_whole 1 1 (omega arith) (omega arith)) (result_whole [])

lines_whole : (ls : List (List ℕ)) → length ls ≤ 777 → AllWhole (report_lines ls)
lines_whole [] h = without
lines_whole (l ∷ ls) h =
    let refusals = refusals_from 2 (line_refusals fresh_reading ls) in
    let r : Reading = reading_after fresh_reading ls in
    by_test (same l heading) (λ b. AllWhole (cond b (report_of refusals r) without_heading))
    (λ b. report_of_lem refusals r (refusals_whole 2 fresh_reading ls (omega arith))
    (subst (λ (x : Reading). AllWhole (result_lines x)) (sym (reading_calls fresh_reading (entries ls))) (result_whole (calls_of ls))))
    (λ b. without)

pub report_whole : ReportWhole
report_whole text h = lines_whole (lines text) (few_lines text h)
