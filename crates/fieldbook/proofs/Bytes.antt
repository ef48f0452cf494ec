-- How many bytes a report has: lines of 84 bytes, two more at most than the text has after its heading.
use mathlib.Core.Path.{◌≡◌, refl, ap, ◌∙◌}
use mathlib.Core.Bool.{Bool, true, false, cond}
use mathlib.Core.List.{List, [], ◌∷◌, ◌++◌, map}
use Prim.Native.Nat.{ℕ, zero, suc, ◌+◌, ◌*◌, ◌≤◌}
use native.Mathlib.Omega.{arith}
use borrow.Author.Tests.{ltb-false}
use lib.ListN.{length, drop, length-append, length-drop, length-map}
use lib.IntN.{ℤ, pos, ◌*ℤ◌}
use Rattle.std.specs.Prelude.{Some, None, take}
use Rattle.adjust.specs.declared.prints.PrintUnit.{PrintUnit}
use Rattle.adjust.specs.declared.Point.{Point}
use Rattle.adjust.specs.Line.{line_frame, Closing}
use Rattle.adjust.proofs.Lists.{points_length}
use Rattle.columns.specs.Decimals.{same}
use Rattle.columns.specs.Lines.{fields, line_fits, line_with, tag_line, heading}
use Rattle.columns.specs.Texts.{lines_by, lines, joined}
use Rattle.columns.proofs.Lines.{length_with, length_title, fits_line}
use Rattle.rules.specs.declared.Stage.{Stage}
use Rattle.rules.specs.declared.Stage.TheVariants.{Fresh, Open, Closed}
use Rattle.rules.specs.LineState.{is_closed}
use Rattle.ledger.specs.Plain.{Reading, fresh_reading, section_of, figures_of}
use Rattle.textbook.specs.Text.{RefusedLine, most_text, too_long, line_refusals, refusals_from, reading_after}
use Rattle.fieldbook.specs.Report.{ref_line, closed_numbers, point_numbers, wide_point, point_line, opn_line, closing_lines, result_lines, report_of, without_heading, report_lines, report}
use Rattle.fieldbook.specs.Fits.{ReportFits, PrintedFits}
use Rattle.fieldbook.proofs.Size.{stage_lines, waiting_lines, least, lines_count}

-- ---- lines of 84 bytes

abbrev Short : List (List ℕ) → Type 0
Short [] = Unit {0}
Short (l ∷ ls) = (length l ≤ 84) × Short ls

joined_short : (ls : List (List ℕ)) → Short ls → length (joined ls) ≤ 84 * length ls
unfolding joined
joined_short [] s = omega arith
joined_short (l ∷ ls) s = omega (arith, length-append l (joined ls), s.0, joined_short ls s.1)

pub tag_short : (tag : List ℕ) (zs : List ℤ) (wide : Bool) → length (tag_line tag zs wide) ≤ 84
unfolding tag_line
tag_short tag zs wide = go (line_fits (length tag) zs wide) refl
  where
    go : (b : Bool) → line_fits (length tag) zs wide ≡ b → length (cond b (line_with (tag ++ fields wide zs)) []) ≤ 84
    go true e = let f = fits_line tag zs wide e in omega (arith, length_with (tag ++ fields wide zs) (omega (arith, f.room, f.used)))
    go false e = omega arith

map_short : {A : Type 0} (f : A → List ℕ) → ((x : A) → length (f x) ≤ 84) → (xs : List A) → Short (map f xs)
map_short f h [] = tt
map_short f h (x ∷ xs) = (h x, map_short f h xs)

append_short : (xs ys : List (List ℕ)) → Short xs → Short ys → Short (xs ++ ys)
append_short [] ys s t = t
append_short (x ∷ xs) ys s t = (s.0, append_short xs ys s.1 t)

-- ---- the lines of a report

pub ref_short : (x : RefusedLine) → length (ref_line x) ≤ 84
ref_short x = tag_short (82 ∷ 69 ∷ 70 ∷ []) (pos x.line ∷ pos x.number ∷ []) false

point_short : (unit : PrintUnit) (p : Point) → length (point_line unit p) ≤ 84
point_short unit p = tag_short (80 ∷ 78 ∷ 84 ∷ []) (point_numbers p) (wide_point unit p)

closing_short : (unit : PrintUnit) (c : Closing) → Short (closing_lines unit c)
closing_short unit c =
    let s = c.summary in
    (tag_short (67 ∷ 76 ∷ 79 ∷ []) (closed_numbers s) false, map_short (point_line unit) (point_short unit) c.points)

result_short : (r : Reading) → Short (result_lines r)
result_short r = go (is_closed r.stage)
  where
    go : (b : Bool) → Short (cond b (closing_lines r.opening.print_unit (figures_of r)) (opn_line (length r.sections) ∷ []))
    go true = closing_short r.opening.print_unit (figures_of r)
    go false = (tag_short (79 ∷ 80 ∷ 78 ∷ []) (pos (length r.sections) ∷ []) false, tt)

-- a line for each section and two more
closing_count : (r : Reading) → length (closing_lines r.opening.print_unit (figures_of r)) ≡ suc (suc (length r.sections))
closing_count r =
    let ss = map (section_of r.opening.staffs) r.sections in
    let f = line_frame r.opening r.end ss in
    ap suc (length-map (figures_of r).points (point_line r.opening.print_unit)) ∙ ap (λ (n : ℕ). suc (suc n)) (points_length f (pos 0) (pos 0) (f.prints *ℤ f.start) ss ∙ length-map r.sections (section_of r.opening.staffs))

result_few : (r : Reading) → length (result_lines r) ≤ least r + 1
result_few r = go r.stage
  where
    go : (s : Stage) → length (cond (is_closed s) (closing_lines r.opening.print_unit (figures_of r)) (opn_line (length r.sections) ∷ []))
        ≤ stage_lines s + 3 * length r.sections + waiting_lines r.waiting + length r.present + 1
    go Fresh = omega arith
    go Open = omega arith
    go Closed = omega (arith, closing_count r)

report_short : (refusals : List RefusedLine) (r : Reading) → Short (report_of refusals r)
report_short refusals r = (omega (arith, length_title), append_short (map ref_line refusals) (result_lines r) (map_short ref_line ref_short refusals) (result_short r))

report_few : (refusals : List RefusedLine) (r : Reading) → length (report_of refusals r) ≤ 2 + length refusals + least r
report_few refusals r = omega (arith, length-append (map ref_line refusals) (result_lines r), length-map refusals ref_line, result_few r)

-- ---- the lines of a text

pub text_lines : (f : ℕ) (t : List ℕ) → 84 * length (lines_by f t) ≤ length t + 83
unfolding lines_by
text_lines zero t = omega arith
text_lines (suc f) [] = omega arith
text_lines (suc f) (b ∷ t) = omega (arith, text_lines f (drop 84 (b ∷ t)), length-drop 84 (b ∷ t))

-- ---- both

bytes : (refusals : List RefusedLine) (r : Reading) → length refusals + least r ≤ 776 → length (joined (report_of refusals r)) ≤ 65536
bytes refusals r h = omega (arith, joined_short (report_of refusals r) (report_short refusals r), report_few refusals r)

lines_fit : (ls : List (List ℕ)) → length ls ≤ 777 → length (joined (report_lines ls)) ≤ 65536
lines_fit [] h = bytes (record { line = 1; number = 1 } ∷ []) fresh_reading (omega arith)
lines_fit (l ∷ ls) h = go (same l heading)
  where
    go : (b : Bool) → length (joined (cond b (report_of (refusals_from 2 (line_refusals fresh_reading ls)) (reading_after fresh_reading ls)) without_heading)) ≤ 65536
    go true = bytes (refusals_from 2 (line_refusals fresh_reading ls)) (reading_after fresh_reading ls) (omega (arith, lines_count 2 fresh_reading ls))
    go false = bytes (record { line = 1; number = 1 } ∷ []) fresh_reading (omega arith)

pub report_fits : ReportFits
unfolding report lines
report_fits text h = lines_fit (lines text) (omega (arith, text_lines (length text) text))

pub printed_fits : PrintedFits
printed_fits input None = omega arith
printed_fits input (Some n) = go (take n input)
  where
    by : (t : List ℕ) (b : Bool) → too_long t ≡ b → length (cond b (ref_line (record { line = 0; number = 9 })) (report t)) ≤ 65536
    by t true e = omega (arith, ref_short (record { line = 0; number = 9 }))
    by t false e = report_fits t (ltb-false most_text (length t) e)

    go : (t : List ℕ) → length (cond (too_long t) (ref_line (record { line = 0; number = 9 })) (report t)) ≤ 65536
    go t = by t (too_long t) refl
