-- That what is printed fits, and nothing is left out for want of room.
use Rattle.std.specs.Prelude.{◌≡◌, Bool, true, false, not, ℕ, ◌≤◌, List, eqb, length}
use Rattle.std.specs.declared.option.Option.{Option}
use Rattle.numbers.specs.Numbers.{any_of}
use Rattle.adjust.specs.declared.prints.PrintUnit.{PrintUnit}
use Rattle.adjust.specs.declared.Point.{Point}
use Rattle.adjust.specs.declared.Summary.{Summary}
use Rattle.columns.specs.Lines.{line_fits}
use Rattle.columns.specs.Texts.{lines}
use Rattle.rules.specs.declared.Stage.TheVariants.{Closed}
use Rattle.rules.specs.declared.call.Call.{Call}
use Rattle.ledger.specs.Plain.{Reading, fresh_reading, after, figures_of}
use Rattle.textbook.specs.Text.{most_text}
use Rattle.fieldbook.specs.Report.{closed_numbers, point_numbers, wide_point, report_lines, report, printed_of}

-- a buffer of 65,536 bytes, the smallest that is not refused, has room for every report
abbrev pub ReportFits : Type 0
ReportFits = (text : List ℕ) → length text ≤ most_text → length (report text) ≤ 65536

-- and so has the program's own, whatever was read
abbrev pub PrintedFits : Type 0
PrintedFits = (input : List ℕ) (read : Option ℕ) → length (printed_of input read) ≤ 65536

-- every line of a report is whole: its numbers fit their fields
abbrev pub ReportWhole : Type 0
ReportWhole = (text : List ℕ) → length text ≤ most_text → any_of (λ (l : List ℕ). not (eqb (length l) 84)) (report_lines (lines text)) ≡ false

-- ---- fields

abbrev pub closed_fits : Summary → Bool
closed_fits s = line_fits 3 (closed_numbers s) false

abbrev pub point_fits : PrintUnit → Point → Bool
point_fits unit p = line_fits 3 (point_numbers p) (wide_point unit p)

-- whatever the calls: the figures of the line that they leave closed
abbrev pub FiguresFit : Type 0
FiguresFit =
    (calls : List Call) → (after fresh_reading calls).stage ≡ Closed
    → let r : Reading = after fresh_reading calls in
    (closed_fits (figures_of r).summary ≡ true) × (any_of (λ (p : Point). not (point_fits r.opening.print_unit p)) (figures_of r).points ≡ false)
