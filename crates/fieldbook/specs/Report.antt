-- The report of a text, byte for byte, and what the call that writes it leaves in the lent buffer.
use Rattle.std.specs.Prelude.{◌≡◌, Bool, false, cond, ◌||◌, Some, None, IfOk, List, [], ◌∷◌, ◌++◌, map, ℕ, length, take, eqb, ltb, ℤ, pos}
use Rattle.std.specs.Int.Signed.{lt_z}
use Rattle.std.specs.declared.option.Option.{Option}
use Rattle.std.specs.declared.result.Result.{Result}
use Rattle.numbers.specs.Numbers.{put_at}
use Rattle.numbers.specs.Tables.{first_of}
use Rattle.records.specs.declared.Refusal.{Refusal}
use Rattle.records.specs.Refusals.{number_of}
use Rattle.adjust.specs.declared.prints.PrintUnit.{PrintUnit}
use Rattle.adjust.specs.Prints.{is_tenths}
use Rattle.adjust.specs.declared.Point.{Point}
use Rattle.adjust.specs.declared.Summary.{Summary}
use Rattle.adjust.specs.Line.{Closing, verdict_number}
use Rattle.columns.specs.Decimals.{same}
use Rattle.columns.specs.Lines.{tag_line, is_wide, heading, title}
use Rattle.columns.specs.Texts.{lines, joined}
use Rattle.rules.specs.LineState.{is_closed}
use Rattle.ledger.specs.Plain.{Reading, fresh_reading, figures_of}
use Rattle.textbook.specs.Text.{RefusedLine, too_long, line_refusals, refusals_from, reading_after}

-- ---- its lines

-- "REF", line and number
abbrev pub ref_line : RefusedLine → List ℕ
ref_line x = tag_line (82 ∷ 69 ∷ 70 ∷ []) (pos x.line ∷ pos x.number ∷ []) false

-- T as it is printed: one that has more than eight digits as 99,999,999 (document 02, W-202)
abbrev pub shown_t : ℤ → ℤ
shown_t t = cond (lt_z (pos 99999999) t) (pos 99999999) t

-- W, L, n, T and the verdict
abbrev pub closed_numbers : Summary → List ℤ
closed_numbers s = s.closure ∷ s.distance ∷ pos s.count ∷ shown_t s.accidental ∷ pos (verdict_number s.verdict) ∷ []

-- "CLO"
abbrev pub closed_line : Summary → List ℕ
closed_line s = tag_line (67 ∷ 76 ∷ 79 ∷ []) (closed_numbers s) false

-- number, distance, correction and height
abbrev pub point_numbers : Point → List ℤ
point_numbers p = p.number ∷ p.distance ∷ p.correction ∷ p.height ∷ []

-- whether the height takes sixteen columns: in tenths every one (document 02, W-214), in millimetres one below −9,999,999
abbrev pub wide_point : PrintUnit → Point → Bool
wide_point unit p = is_tenths unit || is_wide p.height

-- "PNT"
abbrev pub point_line : PrintUnit → Point → List ℕ
point_line unit p = tag_line (80 ∷ 78 ∷ 84 ∷ []) (point_numbers p) (wide_point unit p)

-- "OPN", how many sections are finished
abbrev pub opn_line : ℕ → List ℕ
opn_line n = tag_line (79 ∷ 80 ∷ 78 ∷ []) (pos n ∷ []) false

abbrev pub closing_lines : PrintUnit → Closing → List (List ℕ)
closing_lines unit c = closed_line c.summary ∷ map (point_line unit) c.points

-- of the reading after the last line
abbrev pub result_lines : Reading → List (List ℕ)
result_lines r = cond (is_closed r.stage) (closing_lines r.opening.print_unit (figures_of r)) (opn_line (length r.sections) ∷ [])

-- ---- the report

abbrev pub report_of : List RefusedLine → Reading → List (List ℕ)
report_of refusals r = title ∷ (map ref_line refusals ++ result_lines r)

-- where line 1 is not the heading, its refusal is the only one and reading stops
abbrev pub without_heading : List (List ℕ)
without_heading = report_of (record { line = 1; number = 1 } ∷ []) fresh_reading

abbrev pub report_lines : List (List ℕ) → List (List ℕ)
report_lines [] = without_heading
report_lines (l ∷ ls) = cond (same l heading) (report_of (refusals_from 2 (line_refusals fresh_reading ls)) (reading_after fresh_reading ls)) without_heading

unfoldable pub report : List ℕ → List ℕ
report text = joined (report_lines (lines text))

-- ---- the call

-- a buffer below 65,536 bytes
abbrev pub too_small : List ℕ → Bool
too_small buffer = ltb (length buffer) 65536

abbrev pub text_tests : List ℕ → List ℕ → List (ℕ × Bool)
text_tests text buffer = (9, too_long text) ∷ (10, too_small buffer) ∷ []

unfoldable pub text_refusal : List ℕ → List ℕ → ℕ
text_refusal text buffer = first_of (text_tests text buffer)

-- the buffer after the call: the report at its beginning, or as it was where the call is refused
unfoldable pub buffer_after : List ℕ → List ℕ → List ℕ
buffer_after text buffer = cond (ltb 0 (text_refusal text buffer)) buffer (put_at buffer 0 (report text))

-- `written` after the call: the report's length, or as it was where the call is refused
abbrev pub length_after : List ℕ → List ℕ → ℕ → ℕ
length_after text buffer old = cond (eqb (text_refusal text buffer) 0) (length (report text)) old

-- r has document 01's number, and where that is none the report's length
pub record Reduces (text buffer : List ℕ) (r : Result ℕ Refusal) : Type 0 where
  pub number : number_of r ≡ text_refusal text buffer
  pub written : IfOk r (λ n. n ≡ length (report text))

-- ---- the program

-- what is printed of a text: its report, or for 9 the single line REF 0 9, without a title
abbrev pub printed_for : List ℕ → List ℕ
printed_for text = cond (too_long text) (ref_line (record { line = 0; number = 9 })) (report text)

-- what is printed of an input of which so many bytes were read: of the text that they are; nothing where a read failed, since they may be a part of the text only
abbrev pub printed_of : List ℕ → Option ℕ → List ℕ
printed_of input None = []
printed_of input (Some n) = printed_for (take n input)
