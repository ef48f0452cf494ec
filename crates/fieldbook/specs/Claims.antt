-- What is claimed of every text: the claim about every list of calls, of what the report prints.
use Rattle.std.specs.Prelude.{◌≡◌, List, [], ◌∷◌, ◌++◌, map, ℕ}
use Rattle.adjust.specs.Line.{Closing}
use Rattle.rules.specs.declared.Stage.TheVariants.{Closed}
use Rattle.rules.specs.declared.Book.{Book}
use Rattle.ledger.specs.Plain.{fresh_reading, closings}
use Rattle.ledger.specs.Entries.{call_numbers}
use Rattle.ledger.specs.Claims.{ClosedOnce}
use Rattle.ledger.specs.Trace.{FreshEnsures, Trace}
use Rattle.numbers.specs.Numbers.{put_at}
use Rattle.columns.specs.Lines.{heading, title}
use Rattle.columns.specs.Texts.{lines, joined}
use Rattle.textbook.specs.Text.{entries, line_refusals, reading_after, calls_of, refusals_from}
use Rattle.fieldbook.specs.Report.{ref_line, closing_lines, opn_line, result_lines, text_refusal, buffer_after}

-- the lines' calls closed the line once and soundly, and that closing is what is printed
pub record Printed (ls : List (List ℕ)) : Type 0 where
  pub closing : ClosedOnce (calls_of ls) (closings fresh_reading (calls_of ls))
  pub printed : result_lines (reading_after fresh_reading ls) ≡ closing_lines (reading_after fresh_reading ls).opening.print_unit closing.gave

-- whatever the lines after the first, refused ones among them
abbrev pub EveryText : Type 0
EveryText = (ls : List (List ℕ)) → (reading_after fresh_reading ls).stage ≡ Closed → Printed ls

-- what the report prints below its refusals, of closings that were given and of the book that was left
abbrev pub made_lines : List Closing → Book → List (List ℕ)
made_lines [] e = opn_line e.sections.count ∷ []
made_lines (g ∷ gs) e = closing_lines e.line.opening.print_unit g

-- whoever makes the lines' calls of a fresh book one by one gets the numbers that the report has for the lines that are calls, and what it prints below
abbrev pub TextAsMade : Type 0
TextAsMade =
    (ls : List (List ℕ)) (b e : Book) (ns : List ℕ) (gs : List Closing) → FreshEnsures b → Trace b (calls_of ls) ns gs e
    → (call_numbers fresh_reading (entries ls) ≡ ns) × (result_lines (reading_after fresh_reading ls) ≡ made_lines gs e)

-- ---- the bytes of the buffer

-- the call wrote a report of a line that its text closed once and soundly, and of nothing else
pub record Reported (text buffer : List ℕ) (ls : List (List ℕ)) : Type 0 where
  pub closing : ClosedOnce (calls_of ls) (closings fresh_reading (calls_of ls))
  pub bytes : buffer_after text buffer
      ≡ put_at buffer 0 (joined (title ∷ (map ref_line (refusals_from 2 (line_refusals fresh_reading ls)) ++ closing_lines (reading_after fresh_reading ls).opening.print_unit closing.gave)))

-- whatever the text and the buffer, if the call is taken and the lines after the heading leave the line closed
abbrev pub EveryReport : Type 0
EveryReport =
    (text buffer : List ℕ) → text_refusal text buffer ≡ 0 → (ls : List (List ℕ)) → lines text ≡ heading ∷ ls
    → (reading_after fresh_reading ls).stage ≡ Closed → Reported text buffer ls
