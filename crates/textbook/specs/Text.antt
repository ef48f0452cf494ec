-- The text book, read over the plain reading: what a line of it means is told by its record (document 01, 'The text book and the report').
use Rattle.std.specs.Prelude.{Bool, cond, List, [], ◌∷◌, ◌++◌, map, ℕ, suc, length, eqb, ltb}
use Rattle.columns.specs.Decimals.{same}
use Rattle.columns.specs.Lines.{heading}
use Rattle.columns.specs.Records.{line_in}
use Rattle.columns.specs.Texts.{lines}
use Rattle.rules.specs.LineState.{LineState}
use Rattle.rules.specs.declared.call.Call.{Call}
use Rattle.ledger.specs.Plain.{Reading, fresh_reading, plain_state}
use Rattle.ledger.specs.Entries as Entries
use Rattle.ledger.specs.Entries.{Entry, entry_of, entry_refusals, after_entries}

-- the bytes of the longest text: 777 lines of 84
abbrev pub most_text : ℕ
most_text = 65268

abbrev pub too_long : List ℕ → Bool
too_long text = ltb most_text (length text)

-- ---- the lines after the first

-- what a line asks for: its record's call, or none where it is refused with 1 or 2
abbrev pub line_entry : List ℕ → Entry
line_entry l = entry_of (line_in l)

abbrev pub entries : List (List ℕ) → List Entry
entries ls = map line_entry ls

-- the refusal number of each line, 0 where its call is taken
abbrev pub line_refusals : Reading → List (List ℕ) → List ℕ
line_refusals r ls = entry_refusals r (entries ls)

abbrev pub reading_after : Reading → List (List ℕ) → Reading
reading_after r ls = after_entries r (entries ls)

-- the calls of the lines, to which the claims about lists of calls apply
abbrev pub calls_of : List (List ℕ) → List Call
calls_of ls = Entries.calls_of (entries ls)

-- ---- a whole text

-- what its lines leave; without the heading nothing is read
abbrev pub lines_reading : List (List ℕ) → Reading
lines_reading [] = fresh_reading
lines_reading (l ∷ ls) = cond (same l heading) (reading_after fresh_reading ls) fresh_reading

-- the line that it leaves
abbrev pub text_line : List ℕ → LineState
text_line text = plain_state (lines_reading (lines text))

-- ---- refusals

-- a refused line of the text, counted from 1
pub record RefusedLine : Type 0 where
  pub line : ℕ
  pub number : ℕ

-- the refusals among the numbers of lines from line k on, in order
unfoldable pub refusals_from : ℕ → List ℕ → List RefusedLine
refusals_from k [] = []
refusals_from k (n ∷ ns) = cond (eqb n 0) [] (record { line = k; number = n } ∷ []) ++ refusals_from (suc k) ns
