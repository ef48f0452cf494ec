-- What a text leaves: the book of the plain reading and the refusal number of each line.
use Rattle.std.specs.Prelude.{cond, List, [], ◌∷◌, ℕ, zero, suc, ◌*◌, drop}
use Rattle.numbers.specs.Numbers.{filled}
use Rattle.columns.specs.Decimals.{same}
use Rattle.columns.specs.Lines.{heading}
use Rattle.book.specs.Calls.{fresh_book}
use Rattle.ledger.specs.Plain.{Reading, fresh_reading, book_of}
use Rattle.textbook.specs.declared.text.State.{State}
use Rattle.textbook.specs.Text.{line_refusals, reading_after}

-- the bytes of a text from line k on, counted from 1
abbrev pub text_from : List ℕ → ℕ → List ℕ
text_from text zero = []
text_from text (suc k) = drop (84 * k) text

-- ---- states

-- before anything is read
abbrev pub fresh_state : State
fresh_state = record { book = fresh_book; refusals = filled 0 778 [] }

-- the book holds the reading r, and the lines after the heading have the refusal numbers ns, which all have a place where the text is not too long
abbrev pub read : Reading → List ℕ → State
read r ns = record { book = book_of r; refusals = filled 0 778 (0 ∷ 0 ∷ ns) }

-- what the lines after the heading leave
abbrev pub after_heading : List (List ℕ) → State
after_heading ls = read (reading_after fresh_reading ls) (line_refusals fresh_reading ls)

-- without the heading nothing is read, and line 1 is refused with 1
abbrev pub unread : State
unread = record { book = fresh_book; refusals = filled 0 778 (0 ∷ 1 ∷ []) }

abbrev pub text_state : List (List ℕ) → State
text_state [] = unread
text_state (l ∷ ls) = cond (same l heading) (after_heading ls) unread
