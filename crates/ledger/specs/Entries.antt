-- Entries, as they stand in a text or in a list of numbers: each asks for a call, or is no record and is refused with a number of its own. Read over the
-- plain reading, which a refused entry leaves as it was.
use Rattle.std.specs.Prelude.{List, [], ◌∷◌, ◌++◌, ℕ, Ok, Err}
use Rattle.std.specs.declared.result.Result.{Result}
use Rattle.records.specs.declared.Record.{Record}
use Rattle.records.specs.declared.Refusal.{Refusal}
use Rattle.records.specs.Refusals.{refusal_number}
use Rattle.rules.specs.declared.Book.{Book}
use Rattle.rules.specs.LineState.{state_of}
use Rattle.rules.specs.declared.call.Call.{Call}
use Rattle.rules.specs.Rules.{book_refusal}
use Rattle.rules.specs.Records.{call_of}
use Rattle.book.specs.Calls.{book_after}
use Rattle.ledger.specs.Plain.{Reading, next, refusal}

-- no `Result`, whose `Ok` would read as a call that is taken: one that is asked for may be refused in its turn
pub data Entry : Type 0 where
  asks : Call → Entry
  refused : ℕ → Entry

-- of a record, or what is none
abbrev pub entry_of : Result Record Refusal → Entry
entry_of (Ok x) = asks (call_of x.tag x.values)
entry_of (Err e) = refused (refusal_number e)

-- its number, 0 where its call is taken, and the reading after it
abbrev pub entry_refusal : Reading → Entry → ℕ
entry_refusal r (asks c) = refusal r c
entry_refusal r (refused n) = n

abbrev pub entry_next : Reading → Entry → Reading
entry_next r (asks c) = next r c
entry_next r (refused n) = r

-- the same of a book
abbrev pub entry_number : Book → Entry → ℕ
entry_number b (asks c) = book_refusal (state_of b) c
entry_number b (refused n) = n

abbrev pub entry_book : Book → Entry → Book
entry_book b (asks c) = book_after b c
entry_book b (refused n) = b

-- ---- a list of entries

abbrev pub entry_refusals : Reading → List Entry → List ℕ
entry_refusals r [] = []
entry_refusals r (e ∷ es) = entry_refusal r e ∷ entry_refusals (entry_next r e) es

abbrev pub after_entries : Reading → List Entry → Reading
after_entries r [] = r
after_entries r (e ∷ es) = after_entries (entry_next r e) es

-- their calls, to which the claims about lists of calls apply
abbrev pub calls_in : Entry → List Call
calls_in (asks c) = c ∷ []
calls_in (refused n) = []

abbrev pub calls_of : List Entry → List Call
calls_of [] = []
calls_of (e ∷ es) = calls_in e ++ calls_of es

-- of a number for each entry, those of the entries that ask for a call
abbrev pub of_calls : List Entry → List ℕ → List ℕ
of_calls [] ns = []
of_calls (asks c ∷ es) [] = []
of_calls (asks c ∷ es) (n ∷ ns) = n ∷ of_calls es ns
of_calls (refused m ∷ es) [] = []
of_calls (refused m ∷ es) (n ∷ ns) = of_calls es ns

abbrev pub call_numbers : Reading → List Entry → List ℕ
call_numbers r es = of_calls es (entry_refusals r es)
