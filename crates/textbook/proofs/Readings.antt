-- The book that a text leaves is the plain reading's, and is never refused with 20.
use mathlib.Core.Path.{◌≡◌, refl, ◌∙◌}
use mathlib.Core.Bool.{Bool, cond}
use mathlib.Core.List.{List, [], ◌∷◌}
use Prim.Native.Nat.{ℕ}
use Rattle.numbers.proofs.Tests.{by_test}
use Rattle.columns.specs.Decimals.{same}
use Rattle.columns.specs.Lines.{heading}
use Rattle.columns.specs.Texts.{lines}
use Rattle.rules.specs.declared.Book.{Book}
use Rattle.rules.specs.LineState.{state_of}
use Rattle.ledger.specs.Plain.{fresh_reading, plain_state, book_of}
use Rattle.ledger.proofs.Kept.{Kept, fresh_kept}
use Rattle.ledger.proofs.Again.{held, fresh_holds}
use Rattle.ledger.proofs.Entries.{entries_kept}
use Rattle.textbook.specs.Text.{entries, reading_after, lines_reading, text_line}
use Rattle.textbook.specs.code.State.{after_heading, unread, text_state}

pub lines_kept : (ls : List (List ℕ)) → Kept (plain_state (lines_reading ls))
lines_kept [] = fresh_kept
lines_kept (l ∷ ls) =
    by_test (same l heading) (λ b. Kept (plain_state (cond b (reading_after fresh_reading ls) fresh_reading)))
    (λ b. entries_kept fresh_reading fresh_kept (entries ls)) (λ b. fresh_kept)

pub lines_book : (ls : List (List ℕ)) → (text_state ls).book ≡ book_of (lines_reading ls)
lines_book [] = fresh_holds
lines_book (l ∷ ls) =
    by_test (same l heading) (λ b. (cond b (after_heading ls) unread).book ≡ book_of (cond b (reading_after fresh_reading ls) fresh_reading)) (λ b. refl) (λ b. fresh_holds)

pub line_read : (text : List ℕ) {b : Book} → b ≡ (text_state (lines text)).book → state_of b ≡ text_line text
line_read text p = held (lines_reading (lines text)) (p ∙ lines_book (lines text))
