-- Laws of entries: they are read as the list of their calls is, and a book takes them as the plain reading does.
use mathlib.Core.Path.{◌≡◌, refl, ap}
use mathlib.Core.List.{List, [], ◌∷◌, ◌++◌}
use Prim.Native.Nat.{ℕ, suc}
use lib.ListN.{length}
use Rattle.rules.specs.declared.Book.{Book}
use Rattle.ledger.specs.Plain.{Reading, next, after, refusal, refusals, plain_state, book_of}
use Rattle.ledger.specs.Entries.{Entry, asks, refused, entry_refusal, entry_next, entry_number, entry_book, entry_refusals, after_entries, calls_of, call_numbers}
use Rattle.ledger.proofs.Kept.{Kept, next_kept}
use Rattle.ledger.proofs.Traced.{number, left}

-- ---- as the list of their calls

pub reading_calls : (r : Reading) (es : List Entry) → after_entries r es ≡ after r (calls_of es)
reading_calls r [] = refl
reading_calls r (asks c ∷ es) = reading_calls (next r c) es
reading_calls r (refused n ∷ es) = reading_calls r es

pub numbers_calls : (r : Reading) (es : List Entry) → call_numbers r es ≡ refusals r (calls_of es)
numbers_calls r [] = refl
numbers_calls r (asks c ∷ es) = ap (λ (ns : List ℕ). refusal r c ∷ ns) (numbers_calls (next r c) es)
numbers_calls r (refused n ∷ es) = numbers_calls r es

-- ---- one more entry

pub after_more : (r : Reading) (es : List Entry) (e : Entry) → after_entries r (es ++ (e ∷ [])) ≡ entry_next (after_entries r es) e
after_more r [] e = refl
after_more r (x ∷ es) e = after_more (entry_next r x) es e

pub refusals_more : (r : Reading) (es : List Entry) (e : Entry) → entry_refusals r (es ++ (e ∷ [])) ≡ entry_refusals r es ++ (entry_refusal (after_entries r es) e ∷ [])
refusals_more r [] e = refl
refusals_more r (x ∷ es) e = ap (λ (ns : List ℕ). entry_refusal r x ∷ ns) (refusals_more (entry_next r x) es e)

pub refusals_long : (r : Reading) (es : List Entry) → length (entry_refusals r es) ≡ length es
refusals_long r [] = refl
refusals_long r (e ∷ es) = ap suc (refusals_long (entry_next r e) es)

-- ---- a book takes an entry as the plain reading does

module _ (r : Reading) (k : Kept (plain_state r)) where
  pub entry_kept : (e : Entry) → Kept (plain_state (entry_next r e))
  entry_kept (asks c) = next_kept r c k
  entry_kept (refused n) = k

  module _ {b : Book} (p : b ≡ book_of r) where
    pub entry_number_lem : (e : Entry) → entry_number b e ≡ entry_refusal r e
    entry_number_lem (asks c) = number r k c p
    entry_number_lem (refused n) = refl

    pub entry_book_lem : (e : Entry) → entry_book b e ≡ book_of (entry_next r e)
    entry_book_lem (asks c) = left r k c p
    entry_book_lem (refused n) = p

pub entries_kept : (r : Reading) → Kept (plain_state r) → (es : List Entry) → Kept (plain_state (after_entries r es))
entries_kept r k [] = k
entries_kept r k (e ∷ es) = entries_kept (entry_next r e) (entry_kept r k e) es
