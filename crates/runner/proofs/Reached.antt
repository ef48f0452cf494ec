-- What is kept before each entry: the book is that of a reading which the entries that are left lead to the reading of all, and their numbers, stored behind those that are written,
-- are the numbers of all.
use mathlib.Core.Path.{◌≡◌, sym, ap, ◌∙◌}
use mathlib.Core.List.{List, ◌++◌, ◌∷◌, []}
use Prim.Native.Nat.{ℕ, ◌+◌, ◌<◌, min}
use native.Mathlib.Numerals.{add-one}
use lib.ListN.{length, set}
use lib.Seq.{sets}
use lib.IntN.{ℤ}
use Rattle.numbers.specs.Numbers.{written}
use Rattle.rules.specs.declared.Book.{Book}
use Rattle.book.specs.Calls.{fresh_book}
use Rattle.ledger.specs.Plain.{Reading, fresh_reading, plain_state, book_of}
use Rattle.ledger.specs.Entries.{Entry, entry_refusal, entry_next, entry_number, entry_book, entry_refusals, after_entries}
use Rattle.ledger.proofs.Kept.{Kept, fresh_kept}
use Rattle.ledger.proofs.Again.{fresh_holds}
use Rattle.ledger.proofs.Entries.{entry_kept, entry_number_lem, entry_book_lem}
use Rattle.runner.specs.Calls.{first_entry, entries_of}
use Rattle.runner.proofs.Laws.{entries_chunk, entries_none, stores_written}

-- of the list xs, whose numbers go into ms: before entry k the book is b, the numbers are ns, and `rest` is left
pub record Reached (xs : List ℤ) (ms : List ℕ) (b : Book) (ns : List ℕ) (k : ℕ) (rest : List ℤ) : Type 0 where
  pub reading : Reading
  pub kept : Kept (plain_state reading)
  pub holds : b ≡ book_of reading
  pub leads : after_entries reading (entries_of rest) ≡ after_entries fresh_reading (entries_of xs)
  pub numbers : sets ns k (entry_refusals reading (entries_of rest)) ≡ sets ms 0 (entry_refusals fresh_reading (entries_of xs))

pub reached_first : (xs rest : List ℤ) (ms : List ℕ) (b : Book) (k : ℕ) → b ≡ fresh_book → k ≡ 0 → rest ≡ xs → Reached xs ms b ms k rest
reached_first xs rest ms b k e first whole =
    record {
      reading = fresh_reading;
      kept = fresh_kept;
      holds = e ∙ fresh_holds;
      leads = ap (λ (ys : List ℤ). after_entries fresh_reading (entries_of ys)) whole;
      numbers = λ i. sets ms (first i) (entry_refusals fresh_reading (entries_of (whole i)));
    }

pub reached_next : {xs : List ℤ} {ms : List ℕ} {b : Book} {ns : List ℕ} {k : ℕ} {all : List ℤ} → Reached xs ms b ns k all
    → (entry rest : List ℤ) → all ≡ entry ++ rest → length entry ≡ min 11 (length all) → 0 < length all
    → (j m : ℕ) → j ≡ k → m ≡ k + 1 → (n : ℕ) (c : Book) (os : List ℕ) → n ≡ entry_number b (first_entry entry) → c ≡ entry_book b (first_entry entry)
    → os ≡ set ns j n → Reached xs ms c os m rest
reached_next {ns = ns} {k = k} {all = all} x entry rest parts size some j m here more n c os told book put =
    record {
      reading = entry_next r e;
      kept = entry_kept r x.kept e;
      holds = book ∙ entry_book_lem r x.kept x.holds e;
      leads = ap (after_entries r) (sym next) ∙ x.leads;
      numbers =
          (λ i. sets ((put ∙ (λ j. set ns (here j) (number j))) i) ((more ∙ add-one k) i) (entry_refusals (entry_next r e) (entries_of rest)))
          ∙ ap (λ (es : List Entry). sets ns k (entry_refusals r es)) (sym next) ∙ x.numbers;
    }
  where
    r : Reading
    r = x.reading

    e : Entry
    e = first_entry entry

    next : entries_of all ≡ e ∷ entries_of rest
    next = entries_chunk all entry rest parts size some

    number : n ≡ entry_refusal r e
    number = told ∙ entry_number_lem r x.kept x.holds e

pub reached_last : {xs : List ℤ} {ms : List ℕ} {b : Book} {ns : List ℕ} {k : ℕ} {rest : List ℤ} → Reached xs ms b ns k rest → length rest ≡ 0
    → (b ≡ book_of (after_entries fresh_reading (entries_of xs))) × (ns ≡ written (entry_refusals fresh_reading (entries_of xs)) ms)
reached_last {xs} {ms} {ns = ns} {k = k} {rest = rest} x h =
    let none : entries_of rest ≡ [] = entries_none rest h in (
      x.holds ∙ ap book_of (ap (after_entries x.reading) (sym none) ∙ x.leads),
      ap (λ (es : List Entry). sets ns k (entry_refusals x.reading es)) (sym none) ∙ x.numbers ∙ stores_written (entry_refusals fresh_reading (entries_of xs)) ms,
    )
