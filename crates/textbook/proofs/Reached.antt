-- What the reader holds before each line after the heading: the book of the plain reading so far, and its numbers.
use mathlib.Core.Path.{◌≡◌, sym, ap, ◌∙◌}
use mathlib.Core.List.{List, [], ◌∷◌, ◌++◌, append-nil, append_assoc}
use Prim.Native.Nat.{ℕ, suc, ◌+◌, ◌*◌, ◌≤◌, ◌<◌, min}
use native.Mathlib.Omega.{arith}
use lib.ListN.{length, set, drop, length-append, length-drop}
use lib.Seq.{drop-drop}
use Rattle.numbers.specs.Numbers.{filled}
use Rattle.numbers.proofs.Arrays.{chunk_parts}
use Rattle.numbers.proofs.Filled.{filled_set}
use Rattle.columns.specs.Texts.{lines}
use Rattle.columns.proofs.Texts.{lines_end}
use Rattle.rules.specs.declared.Book.{Book}
use Rattle.ledger.specs.Plain.{Reading, fresh_reading, plain_state, book_of}
use Rattle.ledger.specs.Entries.{Entry, entry_refusal, entry_next, entry_number, entry_book}
use Rattle.ledger.proofs.Kept.{Kept, fresh_kept}
use Rattle.ledger.proofs.Again.{fresh_holds}
use Rattle.ledger.proofs.Entries.{entry_kept, entry_number_lem, entry_book_lem}
use Rattle.textbook.specs.declared.text.State.{State}
use Rattle.textbook.specs.Text.{most_text, line_entry, line_refusals, reading_after}
use Rattle.textbook.specs.code.State.{read, fresh_state, after_heading}
use Rattle.textbook.proofs.Lines.{lines_chunk}

-- what the lines of `rest` leave of the reading r and the numbers ns of the lines before them
abbrev leaves : Reading → List ℕ → List ℕ → State
leaves r ns rest = read (reading_after r (lines rest)) (ns ++ line_refusals r (lines rest))

-- before line k of the text t: the book b holds a reading and the places hold the numbers so far, and of these the text that is left leaves what all of it does
pub record Reached (t : List ℕ) (b : Book) (places : List ℕ) (k : ℕ) (rest : List ℕ) : Type 0 where
  pub reading : Reading
  pub numbers : List ℕ
  pub counted : length numbers ≡ k
  pub holds : b ≡ book_of reading
  pub filled_in : places ≡ filled 0 778 (0 ∷ 0 ∷ numbers)
  pub kept : Kept (plain_state reading)
  pub left : rest ≡ drop (84 * k) t
  pub goes_on : leaves reading numbers rest ≡ after_heading (lines t)

pub reached_first : (t rest : List ℕ) (b : Book) (places : List ℕ) (k : ℕ) → b ≡ fresh_state.book → places ≡ fresh_state.refusals → k ≡ 0 → rest ≡ t → Reached t b places k rest
reached_first t rest b places k e p first whole =
    record {
      reading = fresh_reading;
      numbers = [];
      counted = sym first;
      holds = e ∙ fresh_holds;
      filled_in = p;
      kept = fresh_kept;
      left = whole ∙ ap (λ (n : ℕ). drop (84 * n) t) (sym first);
      goes_on = ap (leaves fresh_reading []) whole;
    }

pub reached_next : {t : List ℕ} {b : Book} {places : List ℕ} {k : ℕ} {all : List ℕ} → 84 + length t ≤ most_text → Reached t b places k all
    → (line rest : List ℕ) → all ≡ line ++ rest → length line ≡ min 84 (length all) → 0 < length all
    → (j m : ℕ) → j ≡ k → m ≡ k + 1 → (n : ℕ) (c : Book) → n ≡ entry_number b (line_entry line) → c ≡ entry_book b (line_entry line)
    → Reached t c (set places (j + 2) n) m rest
reached_next {t} {b} {places} {k} {all} short x line rest parts size some j m here more n c told book =
    record {
      reading = entry_next r entry;
      numbers = ns ++ (n ∷ []);
      counted = length-append ns (n ∷ []) ∙ omega (arith, x.counted, more);
      holds = book ∙ entry_book_lem r x.kept x.holds entry;
      filled_in = (λ i. set (x.filled_in i) (place i) n) ∙ filled_set 0 778 (0 ∷ 0 ∷ ns) n room;
      kept = entry_kept r x.kept entry;
      left = sym (chunk_parts 84 all line rest parts size).1 ∙ ap (drop 84) x.left ∙ drop-drop 84 (84 * k) t ∙ ap (λ (m : ℕ). drop m t) next;
      goes_on =
          ap (read (reading_after (entry_next r entry) (lines rest))) (append_assoc ns (n ∷ []) (line_refusals (entry_next r entry) (lines rest)))
          ∙ ap (λ (m : ℕ). read (reading_after r (line ∷ lines rest)) (ns ++ (m ∷ line_refusals (entry_next r entry) (lines rest)))) number
          ∙ ap (λ (ls : List (List ℕ)). read (reading_after r ls) (ns ++ line_refusals r ls)) (sym (lines_chunk all line rest parts size some))
          ∙ x.goes_on;
    }
  where
    r : Reading
    r = x.reading

    ns : List ℕ
    ns = x.numbers

    entry : Entry
    entry = line_entry line

    number : n ≡ entry_refusal r entry
    number = told ∙ entry_number_lem r x.kept x.holds entry

    place : j + 2 ≡ suc (suc (length ns))
    place = omega (arith, x.counted, here)

    -- a text that is not too long has a place for each line
    room : suc (suc (length ns)) < 778
    room = omega (arith, x.counted, ap length x.left, length-drop (84 * k) t, some, short)

    next : 84 * k + 84 ≡ 84 * m
    next = omega (arith, more)

pub reached_last : {t : List ℕ} {b : Book} {places : List ℕ} {k : ℕ} {rest : List ℕ} → Reached t b places k rest → length rest ≡ 0
    → record { book = b; refusals = places } ≡ after_heading (lines t)
reached_last {rest = rest} x h =
    let none : lines rest ≡ [] = lines_end rest 0 (omega (arith, h)) in
    (λ i. record { book = x.holds i; refusals = x.filled_in i })
    ∙ ap (read x.reading) (sym (append-nil x.numbers))
    ∙ ap (λ (ls : List (List ℕ)). read (reading_after x.reading ls) (x.numbers ++ line_refusals x.reading ls)) (sym none) ∙ x.goes_on
