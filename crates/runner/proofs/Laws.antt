-- Laws of entries in lists of numbers, of numbers that are stored one by one, and of the figures of a book.
use mathlib.Core.Path.{◌≡◌, refl, sym, ap, subst, ◌∙◌}
use mathlib.Core.Bool.{not, cond}
use mathlib.Core.List.{List, [], ◌∷◌, ◌++◌}
use Prim.Native.Nat.{ℕ, zero, suc, ◌+◌, ◌-◌, ◌/◌, ◌%◌, ◌≤◌, ◌<◌, min}
use native.Mathlib.Omega.{arith}
use borrow.Author.Tests.{le-leb}
use lib.Dec.{eqb, leb}
use lib.ListN.{length, set, take, drop, length-append, length-take}
use lib.Seq.{take_all, sets}
use borrow.Rule.Slice.PartMut.{put_mid}
use lib.IntN.{ℤ}
use Rattle.std.proofs.Common.{inl, inr, Err}
use Rattle.std.proofs.lemmas.Bool.{cases_lt}
use Rattle.std.proofs.lemmas.List.{nil_from_length, take_min}
use Rattle.numbers.specs.Numbers.{put_at, written}
use Rattle.numbers.proofs.Arrays.{chunk_parts, written_none}
use Rattle.records.specs.declared.Refusal.TheVariants.{NotARecord}
use Rattle.adjust.specs.Sections.{holding}
use Rattle.adjust.specs.Frames.{adjusted_of}
use Rattle.rules.specs.declared.Book.{Book}
use Rattle.rules.specs.LineState.{is_closed}
use Rattle.rules.specs.declared.Stage.TheVariants.{Closed}
use Rattle.book.specs.Calls.{closing_of, figures_refusal}
use Rattle.ledger.specs.Plain.{Reading, fresh_reading, plain_state, figures_of, book_of}
use Rattle.ledger.specs.Entries.{Entry, entry_of, after_entries}
use Rattle.ledger.proofs.Kept.{Kept, fresh_kept}
use Rattle.ledger.proofs.Again.{held, figures_number}
use Rattle.ledger.proofs.Entries.{entries_kept}
use Rattle.runner.specs.Calls.{tag_of, record_with, first_record, first_entry, first_entries, entries_of}
use Rattle.runner.specs.Figures.{no_figures, told}

-- ---- entries

entries_long : (n : ℕ) (xs : List ℤ) → length (first_entries n xs) ≡ n
unfolding first_entries
entries_long zero xs = refl
entries_long (suc n) xs = ap suc (entries_long n (drop 11 xs))

-- as `div_ceil` counts them
pub count_long : (xs : List ℤ) → length xs / 11 + min 1 (length xs % 11) ≡ length (entries_of xs)
count_long xs = let whole : length xs / 11 + min 1 (length xs % 11) ≡ (length xs + 10) / 11 = omega arith in whole ∙ sym (entries_long ((length xs + 10) / 11) xs)

-- an entry is read from eleven numbers
leb_take : (n : ℕ) (xs : List ℤ) → leb n (length (take n xs)) ≡ leb n (length xs)
leb_take n xs =
    elim (cases_lt (length xs) n) [
      | inl short ↦ ap (λ (ys : List ℤ). leb n (length ys)) (take_all n xs (omega arith))
      | inr long ↦ le-leb n (length (take n xs)) (omega (arith, length-take n xs)) ∙ sym (le-leb n (length xs) long)
    ]

first_take : (xs : List ℤ) → first_record (take 11 xs) ≡ first_record xs
unfolding first_record
first_take [] = refl
first_take (x ∷ xs) =
    λ i. cond (leb_take 11 (x ∷ xs) i) (record_with (tag_of x) (take_all 10 (take 10 xs) (omega (arith, length-take 10 xs)) i)) (Err NotARecord)

count_next : (all chunk rest : ℕ) → all ≡ chunk + rest → chunk ≡ min 11 all → 0 < all → (all + 10) / 11 ≡ suc ((rest + 10) / 11)
count_next all chunk rest parts size some = omega arith

-- the entry that comes off the front
pub entries_chunk : (all entry rest : List ℤ) → all ≡ entry ++ rest → length entry ≡ min 11 (length all) → 0 < length all
    → entries_of all ≡ first_entry entry ∷ entries_of rest
unfolding first_entries
entries_chunk all entry rest parts size some =
    let p = chunk_parts 11 all entry rest parts size in
    ap (λ (n : ℕ). first_entries n all) (count_next (length all) (length entry) (length rest) (ap length parts ∙ length-append entry rest) size some)
    ∙ (λ i. entry_of ((sym (first_take all) ∙ ap first_record p.0) i) ∷ first_entries ((length rest + 10) / 11) (p.1 i))

pub entries_none : (xs : List ℤ) → length xs ≡ 0 → entries_of xs ≡ []
unfolding first_entries
entries_none xs h = ap entries_of (nil_from_length xs h)

-- ---- stores

module _ {A : Type 0} where
  stores_none : (i : ℕ) (xs : List A) → sets [] i xs ≡ []
  stores_none i [] = refl
  stores_none i (x ∷ xs) = stores_none (suc i) xs

  stores_later : (y : A) (ys : List A) (i : ℕ) (xs : List A) → sets (y ∷ ys) (suc i) xs ≡ y ∷ sets ys i xs
  stores_later y ys i [] = refl
  stores_later y ys i (x ∷ xs) = stores_later y (set ys i x) (suc i) xs

  -- a list that is stored element by element is written as far as there are places
  pub stores_written : (xs ys : List A) → sets ys 0 xs ≡ written xs ys
  stores_written [] ys = sym (written_none ys)
  stores_written (x ∷ xs) [] = stores_none 1 xs
  stores_written (x ∷ xs) (y ∷ ys) = stores_later x ys 0 xs ∙ ap (λ (l : List A). x ∷ l) (stores_written xs ys)

  -- stores behind the last place change nothing
  stores_behind : (ys : List A) (i : ℕ) (xs : List A) → length ys ≤ i → sets ys i xs ≡ ys
  stores_behind [] i xs h = stores_none i xs
  stores_behind (y ∷ ys) zero xs h = absurd (omega arith)
  stores_behind (y ∷ ys) (suc i) xs h = stores_later y ys i xs ∙ ap (λ (l : List A). y ∷ l) (stores_behind ys i xs (omega arith))

  stores_within : (ys : List A) (i : ℕ) (xs : List A) → i ≤ length ys → sets ys i xs ≡ put_at ys i (take (length ys - i) xs)
  unfolding put_at
  stores_within ys zero xs h = let all : length ys ≡ length ys - 0 = omega arith in stores_written xs ys ∙ ap (λ (k : ℕ). put_at ys 0 (take k xs)) all
  stores_within [] (suc i) xs h = absurd (omega arith)
  stores_within (y ∷ ys) (suc i) xs h =
      let left : length ys - i ≡ suc (length ys) - suc i = omega arith in
      stores_later y ys i xs ∙ ap (λ (l : List A). y ∷ l) (stores_within ys i xs (omega arith)) ∙ ap (λ (k : ℕ). y ∷ put_at ys i (take k xs)) left

  -- from an index on as many as there are places for, copied at once
  pub stores_part : (ys : List A) (i at n : ℕ) (xs : List A) → at ≡ min i (length ys) → n ≡ min (length xs) (length ys - at) → put_mid at (at + n - at) ys (take n xs) ≡ sets ys i xs
  unfolding put_at
  stores_part ys i at n xs e f =
      ap (λ (k : ℕ). take at ys ++ (take n xs ++ drop k (drop at ys))) long
      ∙ ap (put_at ys at) (ap (λ (k : ℕ). take k xs) least ∙ take_min (length ys - at) xs)
      ∙ sym (stores_within ys at xs (omega (arith, e)))
      ∙ elim (cases_lt i (length ys)) [
        | inl short ↦ let p : at ≡ i = omega (arith, e) in ap (λ (k : ℕ). sets ys k xs) p
        | inr beyond ↦ stores_behind ys at xs (omega (arith, e)) ∙ sym (stores_behind ys i xs beyond)
      ]
    where
      least : n ≡ min (length ys - at) (length xs)
      least = omega (arith, f)

      long : at + n - at ≡ length (take n xs)
      long = omega (arith, f, length-take n xs)

-- ---- the figures of a book

-- of a book that entries left
pub few_left : (es : List Entry) {b : Book} → b ≡ book_of (after_entries fresh_reading es) → (b.line.present.count ≤ 200) × (b.sections.count ≤ 64)
unfolding holding
few_left es e =
    let k : Kept (plain_state (after_entries fresh_reading es)) = entries_kept fresh_reading fresh_kept es in
    subst (λ (b : Book). (b.line.present.count ≤ 200) × (b.sections.count ≤ 64)) (sym e) (k.present.count, k.few)

-- of one whose line is closed
pub told_closed : (r : Reading) → Kept (plain_state r) → r.stage ≡ Closed → told (book_of r) ≡ adjusted_of (figures_of r)
told_closed r k closed =
    let number : figures_refusal (book_of r) ≡ 0 = figures_number r k refl ∙ (λ i. cond (not (is_closed (closed i))) 21 0) in
    λ i. cond (eqb (number i) 0) (adjusted_of (closing_of (held r refl i))) no_figures
