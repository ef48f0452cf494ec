-- A run has a station for each line, so a text of more than 200 lines is none, and a longer part of it need not be read.
use mathlib.Core.Path.{◌≡◌, refl, sym, ap, subst, ◌∙◌}
use mathlib.Core.Bool.{Bool, true, false, not, cond, ◌&&◌, ◌||◌}
use mathlib.Core.List.{List, [], ◌∷◌, ◌++◌, append-nil}
use mathlib.Core.Logic.{◌⊎◌, inl, inr}
use Prim.Native.Nat.{ℕ, zero, suc, ◌+◌, ◌*◌, ◌%◌, ◌≤◌, ◌<◌}
use native.Mathlib.Decide.{dec_le}
use native.Mathlib.Nat.{lt_of_not-le}
use native.Mathlib.Omega.{arith}
use lib.Dec.{eqb}
use lib.ListN.{length, take, drop, length-append, length-drop, length-take, take-append-drop, drop_of_length-le}
use lib.IntN.{ℤ}
use Rattle.std.specs.Prelude.{nat_eq, Err}
use Rattle.std.specs.List.{starts_with}
use Rattle.std.specs.declared.result.Result.{Result}
use Rattle.std.proofs.lemmas.Slice.Eq.{starts_is}
use Rattle.std.proofs.lemmas.Bool.Decides.{Decides-eqb}
use Rattle.std.proofs.lemmas.Bool.{eqb-true}
use Rattle.numbers.specs.Numbers.{put_at}
use Rattle.numbers.proofs.Tests.{and_l, and_r}
use Rattle.records.specs.declared.Tag.TheVariants.{Sta}
use Rattle.records.specs.declared.Record.{Record}
use Rattle.records.specs.declared.Refusal.{Refusal}
use Rattle.records.specs.declared.Refusal.TheVariants.{NotARecord, BadField}
use Rattle.records.specs.Refusals.{refusal_number}
use Rattle.records.proofs.Numbered.{not_zero}
use Rattle.station.specs.declared.Instrument.{Instrument}
use Rattle.adjust.specs.declared.terms.Class.{Class}
use Rattle.columns.specs.Ascii.{bytes_of}
use Rattle.columns.specs.Decimals.{same}
use Rattle.columns.specs.Lines.{line_end}
use Rattle.columns.specs.Records.{letters, tags, tag_among, all_numbers, numbers_in, zeros, record_line, lacks_print_unit, numbers_line, record_in, line_of_tag, line_in}
use Rattle.columns.specs.Texts.{lines_by, lines}
use Rattle.columns.proofs.Tags.{tag_facts}
use Rattle.columns.proofs.Records.{record_bad, record_shaped, line_refused, line_taken, print_unit_kept}
use Rattle.rules.specs.declared.call.Call.{Call}
use Rattle.rules.specs.Records.{call_of}
use Rattle.rules.specs.Rules.{instrument_of}
use Rattle.ledger.specs.Plain as Plain
use Rattle.ledger.specs.Plain.{Reading, plain_state}
use Rattle.ledger.specs.Entries.{entry_of, entry_refusal, entry_next}
use Rattle.ledger.proofs.Kept.{begun_kept}
use Rattle.ledger.proofs.Entries.{entries_kept}
use Rattle.textbook.specs.Text.{line_entry, entries, reading_after}
use Rattle.repeat.specs.declared.Judgement.{Judgement}
use Rattle.repeat.specs.Repeat.{ready, is_station, all_stations, run_in, is_run, class_of, named, opposite_in_range, can_judge, judge_refusal, judgement_of, refused, printed, printed_of}
use Rattle.repeat.specs.Claims.{LongRefused, ReadEnough}

-- ---- a line with the tag of a station is one, or is refused

data Read : Result Record Refusal → Type 0 where
  taken : (zs : List ℤ) → Read (record_line Sta zs)
  bad : (e : Refusal) → Read (Err e)

-- no field of a station's line is a print unit
no_print_unit : (l : List ℕ) → lacks_print_unit Sta l ≡ false
unfolding lacks_print_unit
no_print_unit l = refl

shaped : (l : List ℕ) → same (drop 83 l) (line_end 83) ≡ true → record_in Sta l ≡ numbers_line Sta 10 (drop 3 l)
shaped l e = record_shaped Sta l e ∙ ap (λ (x : List ℕ). numbers_line Sta 10 (drop 3 x)) (print_unit_kept Sta l (no_print_unit l))

read_station : (l : List ℕ) → Read (record_in Sta l)
read_station l = by_shape (same (drop 83 l) (line_end 83)) refl
  where
    by_numbers : (b : Bool) → all_numbers 10 (drop 3 l) ≡ b → same (drop 83 l) (line_end 83) ≡ true → Read (record_in Sta l)
    by_numbers true n e = subst Read (sym (shaped l e ∙ line_taken Sta 10 (drop 3 l) n)) (taken (numbers_in 10 (drop 3 l)))
    by_numbers false n e = subst Read (sym (shaped l e ∙ line_refused Sta 10 (drop 3 l) n)) (bad BadField)

    by_shape : (b : Bool) → same (drop 83 l) (line_end 83) ≡ b → Read (record_in Sta l)
    by_shape true e = by_numbers (all_numbers 10 (drop 3 l)) refl e
    by_shape false e = subst Read (sym (record_bad Sta l e)) (bad NotARecord)

tagged : (l : List ℕ) → starts_with nat_eq l (letters Sta) ≡ true → line_in l ≡ record_in Sta l
unfolding line_in
tagged l e =
    let front = (starts_is Decides-eqb l (letters Sta) (starts_with nat_eq l (letters Sta)) refl).0 e in
    ap (λ k. line_of_tag k l) (ap (λ w. tag_among tags (take 3 w)) front ∙ (tag_facts Sta).back)

-- ---- so each line is a station more

counted : (r : Reading) (x : Result Record Refusal) → Read x → eqb (entry_refusal r (entry_of x)) 0 ≡ true
    → length (entry_next r (entry_of x)).present ≡ suc (length r.present)
counted r _ (taken zs) e =
    let c : Call = call_of Sta (put_at zeros 0 zs) in
    ap (λ (b : Bool). length (cond b (Plain.taken r c) r).present) e ∙ length-append r.present _ ∙ omega arith
counted r _ (bad d) e = absurd (not_zero d (eqb-true (refusal_number d) 0 e))

station_counted : (r : Reading) (l : List ℕ) → is_station r l ≡ true → length (entry_next r (line_entry l)).present ≡ suc (length r.present)
station_counted r l e =
    let a = starts_with nat_eq l (letters Sta) in
    let b = eqb (entry_refusal r (line_entry l)) 0 in
    counted r (line_in l) (subst Read (sym (tagged l (and_l a b e))) (read_station l)) (and_r a b e)

all_counted : (r : Reading) (ls : List (List ℕ)) → all_stations r ls ≡ true → length (reading_after r ls).present ≡ length r.present + length ls
unfolding all_stations
all_counted r [] e = omega arith
all_counted r (l ∷ ls) e =
    let n = entry_next r (line_entry l) in
    let a = is_station r l in
    let b = all_stations n ls in
    omega (arith, station_counted r l (and_l a b e), all_counted n ls (and_r a b e))

-- ---- the length of a text

covered : (f : ℕ) (t : List ℕ) → length t ≤ f → length t ≤ 84 * length (lines_by f t)
unfolding lines_by
covered zero t h = omega (arith, h)
covered (suc f) [] h = omega arith
covered (suc f) (b ∷ t) h =
    omega (arith, h, length-drop 84 (b ∷ t), covered f (drop 84 (b ∷ t)) (omega (arith, h, length-drop 84 (b ∷ t))))

module _ (k : Class) (i : Instrument) (t : List ℕ) where
  few : length (reading_after (ready k i) (lines t)).present ≤ 200
  few = (entries_kept (ready k i) (begun_kept (ready k i).opening (omega arith) refl refl) (entries (lines t))).present.count

  pub run_short : is_run k i t ≡ true → length t ≤ 16800
  unfolding is_run lines
  run_short e =
      let n = (run_in k i t).count in
      let all : all_stations (ready k i) (lines t) ≡ true = and_l (all_stations (ready k i) (lines t)) (not (eqb n 0 || eqb (n % 2) 1)) e in
      omega (arith, few, all_counted (ready k i) (lines t) all, covered (length t) t (omega arith))

pub long_refused : LongRefused
long_refused k i t h = go (is_run k i t) refl
  where
    go : (b : Bool) → is_run k i t ≡ b → is_run k i t ≡ false
    go true e = absurd (omega (arith, h, run_short k i t e))
    go false e = e

-- ---- a part of a text

-- a part with more than 200 lines is the whole text, or neither of the two is a run
part : (k : Class) (i : Instrument) (t : List ℕ) (n : ℕ) → 16800 < n → (take n t ≡ t) ⊎ ((is_run k i (take n t) ≡ false) × (is_run k i t ≡ false))
part k i t n h = go (dec_le (length t) n)
  where
    go : Dec (length t ≤ n) → (take n t ≡ t) ⊎ ((is_run k i (take n t) ≡ false) × (is_run k i t ≡ false))
    go (yes p) = inl (sym (append-nil (take n t)) ∙ ap (λ (x : List ℕ). take n t ++ x) (sym (drop_of_length-le t p)) ∙ take-append-drop n t)
    go (no f) =
        let more : n < length t = lt_of_not-le f in
        inr (long_refused k i (take n t) (omega (arith, h, more, length-take n t)), long_refused k i t (omega (arith, h, more)))

module _ (order z g s : ℤ) where
  abbrev class : Class
  class = class_of order

  abbrev level : Instrument
  level = instrument_of z

  -- what is printed where the texts cannot be judged
  unable : (b c : Bool) (j : Judgement) → c ≡ false → printed (cond (not b) 3 (cond (not c) 52 0)) j ≡ refused (cond (not b) 3 52)
  unable true c j e = λ h. printed (cond (not (e h)) 52 0) j
  unable false c j e = refl

  printed_unable : (first second : List ℕ) → can_judge class level first second g s ≡ false
      → printed_of first second order z g s ≡ bytes_of (refused (cond (not (named order z)) 3 52))
  unfolding printed_of judge_refusal
  printed_unable first second e = ap bytes_of (unable (named order z) (can_judge class level first second g s) (judgement_of first second order z g s) e)

  first_none : (first second : List ℕ) → is_run class level first ≡ false → can_judge class level first second g s ≡ false
  first_none first second e = λ h. e h && is_run class level second && opposite_in_range g s

  second_none : (first second : List ℕ) → is_run class level second ≡ false → can_judge class level first second g s ≡ false
  second_none first second e = (λ h. is_run class level first && e h && opposite_in_range g s) ∙ never (is_run class level first)
    where
      never : (t : Bool) → t && false && opposite_in_range g s ≡ false
      never true = refl
      never false = refl

  enough : (first second : List ℕ) (n m : ℕ)
      → (take n first ≡ first) ⊎ ((is_run class level (take n first) ≡ false) × (is_run class level first ≡ false))
      → (take m second ≡ second) ⊎ ((is_run class level (take m second) ≡ false) × (is_run class level second ≡ false))
      → printed_of (take n first) (take m second) order z g s ≡ printed_of first second order z g s
  enough first second n m (inl a) (inl b) = λ h. printed_of (a h) (b h) order z g s
  enough first second n m (inl a) (inr y) =
      printed_unable (take n first) (take m second) (second_none (take n first) (take m second) y.0) ∙ sym (printed_unable first second (second_none first second y.1))
  enough first second n m (inr x) b =
      printed_unable (take n first) (take m second) (first_none (take n first) (take m second) x.0) ∙ sym (printed_unable first second (first_none first second x.1))

pub read_enough : ReadEnough
read_enough first second n m order z g s h k =
    enough order z g s first second n m (part (class_of order) (instrument_of z) first n h) (part (class_of order) (instrument_of z) second m k)
