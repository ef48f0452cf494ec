-- Records read: a turn of the loop over a line's fields, and which lines are refused.
use mathlib.Core.Path.{◌≡◌, refl, sym, ap, subst, ◌∙◌}
use mathlib.Core.Bool.{Bool, true, false, not, cond, ◌&&◌}
use mathlib.Core.List.{List, [], ◌∷◌}
use Prim.Native.Nat.{ℕ, zero, suc, ◌+◌, ◌-◌, ◌*◌, ◌≤◌, ◌<◌}
use native.Mathlib.Omega.{arith}
use lib.IntN.{ℤ, pos}
use lib.ListN.{length, get_or, take, drop, set, length-take, length-drop}
use Rattle.std.specs.Simd.{first_chunks}
use Rattle.std.proofs.lemmas.List.{get_or-take}
use lib.Seq.{drop-drop}
use Rattle.numbers.specs.Tables.{first_of, Lowest}
use Rattle.numbers.specs.Numbers.{put_at}
use Rattle.numbers.proofs.Arrays.{put_cons}
use Rattle.numbers.proofs.Tests.{by_test, is_true, not_both, and_l, and_r}
use Rattle.numbers.proofs.Tables.{first_lowest}
use Rattle.std.specs.declared.option.Option.{Option}
use Rattle.std.specs.Prelude.{Some, None}
use Rattle.std.specs.Prelude.{Ok, Err, is_some, IfOk}
use Rattle.std.specs.Option.{unwrap_or, ok_or}
use Rattle.std.specs.declared.result.Result.{Result}
use Rattle.records.specs.declared.Tag.{Tag}
use Rattle.records.specs.declared.Record.{Record}
use Rattle.records.specs.declared.Refusal.{Refusal}
use Rattle.records.specs.declared.Refusal.TheVariants.{NotARecord, BadField}
use Rattle.records.specs.Refusals.{number_of}
use Rattle.columns.specs.Decimals.{blanks, digits_by, digits, decimal, pad, same, value_of, has_minus, candidate, field_of}
use Rattle.columns.specs.Lines.{line_end}
use Rattle.columns.specs.Records.{field_count, tags, tag_among, all_numbers, numbers_in, lacks_print_unit, with_print_unit, has_print_unit, record_line, numbers_line, record_in, line_of_tag, line_in, has_shape, has_numbers, shape_tests, Parses}
use Rattle.columns.proofs.Lists.{left_next, left_none, part_rest}
use Rattle.columns.proofs.Compare.{both, same_lengths, same_true}
use Rattle.columns.proofs.Lines.{length_end}
use Rattle.columns.proofs.Tags.{tag_facts}

-- field i of those that are lent as chunks of eight
chunk_at : (k i : ℕ) (xs d : List ℕ) → i < k → get_or (first_chunks 8 k xs) i d ≡ take 8 (drop (8 * i) xs)
chunk_at zero i xs d h = absurd (omega arith)
chunk_at (suc k) zero xs d h = refl
chunk_at (suc k) (suc i) xs d h = chunk_at k i (drop 8 xs) d (omega arith) ∙ ap (take 8) (drop-drop (8 * i) 8 xs ∙ ap (λ (j : ℕ). drop j xs) (eight i))
  where
    eight : (i : ℕ) → 8 + 8 * i ≡ 8 * suc i
    eight i = omega arith

pub field_lent : (l : List ℕ) (n i : ℕ) {k : ℕ} {fields : List (List ℕ)} (d : List ℕ) → fields ≡ first_chunks 8 k (take (length l - 3) (drop 3 l)) → length fields ≡ k
    → i < length (take n fields) → get_or (take n fields) i d ≡ take 8 (drop (3 + 8 * i) l)
field_lent l n i {k} {fields} d e f h =
    get_or-take n fields i d (omega (arith, length-take n fields))
    ∙ ap (λ (x : List (List ℕ)). get_or x i d) (e ∙ ap (first_chunks 8 k) (part_rest l 3))
    ∙ chunk_at k i (drop 3 l) d (omega (arith, f, length-take n fields))
    ∙ ap (take 8) (drop-drop (8 * i) 3 l)

module _ (l : List ℕ) (n i : ℕ) (h : i < n) where
  -- field i
  abbrev pub field_at : Option ℤ
  field_at = field_of (take 8 (drop (3 + 8 * i) l))

  after : drop 8 (drop (3 + 8 * i) l) ≡ drop (3 + 8 * (i + 1)) l
  after = drop-drop 8 (3 + 8 * i) l ∙ ap (λ (k : ℕ). drop k l) (eight i)
    where
      eight : (i : ℕ) → 3 + 8 * i + 8 ≡ 3 + 8 * (i + 1)
      eight i = omega arith

  numbers_turn : (f : Option ℤ) → field_at ≡ f → all_numbers (n - i) (drop (3 + 8 * i) l) ≡ cond (is_some f) (all_numbers (n - (i + 1)) (drop (3 + 8 * (i + 1)) l)) false
  unfolding all_numbers
  numbers_turn f e =
      ap (λ (k : ℕ). all_numbers k (drop (3 + 8 * i) l)) (left_next n i h)
      ∙ (λ j. cond (is_some (e j)) (all_numbers (n - (i + 1)) (after j)) false)

  pub numbers_next : (z : ℤ) → field_at ≡ Some z → all_numbers (n - i) (drop (3 + 8 * i) l) ≡ all_numbers (n - (i + 1)) (drop (3 + 8 * (i + 1)) l)
  numbers_next z e = numbers_turn (Some z) e

  pub numbers_stop : field_at ≡ None → all_numbers (n - i) (drop (3 + 8 * i) l) ≡ false
  numbers_stop e = numbers_turn None e

  -- of field i as it is read, with its refusal where it is no number
  pub field_read : {f : Option ℤ} (z : ℤ) → f ≡ field_at → ok_or f BadField ≡ Ok z → field_at ≡ Some z
  field_read {f} z e q = sym e ∙ go f q
    where
      go : (g : Option ℤ) → ok_or g BadField ≡ Ok z → g ≡ Some z
      go (Some x) s = cc
      go None s = cc

  pub field_refused : {f : Option ℤ} (r : Refusal) → f ≡ field_at → ok_or f BadField ≡ Err r → (field_at ≡ None) × (r ≡ BadField)
  field_refused {f} r e q = let t = go f q in (sym e ∙ t.0, t.1)
    where
      go : (g : Option ℤ) → ok_or g BadField ≡ Err r → (g ≡ None) × (r ≡ BadField)
      go (Some x) s = cc
      go None s = (refl, cc)

  pub values_next : (z : ℤ) → field_at ≡ Some z → numbers_in (n - i) (drop (3 + 8 * i) l) ≡ z ∷ numbers_in (n - (i + 1)) (drop (3 + 8 * (i + 1)) l)
  unfolding numbers_in
  values_next z e =
      ap (λ (k : ℕ). numbers_in k (drop (3 + 8 * i) l)) (left_next n i h)
      ∙ (λ j. unwrap_or (e j) (pos 0) ∷ numbers_in (n - (i + 1)) (after j))

  -- field i takes its place, and then those after it
  pub values_put : (vs : List ℤ) (z : ℤ) → i < length vs → field_at ≡ Some z
      → put_at (set vs i z) (i + 1) (numbers_in (n - (i + 1)) (drop (3 + 8 * (i + 1)) l)) ≡ put_at vs i (numbers_in (n - i) (drop (3 + 8 * i) l))
  values_put vs z g e = put_cons vs i z (numbers_in (n - (i + 1)) (drop (3 + 8 * (i + 1)) l)) g ∙ ap (put_at vs i) (sym (values_next z e))

pub numbers_end : (n i : ℕ) (t : List ℕ) → n ≤ i → all_numbers (n - i) t ≡ true
unfolding all_numbers
numbers_end n i t h = ap (λ (k : ℕ). all_numbers k t) (left_none n i h)

pub values_end : (n i : ℕ) (t : List ℕ) → n ≤ i → numbers_in (n - i) t ≡ []
unfolding numbers_in
values_end n i t h = ap (λ (k : ℕ). numbers_in k t) (left_none n i h)

module _ (tag : Tag) (n : ℕ) (t : List ℕ) where
  pub line_refused : all_numbers n t ≡ false → numbers_line tag n t ≡ Err BadField
  unfolding numbers_line
  line_refused e = ap (λ (b : Bool). cond b (record_line tag (numbers_in n t)) (Err BadField)) e

  pub line_taken : all_numbers n t ≡ true → numbers_line tag n t ≡ record_line tag (numbers_in n t)
  unfolding numbers_line
  line_taken e = ap (λ (b : Bool). cond b (record_line tag (numbers_in n t)) (Err BadField)) e

-- ---- the end of a line

module _ (t : Tag) (l : List ℕ) where
  pub record_bad : same (drop (3 + 8 * field_count t) l) (line_end (3 + 8 * field_count t)) ≡ false → record_in t l ≡ Err NotARecord
  unfolding record_in
  record_bad e = ap (λ (b : Bool). cond b (numbers_line t (field_count t) (drop 3 (with_print_unit t l))) (Err NotARecord)) e

  pub record_shaped : same (drop (3 + 8 * field_count t) l) (line_end (3 + 8 * field_count t)) ≡ true → record_in t l ≡ numbers_line t (field_count t) (drop 3 (with_print_unit t l))
  unfolding record_in
  record_shaped e = ap (λ (b : Bool). cond b (numbers_line t (field_count t) (drop 3 (with_print_unit t l))) (Err NotARecord)) e

-- ---- the print unit

-- field i of fields that are all numbers
each_number : (n i : ℕ) (t : List ℕ) → i < n → all_numbers n t ≡ true → is_some (field_of (take 8 (drop (8 * i) t))) ≡ true
unfolding all_numbers
each_number zero i t k h = absurd (omega arith)
each_number (suc n) zero t k h = (both (is_some (field_of (take 8 t))) (all_numbers n (drop 8 t)) h).0
each_number (suc n) (suc i) t k h =
    ap (λ (x : List ℕ). is_some (field_of (take 8 x))) (ap (λ (j : ℕ). drop j t) (eight i) ∙ sym (drop-drop (8 * i) 8 t))
    ∙ each_number n i (drop 8 t) (omega arith) (both (is_some (field_of (take 8 t))) (all_numbers n (drop 8 t)) h).1
  where
    eight : (i : ℕ) → 8 * suc i ≡ 8 + 8 * i
    eight i = omega arith

no_number : field_of (blanks 8) ≡ None
unfolding field_of candidate has_minus value_of same pad decimal digits digits_by blanks
no_number = refl

module _ (t : Tag) (l : List ℕ) where
  pub print_unit_kept : lacks_print_unit t l ≡ false → with_print_unit t l ≡ l
  unfolding with_print_unit
  print_unit_kept e = ap (λ (b : Bool). cond b (put_at l 35 (pad 8 (pos 10))) l) e

  -- one that is a number is not blank
  pub print_unit_read : all_numbers (field_count t) (drop 3 l) ≡ true → lacks_print_unit t l ≡ false
  unfolding lacks_print_unit
  print_unit_read h =
      by_test (has_print_unit t && same (take 8 (drop 35 l)) (blanks 8)) (λ b. b ≡ false)
      (λ e.
      let p = has_print_unit t in
      let q = same (take 8 (drop 35 l)) (blanks 8) in
      let five = (tag_facts t).five (and_l p q (is_true e)) in
      let blank : take 8 (drop 35 l) ≡ blanks 8 = same_true (take 8 (drop 35 l)) (blanks 8) (and_r p q (is_true e)) in
      let fifth : is_some (field_of (take 8 (drop 35 l))) ≡ true =
      ap (λ (x : List ℕ). is_some (field_of (take 8 x))) (sym (drop-drop 32 3 l)) ∙ each_number 5 4 (drop 3 l) (omega arith) (ap (λ (n : ℕ). all_numbers n (drop 3 l)) (sym five) ∙ h) in
      absurd (not_both fifth (ap (λ (x : List ℕ). is_some (field_of x)) blank ∙ ap is_some no_number)))
      (λ e. refl)

-- a line of another length is refused
pub line_length_lem : (l : List ℕ) → (length l ≡ 84 → ⊥) → line_in l ≡ Err NotARecord
unfolding line_in
line_length_lem l h = go (tag_among tags (take 3 l)) refl
  where
    go : (k : Option Tag) → tag_among tags (take 3 l) ≡ k → line_of_tag k l ≡ Err NotARecord
    go (Some t) e =
        let m = 3 + 8 * field_count t in
        let c = (tag_facts t).ten in
        record_bad t l
        (same_lengths (drop m l) (line_end m) (λ q. h (omega (arith, length-drop m l, length_end m (omega arith)))))
    go None e = refl

-- ---- by the tag of a line

module _ (l : List ℕ) (t : Option Tag) (is : t ≡ tag_among tags (take 3 l)) where
  pub line_untagged : (e : Refusal) → ok_or t NotARecord ≡ Err e → Err e ≡ line_in l
  unfolding line_in
  line_untagged e h = go t h ∙ ap (λ (k : Option Tag). line_of_tag k l) is
    where
      go : (k : Option Tag) → ok_or k NotARecord ≡ Err e → Err e ≡ line_of_tag k l
      go (Some u) q = cc
      go None q = cc

  pub line_tagged : (u : Tag) → ok_or t NotARecord ≡ Ok u → record_in u l ≡ line_in l
  unfolding line_in
  line_tagged u h = go t h ∙ ap (λ (k : Option Tag). line_of_tag k l) is
    where
      go : (k : Option Tag) → ok_or k NotARecord ≡ Ok u → record_in u l ≡ line_of_tag k l
      go (Some v) q = let s : v ≡ u = cc in ap (λ (x : Tag). record_in x l) (sym s)
      go None q = cc

-- ---- what is answered of a line

-- of a record by its two tests
answered : (t : Tag) (zs : List ℤ) (shape numbers : Bool)
    → let x : Result Record Refusal = cond shape (cond numbers (record_line t zs) (Err BadField)) (Err NotARecord) in
    (number_of x ≡ first_of ((1, not shape) ∷ (2, not numbers) ∷ [])) × IfOk x (λ r. Some t ≡ Some r.tag)
answered t zs true true = (refl, refl)
answered t zs true false = (refl, tt)
answered t zs false numbers = (refl, tt)

pub parses : (l : List ℕ) {r : Result Record Refusal} → r ≡ line_in l → Parses l r
unfolding line_in record_in numbers_line
parses l e =
    let t = go (tag_among tags (take 3 l)) in
    (e, (ap number_of e ∙ t.0, subst (λ (x : Result Record Refusal). IfOk x (λ r. tag_among tags (take 3 l) ≡ Some r.tag)) (sym e) t.1))
  where
    go : (k : Option Tag)
        → (number_of (line_of_tag k l) ≡ first_of ((1, not (has_shape k l)) ∷ (2, not (has_numbers k l)) ∷ []))
        × IfOk (line_of_tag k l) (λ r. k ≡ Some r.tag)
    go (Some t) = answered t (numbers_in (field_count t) (drop 3 (with_print_unit t l))) (has_shape (Some t) l) (has_numbers (Some t) l)
    go None = (refl, tt)

-- and it is the lowest of the two that applies
pub line_lowest : (l : List ℕ) → Lowest (λ n. n) (shape_tests l) (first_of (shape_tests l))
line_lowest l = first_lowest (λ n. n) (shape_tests l) 0 refl
