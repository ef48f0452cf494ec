-- Whole lines: reading undoes writing, and a line that is read as a record, whose print unit is not blank where it has one, is byte for byte what writing that record gives.
use mathlib.Core.Path.{◌≡◌, refl, sym, ap, subst, ◌∙◌}
use mathlib.Core.Bool.{Bool, true, false, cond}
use mathlib.Core.List.{List, [], ◌∷◌, ◌++◌, append_assoc}
use Prim.Native.Nat.{ℕ, zero, suc, ◌+◌, ◌*◌, ◌≤◌}
use native.Mathlib.Omega.{arith}
use lib.IntN.{ℤ, pos}
use lib.ListN.{length, take, drop, length-take, length-drop, take-append-drop}
use lib.Seq.{take_at, drop_at, take-add, drop-drop}
use Rattle.numbers.specs.Numbers.{put_at}
use Rattle.numbers.proofs.Tests.{by_test, is_true, not_both}
use Rattle.std.specs.declared.option.Option.{Option}
use Rattle.std.specs.Prelude.{Some, None}
use Rattle.std.specs.Prelude.{Ok, Err, is_some}
use Rattle.std.specs.Option.{unwrap_or}
use Rattle.std.specs.declared.result.Result.{Result}
use Rattle.records.specs.declared.Tag.{Tag}
use Rattle.records.specs.declared.Record.{Record}
use Rattle.records.specs.declared.Refusal.{Refusal}
use Rattle.records.specs.declared.Refusal.TheVariants.{NotARecord, BadField}
use Rattle.columns.specs.Decimals.{fits_in, pad, same, field_of}
use Rattle.columns.specs.Lines.{line_end, line_with, width_of, fields, all_fit, line_fits, tag_line}
use Rattle.columns.specs.Records.{letters, field_count, tags, tag_among, all_numbers, numbers_in, lacks_print_unit, zeros, record_line, numbers_line, record_in, line_of_tag, line_in}
use Rattle.columns.proofs.Compare.{both, same_true, same_equal}
use Rattle.columns.proofs.Fields.{length_pad, read_back, written_field, number_fits}
use Rattle.columns.proofs.Lines.{columns_narrow, length_end, fits_line, fits_room, line_is}
use Rattle.columns.proofs.Records.{record_shaped, line_taken, print_unit_kept, print_unit_read, parses}
use Rattle.columns.proofs.Tags.{tag_facts}

-- l is the record with tag t and numbers zs, written
pub record Written (t : Tag) (zs : List ℤ) (l : List ℕ) : Type 0 where
  pub count : length zs ≡ field_count t
  pub each : all_fit false zs ≡ true
  pub is : l ≡ tag_line (letters t) zs false

width_eight : (after : ℕ) → width_of false after ≡ 8
unfolding width_of
width_eight zero = refl
width_eight (suc after) = refl

-- ---- reading undoes writing

fields_back : (zs : List ℤ) (r : List ℕ) → all_fit false zs ≡ true → (all_numbers (length zs) (fields false zs ++ r) ≡ true) × (numbers_in (length zs) (fields false zs ++ r) ≡ zs)
unfolding fields all_fit all_numbers numbers_in
fields_back [] r h = (refl, refl)
fields_back (z ∷ zs) r h =
    let w : ℕ = width_of false (length zs) in
    let t = both (fits_in w z) (all_fit false zs) h in
    let q : List ℕ = fields false zs ++ r in
    let n : length (pad w z) ≡ 8 = length_pad w z t.0 ∙ width_eight (length zs) in
    let e : (pad w z ++ fields false zs) ++ r ≡ pad w z ++ q = append_assoc (pad w z) (fields false zs) r in
    let f : field_of (take 8 ((pad w z ++ fields false zs) ++ r)) ≡ Some z = ap (λ (x : List ℕ). field_of (take 8 x)) e ∙ ap field_of (take_at (pad w z) q 8 n) ∙ read_back w z t.0 in
    let d : drop 8 ((pad w z ++ fields false zs) ++ r) ≡ q = ap (drop 8) e ∙ drop_at (pad w z) q 8 n in
    let i = fields_back zs r t.1 in (
      (λ j. cond (is_some (f j)) (all_numbers (length zs) (d j)) false) ∙ i.0,
      (λ j. unwrap_or (f j) (pos 0) ∷ numbers_in (length zs) (d j)) ∙ ap (λ (x : List ℤ). z ∷ x) i.1,
    )

-- the numbers of a record fit its line, and where its fields end
module _ (t : Tag) (zs : List ℤ) (n : length zs ≡ field_count t) (h : all_fit false zs ≡ true) where
  pub record_fits : line_fits (length (letters t)) zs false ≡ true
  record_fits = fits_room (length (letters t)) zs false (omega (arith, n, tag_facts t, columns_narrow (length zs))) ∙ h

  record_used : length (letters t ++ fields false zs) ≡ 3 + 8 * field_count t
  record_used =
      (fits_line (letters t) zs false record_fits).used
      ∙ omega (arith, n, tag_facts t, columns_narrow (length zs))

pub line_back : (t : Tag) (zs : List ℤ) (l : List ℕ) → Written t zs l → line_in l ≡ record_line t zs
unfolding line_in line_with
line_back t zs l w =
    let s : List ℕ = letters t ++ fields false zs in
    let m : ℕ = 3 + 8 * field_count t in
    let q : length s ≡ m = record_used t zs w.count w.each in
    let r : List ℕ = fields false zs ++ line_end (length s) in
    let i : l ≡ s ++ line_end (length s) = w.is ∙ line_is (letters t) zs false (record_fits t zs w.count w.each) in
    let a : l ≡ letters t ++ r = i ∙ append_assoc (letters t) (fields false zs) (line_end (length s)) in
    let front : take 3 l ≡ letters t = ap (take 3) a ∙ take_at (letters t) r 3 (tag_facts t).three in
    let rest : drop 3 l ≡ r = ap (drop 3) a ∙ drop_at (letters t) r 3 (tag_facts t).three in
    let end : drop m l ≡ line_end m = ap (drop m) i ∙ drop_at s (line_end (length s)) m q ∙ ap line_end q in
    let f = fields_back zs (line_end (length s)) w.each in
    let numbers : all_numbers (field_count t) (drop 3 l) ≡ true = (λ j. all_numbers (sym w.count j) (rest j)) ∙ f.0 in
    ap (λ (k : Option Tag). line_of_tag k l) (ap (tag_among tags) front ∙ (tag_facts t).back)
    ∙ record_shaped t l (same_equal (drop m l) (line_end m) end)
    ∙ ap (λ (x : List ℕ). numbers_line t (field_count t) (drop 3 x)) (print_unit_kept t l (print_unit_read t l numbers))
    ∙ (λ j. numbers_line t (sym w.count j) (rest j))
    ∙ line_taken t (length zs) r f.0
    ∙ ap (record_line t) f.1

-- ---- what is read as a record is what writing it gives

tag_letters : (ts : List Tag) (w : List ℕ) (t : Tag) → tag_among ts w ≡ Some t → w ≡ letters t
unfolding tag_among
tag_letters [] w t e = cc
tag_letters (u ∷ ts) w t e =
    by_test (same w (letters u)) (λ b. cond b (Some u) (tag_among ts w) ≡ Some t → w ≡ letters t)
    (λ b f. let s : u ≡ t = cc in same_true w (letters u) (is_true b) ∙ ap letters s) (λ b f. tag_letters ts w t f) e

number_is : (f : Option ℤ) → is_some f ≡ true → f ≡ Some (unwrap_or f (pos 0))
number_is (Some z) e = refl
number_is None e = absurd (not_both e refl)

fields_written : (n : ℕ) (t : List ℕ) → 8 * n ≤ length t → all_numbers n t ≡ true → (take (8 * n) t ≡ fields false (numbers_in n t)) × (all_fit false (numbers_in n t) ≡ true)
unfolding all_numbers numbers_in fields all_fit
fields_written zero t k h = (refl, refl)
fields_written (suc n) t k h =
    let b = both (is_some (field_of (take 8 t))) (all_numbers n (drop 8 t)) h in
    let z : ℤ = unwrap_or (field_of (take 8 t)) (pos 0) in
    let e : field_of (take 8 t) ≡ Some z = number_is (field_of (take 8 t)) b.0 in
    let m : ℕ = length (numbers_in n (drop 8 t)) in
    let w : length (take 8 t) ≡ width_of false m = omega (arith, length-take 8 t, width_eight m) in
    let i = fields_written n (drop 8 t) (omega (arith, length-drop 8 t)) b.1 in (
      ap (λ (j : ℕ). take j t) (eight n)
          ∙ take-add 8 (8 * n) t
          ∙ (λ j. (written_field (take 8 t) z e ∙ ap (λ (x : ℕ). pad x z) w) j ++ i.0 j),
      ap (λ (x : Bool). cond x (all_fit false (numbers_in n (drop 8 t))) false) (ap (λ (x : ℕ). fits_in x z) (sym w) ∙ number_fits (take 8 t) z e) ∙ i.1,
    )
  where
    eight : (n : ℕ) → 8 * suc n ≡ 8 + 8 * n
    eight n = omega arith

length_numbers : (n : ℕ) (t : List ℕ) → length (numbers_in n t) ≡ n
unfolding numbers_in
length_numbers zero t = refl
length_numbers (suc n) t = ap suc (length_numbers n (drop 8 t))

-- a line with these letters, these numbers and this end
line_parts :
    (t : Tag) (l : List ℕ)
    → take 3 l ≡ letters t
    → drop (3 + 8 * field_count t) l ≡ line_end (3 + 8 * field_count t)
    → all_numbers (field_count t) (drop 3 l) ≡ true
    → Written t (numbers_in (field_count t) (drop 3 l)) l
unfolding line_with
line_parts t l front end h =
    let n : ℕ = field_count t in
    let m : ℕ = 3 + 8 * n in
    let zs : List ℤ = numbers_in n (drop 3 l) in
    let k : length zs ≡ n = length_numbers n (drop 3 l) in
    let c = (tag_facts t).ten in
    let size : length l ≡ 84 = omega (arith, ap length end, length-drop m l, length_end m (omega arith)) in
    let f = fields_written n (drop 3 l) (omega (arith, length-drop 3 l)) h in
    let s : List ℕ = letters t ++ fields false zs in
    let q : length s ≡ m = record_used t zs k f.1 in
    record {
      count = k;
      each = f.1;
      is =
          sym (take-append-drop 3 l)
          ∙ ap (λ (x : List ℕ). take 3 l ++ x) (sym (take-append-drop (8 * n) (drop 3 l)))
          ∙ (λ j. front j ++ (f.0 j ++ (drop-drop (8 * n) 3 l ∙ end ∙ ap line_end (sym q)) j))
          ∙ sym (append_assoc (letters t) (fields false zs) (line_end (length s)))
          ∙ sym (line_is (letters t) zs false (record_fits t zs k f.1));
    }

-- its numbers are the first of its values
values_front : (n : ℕ) (zs : List ℤ) → length zs ≡ n → zs ≡ take n (put_at zeros 0 zs)
unfolding put_at
values_front n zs e = sym (take_at zs (drop (length zs) zeros) n e)

module _ (l : List ℕ) (r : Record) where
  -- of a line with tag u that was read as the record r
  abbrev WrittenBy : Result Record Refusal → Type 0
  WrittenBy x = x ≡ Ok r → Written r.tag (take (field_count r.tag) r.values) l

  taken : (u : Tag) → take 3 l ≡ letters u → lacks_print_unit u l ≡ false → WrittenBy (record_in u l)
  unfolding record_in numbers_line
  taken u front there =
      let n : ℕ = field_count u in
      let m : ℕ = 3 + 8 * n in
      subst (λ (x : List ℕ). WrittenBy (cond (same (drop m l) (line_end m)) (numbers_line u n (drop 3 x)) (Err NotARecord))) (sym (print_unit_kept u l there))
      (by_test (same (drop m l) (line_end m)) (λ b. WrittenBy (cond b (numbers_line u n (drop 3 l)) (Err NotARecord)))
      (λ end.
      by_test (all_numbers n (drop 3 l)) (λ b. WrittenBy (cond b (record_line u (numbers_in n (drop 3 l))) (Err BadField)))
      (λ h e.
      let zs : List ℤ = numbers_in n (drop 3 l) in
      let is : (record { tag = u; values = put_at zeros 0 zs }) ≡ r = cc in
      let w = line_parts u l front (same_true (drop m l) (line_end m) (is_true end)) (is_true h) in
      subst (λ (x : Record). Written x.tag (take (field_count x.tag) x.values) l) is
      (subst (λ (x : List ℤ). Written u x l) (values_front n zs w.count) w))
      (λ h e. cc))
      (λ end e. cc))

  pub line_written : line_in l ≡ Ok r → lacks_print_unit r.tag l ≡ false → Written r.tag (take (field_count r.tag) r.values) l
  unfolding line_in
  line_written e there =
      let tag : tag_among tags (take 3 l) ≡ Some r.tag = (parses l (sym e)).1.1 in
      taken r.tag (tag_letters tags (take 3 l) r.tag tag) there (sym (ap (λ (k : Option Tag). line_of_tag k l) tag) ∙ e)
