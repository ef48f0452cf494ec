-- Lines: how many columns their fields take, that a line has 84 bytes, and what a loop over its numbers has left.
use mathlib.Core.Path.{◌≡◌, refl, sym, ap, ◌∙◌}
use mathlib.Core.Bool.{Bool, true, false, cond, ◌&&◌}
use mathlib.Core.List.{List, [], ◌∷◌, ◌++◌, append_assoc}
use Prim.Native.Nat.{ℕ, zero, suc, ◌+◌, ◌-◌, ◌*◌, ◌^◌, ◌≤◌, ◌<◌}
use native.Mathlib.Omega.{arith}
use borrow.Author.Tests.{leb-true, le-leb, lt-leb}
use lib.Dec.{leb}
use lib.IntN.{ℤ, pos, neg_ℤ}
use lib.Signed.{lt_z}
use lib.ListN.{length, take, drop, get_or, replicate, length-append, length-drop}
use lib.Seq.{take_all, drop-drop, take-append-le, drop-append-le}
use Rattle.std.specs.List.{list_all, enumerate_from}
use Rattle.numbers.specs.Numbers.{put_at}
use Rattle.numbers.proofs.Tests.{by_test, is_false}
use Rattle.numbers.proofs.Parts.{ints, pos_part, neg_part, parts_abs, test_ge}
use Rattle.numbers.proofs.Arrays.{put_after, length_put_at, drop_next}
use borrow.Rule.Slice.PartMut.{put_mid}
use Rattle.columns.specs.Decimals.{blanks, fits_in, pad}
use Rattle.columns.specs.Lines.{line_end, line_with, width_of, fields, all_fit, columns_of, line_fits, tag_line, is_wide, title}
use Rattle.std.proofs.lemmas.List.{take-replicate, drop-replicate}
use Rattle.columns.proofs.Lists.{left_next, length_part, put_part, part_behind}
use Rattle.columns.proofs.Compare.{both}
use Rattle.columns.proofs.Fields.{length_blanks, length_pad, fits_within}

-- ---- the columns of fields

pub columns_narrow : (n : ℕ) → columns_of false n ≡ 8 * n
unfolding columns_of width_of
columns_narrow zero = refl
columns_narrow (suc n) = omega arith

pub columns_wide : (n : ℕ) → (n ≡ 0 → ⊥) → columns_of true n ≡ 8 * n + 8
unfolding columns_of width_of
columns_wide zero h = absurd (h refl)
columns_wide (suc n) h = omega arith

pub columns_none : (wide : Bool) (n : ℕ) → n ≡ 0 → columns_of wide n ≡ 0
unfolding columns_of
columns_none wide zero h = refl
columns_none wide (suc n) h = absurd (omega arith)

pub columns_range : (wide : Bool) (n : ℕ) → (8 * n ≤ columns_of wide n) × (columns_of wide n ≤ 8 * n + 8)
unfolding columns_of width_of
columns_range wide zero = (omega arith, omega arith)
columns_range true (suc n) = (omega arith, omega arith)
columns_range false (suc n) = (omega arith, omega arith)

pub width_before : (wide : Bool) (after : ℕ) → (after ≡ 0 → ⊥) → width_of wide after ≡ 8
unfolding width_of
width_before wide zero h = absurd (h refl)
width_before wide (suc after) h = refl

-- the first field, and the others
pub columns_next : (wide : Bool) (n : ℕ) → columns_of wide (suc n) ≡ width_of wide n + columns_of wide n
unfolding columns_of width_of
columns_next true zero = refl
columns_next false zero = refl
columns_next true (suc n) = omega arith
columns_next false (suc n) = omega arith

pub length_fields : (wide : Bool) (zs : List ℤ) → all_fit wide zs ≡ true → length (fields wide zs) ≡ columns_of wide (length zs)
unfolding fields all_fit columns_of
length_fields wide [] h = refl
length_fields wide (z ∷ zs) h =
    let t = both (fits_in (width_of wide (length zs)) z) (all_fit wide zs) h in
    length-append (pad (width_of wide (length zs)) z) (fields wide zs)
    ∙ (λ i. length_pad (width_of wide (length zs)) z t.0 i + length_fields wide zs t.1 i)
    ∙ sym (columns_next wide (length zs))

-- a height fits its field: eight columns down to −9,999,999, sixteen below
pub height_fits : (z : ℤ) → pos_part z < 10 ^ 8 → neg_part z < 10 ^ 15 → fits_in (width_of (is_wide z) 0) z ≡ true
unfolding width_of is_wide
height_fits z h k =
    by_test (lt_z z (neg_ℤ (pos 9999999))) (λ t. fits_in (cond t 16 8) z ≡ true)
    (λ t. fits_within 15 z (omega arith) (omega arith) k)
    (λ t. fits_within 7 z (omega arith) h (omega (ints, test_ge {a = z} {b = neg_ℤ (pos 9999999)} (is_false t), parts_abs z)))

-- ---- the numbers with their places

-- whether number p.0 of n, which is p.1, fits its field
abbrev pub fits_at : Bool → ℕ → ℕ × ℤ → Bool
fits_at wide n p = fits_in (width_of wide (n - (p.0 + 1))) p.1

-- all fit, from place i on
pub fit_places : (wide : Bool) (zs : List ℤ) (n i : ℕ) → n ≡ i + length zs → list_all (fits_at wide n) (enumerate_from i zs) ≡ all_fit wide zs
unfolding all_fit
fit_places wide [] n i h = refl
fit_places wide (z ∷ zs) n i h =
    let after : n - (i + 1) ≡ length zs = omega (arith, h) in
    (λ j. fits_in (width_of wide (after j)) z && fit_places wide zs n (i + 1) (omega (arith, h)) j)
    ∙ by_test (fits_in (width_of wide (length zs)) z) (λ t. (t && all_fit wide zs) ≡ cond t (all_fit wide zs) false) (λ t. refl) (λ t. refl)

-- ---- a turn of a loop over the numbers

module _ (wide : Bool) (zs : List ℤ) (i : ℕ) (h : i < length zs) where
  -- the width of field i
  abbrev pub width_at : ℕ
  width_at = width_of wide (length zs - (i + 1))

  pub fields_turn : fields wide (drop i zs) ≡ pad width_at (get_or zs i (pos 0)) ++ fields wide (drop (i + 1) zs)
  unfolding fields
  fields_turn =
      ap (fields wide) (drop_next zs i (pos 0) h)
      ∙ ap (λ (k : ℕ). pad (width_of wide k) (get_or zs i (pos 0)) ++ fields wide (drop (i + 1) zs)) (length-drop (i + 1) zs)

  pub fit_turn : all_fit wide (drop i zs) ≡ cond (fits_in width_at (get_or zs i (pos 0))) (all_fit wide (drop (i + 1) zs)) false
  unfolding all_fit
  fit_turn =
      ap (all_fit wide) (drop_next zs i (pos 0) h)
      ∙ ap (λ (k : ℕ). cond (fits_in (width_of wide k) (get_or zs i (pos 0))) (all_fit wide (drop (i + 1) zs)) false) (length-drop (i + 1) zs)

  pub columns_turn : columns_of wide (length zs - i) ≡ width_at + columns_of wide (length zs - (i + 1))
  columns_turn = ap (columns_of wide) (left_next (length zs) i h) ∙ columns_next wide (length zs - (i + 1))

  -- number i fits, and so do those after it
  pub fit_first : all_fit wide (drop i zs) ≡ true → fits_in width_at (get_or zs i (pos 0)) ≡ true
  fit_first e = (both (fits_in width_at (get_or zs i (pos 0))) (all_fit wide (drop (i + 1) zs)) (sym fit_turn ∙ e)).0

  pub fit_rest : all_fit wide (drop i zs) ≡ true → all_fit wide (drop (i + 1) zs) ≡ true
  fit_rest e = (both (fits_in width_at (get_or zs i (pos 0))) (all_fit wide (drop (i + 1) zs)) (sym fit_turn ∙ e)).1

  -- field i in its columns, which begin at `at`
  module _ (d : List ℕ) (at k : ℕ) (w : k ≡ width_at) (room : at + k ≤ length d) where
    part : length (take (at + k - at) (drop at d)) ≡ width_at
    part = length_part d at k room ∙ w

    -- where all columns from there on are blank, they are
    pub part_blank : drop at d ≡ blanks (columns_of wide (length zs - i)) → take (at + k - at) (drop at d) ≡ blanks (length (take (at + k - at) (drop at d)))
    unfolding blanks
    part_blank b =
        ap (take (at + k - at)) b ∙ take-replicate (at + k - at) (columns_of wide (length zs - i)) 32 (omega (arith, columns_turn, w))
        ∙ ap blanks (width ∙ sym (length_part d at k room))
      where
        width : at + k - at ≡ k
        width = omega arith

    pub part_fits : all_fit wide (drop i zs) ≡ true → fits_in (length (take (at + k - at) (drop at d))) (get_or zs i (pos 0)) ≡ true
    part_fits e = ap (λ (n : ℕ). fits_in n (get_or zs i (pos 0))) part ∙ fit_first e

    -- it is written, and then those after it
    module _ (s : List ℕ) (is : s ≡ pad (length (take (at + k - at) (drop at d))) (get_or zs i (pos 0))) (e : all_fit wide (drop i zs) ≡ true) where
      abbrev p : List ℕ
      p = pad width_at (get_or zs i (pos 0))

      put_is : put_mid at (at + k - at) d s ≡ put_at d at p
      put_is =
          let q : s ≡ p = is ∙ ap (λ (n : ℕ). pad n (get_or zs i (pos 0))) part in
          put_part d s at k (ap length q ∙ length_pad width_at (get_or zs i (pos 0)) (fit_first e) ∙ sym w) ∙ ap (put_at d at) q

      length_is : length s ≡ width_at
      length_is = ap length (is ∙ ap (λ (n : ℕ). pad n (get_or zs i (pos 0))) part) ∙ length_pad width_at (get_or zs i (pos 0)) (fit_first e)

      pub length_put : length (put_mid at (at + k - at) d s) ≡ length d
      length_put =
          let n : length p ≡ width_at = length_pad width_at (get_or zs i (pos 0)) (fit_first e) in
          ap length put_is ∙ length_put_at d at p (omega arith)

      -- and the columns after it stay blank
      pub rest_blank : drop at d ≡ blanks (columns_of wide (length zs - i)) → drop (at + k) (put_mid at (at + k - at) d s) ≡ blanks (columns_of wide (length zs - (i + 1)))
      unfolding blanks
      rest_blank b =
          part_behind d s at k (length_is ∙ sym w) room ∙ ap (drop k) b ∙ drop-replicate k (columns_of wide (length zs - i)) 32
          ∙ ap blanks (omega (arith, columns_turn, w))

      pub put_field : put_at (put_mid at (at + k - at) d s) (at + k) (fields wide (drop (i + 1) zs)) ≡ put_at d at (fields wide (drop i zs))
      put_field =
          let rest = fields wide (drop (i + 1) zs) in
          let n : length p ≡ width_at = length_pad width_at (get_or zs i (pos 0)) (fit_first e) in
          (λ j. put_at (put_is j) (at + (w ∙ sym n) j) rest)
          ∙ put_after d at p rest (omega arith)
          ∙ ap (put_at d at) (sym fields_turn)

-- ---- the end of a line

pub length_end : (from : ℕ) → from ≤ 83 → length (line_end from) ≡ 84 - from
unfolding line_end
length_end from h = length-append (blanks (83 - from)) (10 ∷ []) ∙ omega (arith, length_blanks (83 - from))

-- a blank line behind some columns, also as the code takes it
pub end_rest : (from : ℕ) → from ≤ 83 → drop from (line_end 0) ≡ line_end from
unfolding line_end blanks
end_rest from h = drop-append-le from (replicate 83 32) (10 ∷ []) h ∙ ap (λ (x : List ℕ). x ++ (10 ∷ [])) (drop-replicate from 83 32)

pub end_part : (from : ℕ) → from ≤ 83 → take (84 - from) (drop from (line_end 0)) ≡ line_end from
end_part from h = ap (take (84 - from)) (end_rest from h) ∙ take_all (84 - from) (line_end from) (omega (arith, length_end from h))

-- its columns behind a tag
pub columns_blank : (letters k : ℕ) → letters + k ≤ 83 → take k (drop letters (line_end 0)) ≡ blanks k
unfolding line_end blanks
columns_blank letters k h =
    ap (take k) (end_rest letters (omega arith))
    ∙ take-append-le k (blanks (83 - letters)) (10 ∷ []) (omega (arith, length_blanks (83 - letters)))
    ∙ take-replicate k (83 - letters) 32 (omega arith)

-- ---- lengths

pub length_with : (s : List ℕ) → length s ≤ 83 → length (line_with s) ≡ 84
unfolding line_with
length_with s h = length-append s (line_end (length s)) ∙ omega (arith, length_end (length s) h)

pub length_title : length title ≡ 84
unfolding title
length_title = length_with _ (omega arith)

-- what fits a line
pub record FitsLine (tag : List ℕ) (zs : List ℤ) (wide : Bool) : Type 0 where
  pub room : length tag + columns_of wide (length zs) ≤ 83
  pub each : all_fit wide zs ≡ true
  pub used : length (tag ++ fields wide zs) ≡ length tag + columns_of wide (length zs)

pub fits_line : (tag : List ℕ) (zs : List ℤ) (wide : Bool) → line_fits (length tag) zs wide ≡ true → FitsLine tag zs wide
unfolding line_fits
fits_line tag zs wide h =
    let t = both (leb (length tag + columns_of wide (length zs)) 83) (all_fit wide zs) h in
    record {
      room = leb-true (length tag + columns_of wide (length zs)) 83 t.0;
      each = t.1;
      used = length-append tag (fields wide zs) ∙ ap (λ (k : ℕ). length tag + k) (length_fields wide zs t.1);
    }

-- the same, a fact at a time
pub line_room : (tag : List ℕ) (zs : List ℤ) (wide : Bool) → line_fits (length tag) zs wide ≡ true → length tag + columns_of wide (length zs) ≤ 83
line_room tag zs wide h = (fits_line tag zs wide h).room

pub line_each : (tag : List ℕ) (zs : List ℤ) (wide : Bool) → line_fits (length tag) zs wide ≡ true → all_fit wide zs ≡ true
line_each tag zs wide h = (fits_line tag zs wide h).each

pub fits_not : (letters : ℕ) (zs : List ℤ) (wide : Bool) → 83 < letters + columns_of wide (length zs) → line_fits letters zs wide ≡ false
unfolding line_fits
fits_not letters zs wide h = ap (λ (t : Bool). cond t (all_fit wide zs) false) (lt-leb (letters + columns_of wide (length zs)) 83 h)

pub fits_room : (letters : ℕ) (zs : List ℤ) (wide : Bool) → letters + columns_of wide (length zs) ≤ 83 → line_fits letters zs wide ≡ all_fit wide zs
unfolding line_fits
fits_room letters zs wide h = ap (λ (t : Bool). cond t (all_fit wide zs) false) (le-leb (letters + columns_of wide (length zs)) 83 h)

-- the tag and the fields over a blank line
module _ (tag : List ℕ) (zs : List ℤ) (wide : Bool) (h : line_fits (length tag) zs wide ≡ true) {line rest : List ℕ} (all : line ≡ line_end 0) (back : rest ≡ drop (length tag) line) (k : ℕ) (size : k ≡ columns_of wide (length zs)) where
  blank : rest ≡ drop (length tag) (line_end 0)
  blank = back ∙ ap (drop (length tag)) all

  pub fields_blank : take k rest ≡ blanks (columns_of wide (length zs))
  fields_blank = (λ i. take (size i) (blank i)) ∙ columns_blank (length tag) (columns_of wide (length zs)) (fits_line tag zs wide h).room

  pub line_built : {front columns : List ℕ} → front ≡ tag → columns ≡ fields wide zs → front ++ (columns ++ drop k rest) ≡ line_with (tag ++ fields wide zs)
  unfolding line_with
  line_built f c =
      (λ i. f i ++ (c i ++ drop k (blank i)))
      ∙ ap (λ (x : List ℕ). tag ++ (fields wide zs ++ x)) (drop-drop k (length tag) (line_end 0) ∙ ap (λ (n : ℕ). drop n (line_end 0)) used ∙ end_rest (length (tag ++ fields wide zs)) (omega (arith, used, (fits_line tag zs wide h).room, size)))
      ∙ sym (append_assoc tag (fields wide zs) (line_end (length (tag ++ fields wide zs))))
    where
      used : length tag + k ≡ length (tag ++ fields wide zs)
      used = omega (arith, size, (fits_line tag zs wide h).used)

module _ (tag : List ℕ) (zs : List ℤ) (wide : Bool) where
  pub line_is : line_fits (length tag) zs wide ≡ true → tag_line tag zs wide ≡ line_with (tag ++ fields wide zs)
  unfolding tag_line
  line_is h = ap (λ (t : Bool). cond t (line_with (tag ++ fields wide zs)) []) h

  pub line_none : line_fits (length tag) zs wide ≡ false → tag_line tag zs wide ≡ []
  unfolding tag_line
  line_none h = ap (λ (t : Bool). cond t (line_with (tag ++ fields wide zs)) []) h

  -- a line has 84 bytes
  pub length_line : line_fits (length tag) zs wide ≡ true → length (tag_line tag zs wide) ≡ 84
  length_line h =
      let f = fits_line tag zs wide h in
      ap length (line_is h) ∙ length_with (tag ++ fields wide zs) (omega (arith, f.room, f.used))
