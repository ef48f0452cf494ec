-- Numbers in columns, written and read: a field is the number z exactly if its bytes are z right-justified, in any number of columns.
use mathlib.Core.Path.{◌≡◌, refl, sym, ap, ◌∙◌}
use mathlib.Core.Bool.{Bool, true, false, cond}
use mathlib.Core.List.{List, [], ◌∷◌, ◌++◌, append-nil}
use Prim.Native.Nat.{ℕ, zero, suc, ◌+◌, ◌-◌, ◌^◌, ◌≤◌, ◌<◌}
use native.Mathlib.Omega.{arith}
use borrow.Author.Tests.{le-leb, lt-leb, leb-true, ne_eqb}
use lib.IntN.{ℤ, pos, negsuc, neg_ℤ, nat_abs}
use lib.Signed.{◌≤ℤ◌, ◌<ℤ◌, lt_z}
use lib.ListN.{length, set, take, drop, length-append, length-replicate, take-append-drop, drop_of_length-le}
use Rattle.numbers.proofs.Parts.{ints, pos_part, neg_part, parts_abs, test_lt, test_ge}
use Rattle.numbers.proofs.Tests.{by_test, is_true, is_false}
use Rattle.std.specs.declared.option.Option.{Option}
use Rattle.std.specs.Prelude.{Some, None}
use Rattle.columns.specs.Decimals.{blanks, digits, decimal, fits_in, pad, same, value_of, has_minus, candidate, field_of}
use Rattle.columns.specs.code.Parser.{is_digit, all_digits}
use Rattle.columns.proofs.Compare.{both, same_true, same_equal}
use Rattle.std.specs.Fmt.{decimal as printed}
use Rattle.std.proofs.lemmas.List.{take-replicate}
use Rattle.columns.proofs.Digits.{digits_printed, digit_range, all_digits_lem, value_digits, digits_below, digits_above, pow-pos}

-- ---- by sign

pub decimal_minus : {z : ℤ} → z <ℤ pos 0 → decimal z ≡ 45 ∷ digits (nat_abs z)
unfolding decimal
decimal_minus {z = pos n} h = absurd (omega ints)
decimal_minus {z = negsuc n} h = refl

pub decimal_plain : {z : ℤ} → pos 0 ≤ℤ z → decimal z ≡ digits (nat_abs z)
unfolding decimal
decimal_plain {z = pos n} h = refl
decimal_plain {z = negsuc n} h = absurd (omega ints)

-- ---- lengths

pub length_blanks : (k : ℕ) → length (blanks k) ≡ k
unfolding blanks
length_blanks k = length-replicate k 32

pub length_pad_of : (k : ℕ) (z : ℤ) → length (pad k z) ≡ (k - length (decimal z)) + length (decimal z)
unfolding pad
length_pad_of k z = length-append (blanks (k - length (decimal z))) (decimal z) ∙ ap (λ (j : ℕ). j + length (decimal z)) (length_blanks (k - length (decimal z)))

-- k columns, for a number that fits them
pub length_pad : (k : ℕ) (z : ℤ) → fits_in k z ≡ true → length (pad k z) ≡ k
unfolding fits_in
length_pad k z f = omega (arith, leb-true (length (decimal z)) k f, length_pad_of k z)

-- what fits k + 1 columns: a number below 10 ^ (k + 1), and with a minus one down to −(10 ^ k − 1)
pub fits_within : (k : ℕ) (z : ℤ) → 0 < k → pos_part z < 10 ^ suc k → neg_part z < 10 ^ k → fits_in (suc k) z ≡ true
unfolding fits_in decimal
fits_within k (pos n) p h g = le-leb (length (digits n)) (suc k) (digits_below (suc k) n (omega arith) h)
fits_within k (negsuc n) p h g = le-leb (suc (length (digits (suc n)))) (suc k) (omega (arith, digits_below k (suc n) p g))

-- and what does not
fits_past : (k : ℕ) (z : ℤ) → (10 ^ suc k ≤ pos_part z → fits_in (suc k) z ≡ false) × (10 ^ k ≤ neg_part z → fits_in (suc k) z ≡ false)
unfolding fits_in decimal
fits_past k (pos n) = (λ h. lt-leb (length (digits n)) (suc k) (digits_above (suc k) n h), λ h. absurd (omega (arith, pow-pos k)))
fits_past k (negsuc n) = (λ h. absurd (omega (arith, pow-pos (suc k))), λ h. lt-leb (suc (length (digits (suc n)))) (suc k) (omega (arith, digits_above k (suc n) h)))

-- eight columns, by the range
module _ (k : ℕ) (z : ℤ) (is : k ≡ 8) where
  pub eight_fit : negsuc 9999998 ≤ℤ z → z ≤ℤ pos 99999999 → true ≡ fits_in k z
  eight_fit l h = sym (ap (λ (j : ℕ). fits_in j z) is ∙ fits_within 7 z (omega arith) (omega (ints, h, parts_abs z)) (omega (ints, l, parts_abs z)))

  pub eight_low : z <ℤ negsuc 9999998 → false ≡ fits_in k z
  eight_low h = sym (ap (λ (j : ℕ). fits_in j z) is ∙ (fits_past 7 z).1 (omega (ints, h)))

  pub eight_high : pos 99999999 <ℤ z → false ≡ fits_in k z
  eight_high h = sym (ap (λ (j : ℕ). fits_in j z) is ∙ (fits_past 7 z).0 (omega (ints, h)))

-- ---- the candidate is the number that was written

no_minus : (bs : List ℕ) → all_digits bs ≡ true → has_minus bs ≡ false
unfolding all_digits has_minus
no_minus [] h = refl
no_minus (b ∷ bs) h =
    let t = both (is_digit b) (all_digits bs) h in
    let d = digit_range b t.0 in
    ap (λ (x : Bool). cond x true (has_minus bs)) (ne_eqb b 45 (λ e. omega arith)) ∙ no_minus bs t.1

pub digits_only : (n : ℕ) → all_digits (digits n) ≡ true
unfolding all_digits
digits_only n = ap all_digits (sym (append-nil (digits n))) ∙ all_digits_lem n []

digits_back : (n : ℕ) → value_of 0 (digits n) ≡ n
unfolding value_of
digits_back n = ap (value_of 0) (sym (append-nil (digits n))) ∙ value_digits n []

after_blanks : (k : ℕ) (s : List ℕ) → candidate (blanks k ++ s) ≡ candidate s
unfolding blanks candidate has_minus value_of
after_blanks zero s = refl
after_blanks (suc k) s = after_blanks k s

candidate_decimal : (z : ℤ) → candidate (decimal z) ≡ z
unfolding candidate decimal has_minus value_of
candidate_decimal (pos n) =
    ap (λ (t : Bool). cond t (neg_ℤ (pos (value_of 0 (digits n)))) (pos (value_of 0 (digits n)))) (no_minus (digits n) (digits_only n)) ∙ ap pos (digits_back n)
candidate_decimal (negsuc n) = ap (λ (v : ℕ). neg_ℤ (pos v)) (digits_back (suc n))

candidate_pad : (k : ℕ) (z : ℤ) → candidate (pad k z) ≡ z
unfolding pad
candidate_pad k z = after_blanks (k - length (decimal z)) (decimal z) ∙ candidate_decimal z

-- ---- a field is a number exactly if its bytes are that number's

pub bad_number : {z : ℤ} → None ≡ Some z → ⊥
bad_number e = let o : ◌≡◌ {A = ℕ} 0 1 = cc in omega arith

module _ (bs : List ℕ) where
  abbrev test : Bool
  test = same bs (pad (length bs) (candidate bs))

  pub field_written : (z : ℤ) → bs ≡ pad (length bs) z → field_of bs ≡ Some z
  unfolding field_of
  field_written z e =
      let c : candidate bs ≡ z = ap candidate e ∙ candidate_pad (length bs) z in
      ap (λ (t : Bool). cond t (Some (candidate bs)) None) (same_equal bs (pad (length bs) (candidate bs)) (e ∙ ap (pad (length bs)) (sym c)))
      ∙ ap Some c

  pub written_field : (z : ℤ) → field_of bs ≡ Some z → bs ≡ pad (length bs) z
  unfolding field_of
  written_field z =
      by_test test (λ t. cond t (Some (candidate bs)) None ≡ Some z → bs ≡ pad (length bs) z)
      (λ t e. same_true bs (pad (length bs) (candidate bs)) (is_true t) ∙ ap (pad (length bs)) (inside (candidate bs) e))
      (λ t e. absurd (bad_number e))
    where
      inside : (y : ℤ) → Some y ≡ Some z → y ≡ z
      inside y e = cc

-- reading undoes writing
pub read_back : (k : ℕ) (z : ℤ) → fits_in k z ≡ true → field_of (pad k z) ≡ Some z
read_back k z f = field_written (pad k z) z (ap (λ (j : ℕ). pad j z) (sym (length_pad k z f)))

-- what is read as a number fits its columns
pub number_fits : (bs : List ℕ) (z : ℤ) → field_of bs ≡ Some z → fits_in (length bs) z ≡ true
unfolding fits_in
number_fits bs z e = le-leb (length (decimal z)) (length bs) (omega (arith, ap length (written_field bs z e), length_pad_of (length bs) z))

-- a field is what is a number for the same bytes
pub field_is : (bs : List ℕ) (f : Option ℤ) → ((z : ℤ) → f ≡ Some z → bs ≡ pad (length bs) z) → ((z : ℤ) → bs ≡ pad (length bs) z → f ≡ Some z) → field_of bs ≡ f
field_is bs (Some z) there back = field_written bs z (there z refl)
field_is bs None there back = go (field_of bs) refl
  where
    go : (g : Option ℤ) → field_of bs ≡ g → field_of bs ≡ None
    go (Some z) e = e ∙ sym (back z (written_field bs z e))
    go None e = e

-- ---- written

pub fits_length : (k : ℕ) (z : ℤ) → fits_in k z ≡ true → length (decimal z) ≤ k
unfolding fits_in
fits_length k z h = leb-true (length (decimal z)) k h

minus_set : (m : ℕ) (s : List ℕ) → set (blanks (suc m) ++ s) m 45 ≡ blanks m ++ (45 ∷ s)
unfolding blanks
minus_set zero s = refl
minus_set (suc m) s = ap (λ (x : List ℕ). 32 ∷ x) (minus_set m s)

-- the digits of its magnitude n, written to the end of k blanks from index `first` on
module _ (k : ℕ) (z : ℤ) (n : ℕ) (is : n ≡ nat_abs z) (fit : n < 2 ^ 64) where
  same_digits : digits (nat_abs z) ≡ printed n
  same_digits = ap digits (sym is) ∙ digits_printed n fit

  plain_length : pos 0 ≤ℤ z → length (decimal z) ≡ length (printed n)
  plain_length h = ap length (decimal_plain h ∙ same_digits)

  minus_length : z <ℤ pos 0 → length (decimal z) ≡ suc (length (printed n))
  minus_length h = ap length (decimal_minus h ∙ ap (λ (x : List ℕ). 45 ∷ x) same_digits)

  pub digits_room : fits_in k z ≡ true → length (printed n) ≤ k
  digits_room f =
      by_test (lt_z z (pos 0)) (λ t. length (printed n) ≤ k) (λ t. omega (arith, fits_length k z f, minus_length (test_lt (is_true t))))
      (λ t. omega (arith, fits_length k z f, plain_length (test_ge (is_false t))))

  module _ (first : ℕ) (room : first + length (printed n) ≡ k) where
    pub minus_room : z <ℤ pos 0 → fits_in k z ≡ true → 1 ≤ first
    minus_room h f = omega (arith, room, fits_length k z f, minus_length h)

    module _ (b d : List ℕ) (blank : b ≡ blanks k) (back : drop first d ≡ printed n ++ drop k b) (front : take first d ≡ take first b) where
      whole : d ≡ blanks first ++ digits (nat_abs z)
      unfolding blanks
      whole =
          sym (take-append-drop first d)
          ∙ (λ i. (front ∙ ap (take first) blank ∙ take-replicate first k 32 (omega (arith, room))) i ++ back i)
          ∙ ap (λ (x : List ℕ). blanks first ++ (printed n ++ x)) (drop_of_length-le b {i = k} (omega (arith, ap length blank, length_blanks k)))
          ∙ ap (λ (x : List ℕ). blanks first ++ x) (append-nil (printed n) ∙ sym same_digits)

      pub whole_length : length d ≡ k
      whole_length = omega (arith, room, ap length whole, length-append (blanks first) (digits (nat_abs z)), length_blanks first, ap length same_digits)

      pub plain_put : pos 0 ≤ℤ z → d ≡ pad k z
      unfolding pad
      plain_put h = whole ∙ (λ i. blanks (start i) ++ sym (decimal_plain h) i)
        where
          start : first ≡ k - length (decimal z)
          start = omega (arith, room, plain_length h)

      -- and a minus before them
      pub minus_put : z <ℤ pos 0 → fits_in k z ≡ true → set d (first - 1) 45 ≡ pad k z
      unfolding pad
      minus_put h f =
          ap (λ (x : List ℕ). set x (first - 1) 45) (whole ∙ ap (λ (j : ℕ). blanks j ++ digits (nat_abs z)) one)
          ∙ minus_set (first - 1) (digits (nat_abs z))
          ∙ (λ i. blanks (start i) ++ sym (decimal_minus h) i)
        where
          one : first ≡ suc (first - 1)
          one = omega (arith, minus_room h f)

          start : first - 1 ≡ k - length (decimal z)
          start = omega (arith, room, minus_length h)
