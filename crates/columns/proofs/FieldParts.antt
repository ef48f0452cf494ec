-- How a field is parsed: blanks, then a minus or none, then digits with no leading zero and no −0 are exactly the fields that are numbers.
use mathlib.Core.Path.{◌≡◌, refl, sym, ap, ◌∙◌}
use mathlib.Core.Bool.{Bool, true, false, cond}
use mathlib.Core.List.{List, [], ◌∷◌, ◌++◌}
use Prim.Native.Nat.{ℕ, zero, suc, ◌+◌, ◌-◌, ◌*◌, ◌%◌, ◌≤◌, ◌<◌}
use native.Mathlib.Omega.{arith}
use lib.IntN.{ℤ, pos, negsuc}
use lib.ListN.{length, take, drop, get_or}
use Rattle.numbers.proofs.Tests.{by_test, is_true, is_false, not_both}
use Rattle.std.specs.declared.option.Option.{Option}
use Rattle.std.specs.Prelude.{Some, None}
use Rattle.columns.specs.Decimals.{blanks, digits, digits_by, decimal, pad, same, value_of, has_minus, candidate, field_of}
use Rattle.columns.specs.code.Parser.{is_digit, all_digits, digit_run, natural_of, negated}
use Rattle.columns.proofs.Lists.{part_rest}
use Rattle.columns.proofs.Compare.{both}
use Rattle.columns.proofs.Digits.{first_digit, digits_small, digits_value, digit_range}
use Rattle.columns.proofs.Fields.{digits_only, length_pad_of, bad_number, field_written, written_field, field_is}

-- ---- the first byte of a number

decimal_first : (z : ℤ) (b : ℕ) (r : List ℕ) → b ∷ r ≡ decimal z → b ≡ 32 → ⊥
unfolding decimal
decimal_first (pos n) b r e h = let f = first_digit n in let s : b ≡ f.head = cc in omega arith
decimal_first (negsuc n) b r e h = let s : b ≡ 45 = cc in omega arith

-- a field that begins with another byte than a blank is a number whole
pad_exact : (k : ℕ) (z : ℤ) (b : ℕ) (r : List ℕ) → (b ≡ 32 → ⊥) → b ∷ r ≡ pad k z → b ∷ r ≡ decimal z
unfolding pad blanks
pad_exact k z b r h = go (k - length (decimal z))
  where
    go : (j : ℕ) → b ∷ r ≡ blanks j ++ decimal z → b ∷ r ≡ decimal z
    go zero e = e
    go (suc j) e = absurd (h cc)

exact_pad : (z : ℤ) (s : List ℕ) → s ≡ decimal z → s ≡ pad (length s) z
unfolding pad blanks
exact_pad z s e = e ∙ ap (λ (j : ℕ). blanks j ++ decimal z) (none (length s) (length (decimal z)) (ap length e))
  where
    none : (a b : ℕ) → a ≡ b → 0 ≡ a - b
    none a b h = omega arith

-- ---- blanks, and a minus

-- a blank before a field changes nothing
blank_more : (z : ℤ) (r : List ℕ) → r ≡ pad (length r) z → 32 ∷ r ≡ pad (suc (length r)) z
unfolding pad blanks
blank_more z r e = ap (λ (x : List ℕ). 32 ∷ x) e ∙ ap (λ (j : ℕ). blanks j ++ decimal z) (one (length r) (length (decimal z)) (omega (arith, ap length e, length_pad_of (length r) z)))
  where
    one : (k l : ℕ) → l ≤ k → suc (k - l) ≡ suc k - l
    one k l h = omega arith

blank_less : (z : ℤ) (r : List ℕ) → 32 ∷ r ≡ pad (suc (length r)) z → r ≡ pad (length r) z
unfolding pad blanks
blank_less z r = go (suc (length r) - length (decimal z)) refl
  where
    go : (j : ℕ) → suc (length r) - length (decimal z) ≡ j → 32 ∷ r ≡ blanks j ++ decimal z → r ≡ blanks (length r - length (decimal z)) ++ decimal z
    go zero q e = absurd (decimal_first z 32 r e refl)
    go (suc j) q e =
        let t : r ≡ blanks j ++ decimal z = cc in
        let k : j ≡ length r - length (decimal z) = omega arith in
        t ∙ ap (λ (x : ℕ). blanks x ++ decimal z) k

pub field_blank : (r : List ℕ) → field_of (32 ∷ r) ≡ field_of r
field_blank r =
    field_is (32 ∷ r) (field_of r) (λ z e. blank_more z r (written_field r z e)) (λ z e. field_written r z (blank_less z r e))

-- digits are a number where they are its digits
digits_field : (n : ℕ) (r : List ℕ) → r ≡ digits n → natural_of r ≡ Some (pos n)
unfolding natural_of decimal
digits_field n r e =
    ap (λ (t : Bool). cond t (field_of r) None) (ap all_digits e ∙ digits_only n) ∙ field_written r (pos n) (exact_pad (pos n) r e)

field_digits : (z : ℤ) (r : List ℕ) → natural_of r ≡ Some z → r ≡ decimal z
unfolding natural_of all_digits pad blanks
field_digits z [] e = written_field [] z e ∙ ap (λ (j : ℕ). blanks j ++ decimal z) (none (length (decimal z)))
  where
    none : (l : ℕ) → 0 - l ≡ 0
    none l = omega arith
field_digits z (b ∷ r) e =
    by_test (all_digits (b ∷ r)) (λ t. cond t (field_of (b ∷ r)) None ≡ Some z → b ∷ r ≡ decimal z)
    (λ t f.
    let d = digit_range b (both (is_digit b) (all_digits r) (is_true t)).0 in
    pad_exact (length (b ∷ r)) z b r (λ q. omega arith) (written_field (b ∷ r) z f))
    (λ t f. absurd (bad_number f)) e

pub field_minus : (r : List ℕ) → field_of (45 ∷ r) ≡ negated (natural_of r)
unfolding negated decimal
field_minus r =
    field_is (45 ∷ r) (negated (natural_of r)) (λ z e. exact_pad z (45 ∷ r) (there z (natural_of r) refl e))
    (λ z e. back z (pad_exact (length (45 ∷ r)) z 45 r (λ q. omega arith) e))
  where
    there : (z : ℤ) (f : Option ℤ) → natural_of r ≡ f → negated f ≡ Some z → 45 ∷ r ≡ decimal z
    there z (Some (pos zero)) q e = absurd (bad_number e)
    there z (Some (pos (suc n))) q e =
        let s : negsuc n ≡ z = cc in
        ap (λ (x : List ℕ). 45 ∷ x) (field_digits (pos (suc n)) r q) ∙ ap decimal s
    there z (Some (negsuc n)) q e = absurd (bad_number e)
    there z None q e = absurd (bad_number e)

    back : (z : ℤ) → 45 ∷ r ≡ decimal z → negated (natural_of r) ≡ Some z
    back (pos n) e = let f = first_digit n in let s : 45 ≡ f.head = cc in absurd (omega arith)
    back (negsuc n) e = let s : r ≡ digits (suc n) = cc in ap negated (digits_field (suc n) r s)

pub field_other : (b : ℕ) (r : List ℕ) → (b ≡ 32 → ⊥) → (b ≡ 45 → ⊥) → field_of (b ∷ r) ≡ natural_of (b ∷ r)
unfolding natural_of decimal
field_other b r h k =
    by_test (all_digits (b ∷ r)) (λ t. field_of (b ∷ r) ≡ cond t (field_of (b ∷ r)) None) (λ t. refl)
    (λ t. field_is (b ∷ r) None (λ z e. absurd (bad_number e)) (λ z e. absurd (none z (is_false t) (pad_exact (length (b ∷ r)) z b r h e))))
  where
    none : (z : ℤ) → all_digits (b ∷ r) ≡ false → b ∷ r ≡ decimal z → ⊥
    none (pos n) t e = not_both (ap all_digits e ∙ digits_only n) t
    none (negsuc n) t e = k cc

-- ---- digits

pub field_empty : field_of [] ≡ None
unfolding field_of candidate has_minus value_of pad decimal digits digits_by blanks same
field_empty = refl

pub natural_empty : (bs : List ℕ) → length bs ≡ 0 → natural_of bs ≡ None
unfolding natural_of all_digits
natural_empty [] h = field_empty
natural_empty (b ∷ bs) h = absurd (omega arith)

leading_zero : (c : ℕ) (r : List ℕ) → natural_of (48 ∷ c ∷ r) ≡ None
unfolding decimal
leading_zero c r = go (natural_of (48 ∷ c ∷ r)) refl
  where
    none : (z : ℤ) → 48 ∷ c ∷ r ≡ decimal z → ⊥
    none (pos zero) e = omega (arith, ap length (e ∙ digits_small 0 (omega arith)))
    none (pos (suc n)) e = let f = first_digit (suc n) in let s : 48 ≡ f.head = cc in omega (arith, f.nonzero (omega arith))
    none (negsuc n) e = let s : ◌≡◌ {A = ℕ} 48 45 = cc in omega arith

    go : (f : Option ℤ) → natural_of (48 ∷ c ∷ r) ≡ f → natural_of (48 ∷ c ∷ r) ≡ None
    go (Some z) e = absurd (none z (field_digits z (48 ∷ c ∷ r) e))
    go None e = e

pub natural_zero : (bs : List ℕ) → 1 < length bs → get_or bs 0 0 ≡ 48 → natural_of bs ≡ None
natural_zero [] h e = absurd (omega arith)
natural_zero (b ∷ []) h e = absurd (omega arith)
natural_zero (b ∷ c ∷ r) h e = ap (λ (x : ℕ). natural_of (x ∷ c ∷ r)) e ∙ leading_zero c r

-- other digits are their number's
run_is : (bs : List ℕ) → (all_digits bs ≡ true → bs ≡ digits (value_of 0 bs)) → natural_of bs ≡ digit_run bs
unfolding natural_of digit_run decimal
run_is bs h =
    by_test (all_digits bs) (λ t. cond t (field_of bs) None ≡ cond t (Some (pos (value_of 0 bs))) None)
    (λ t. field_written bs (pos (value_of 0 bs)) (exact_pad (pos (value_of 0 bs)) bs (h (is_true t)))) (λ t. refl)

digit_is : (b : ℕ) → is_digit b ≡ true → digits (10 * 0 + (b - 48)) ≡ b ∷ []
digit_is b t =
    let d = digit_range b t in
    digits_small (10 * 0 + (b - 48)) (omega arith) ∙ ap (λ (x : ℕ). x ∷ []) (whole b d.0 d.1)
  where
    whole : (b : ℕ) → 48 ≤ b → b ≤ 57 → 48 + (10 * 0 + (b - 48)) % 10 ≡ b
    whole b l h = omega arith

pub natural_one : (bs : List ℕ) → length bs ≡ 1 → natural_of bs ≡ digit_run bs
unfolding all_digits value_of
natural_one [] h = absurd (omega arith)
natural_one (b ∷ []) h = run_is (b ∷ []) (λ h. sym (digit_is b (both (is_digit b) true h).0))
natural_one (b ∷ c ∷ r) h = absurd (omega arith)

pub natural_more : (bs : List ℕ) → 0 < length bs → (get_or bs 0 0 ≡ 48 → ⊥) → natural_of bs ≡ digit_run bs
unfolding all_digits value_of
natural_more [] h k = absurd (omega arith)
natural_more (b ∷ r) h k =
    run_is (b ∷ r)
    (λ h.
    let t = both (is_digit b) (all_digits r) h in
    let d = digit_range b t.0 in
    sym (digits_value (10 * 0 + (b - 48)) r (omega (arith, k)) t.1 ∙ ap (λ (x : List ℕ). x ++ r) (digit_is b t.0)))

-- ---- a field by its first byte, with `&bs[1..]` as the code takes it

pub field_skip : (bs : List ℕ) → 1 ≤ length bs → get_or bs 0 0 ≡ 32 → field_of (take (length bs - 1) (drop 1 bs)) ≡ field_of bs
field_skip [] h e = absurd (omega arith)
field_skip (b ∷ r) h e = ap field_of (part_rest (b ∷ r) 1) ∙ sym (ap (λ (x : ℕ). field_of (x ∷ r)) e ∙ field_blank r)

pub field_first_minus : (bs : List ℕ) → 1 ≤ length bs → get_or bs 0 0 ≡ 45 → field_of bs ≡ negated (natural_of (take (length bs - 1) (drop 1 bs)))
field_first_minus [] h e = absurd (omega arith)
field_first_minus (b ∷ r) h e =
    ap (λ (x : ℕ). field_of (x ∷ r)) e ∙ field_minus r ∙ ap (λ (x : List ℕ). negated (natural_of x)) (sym (part_rest (b ∷ r) 1))

pub field_first_other : (bs : List ℕ) → 1 ≤ length bs → (get_or bs 0 0 ≡ 32 → ⊥) → (get_or bs 0 0 ≡ 45 → ⊥) → field_of bs ≡ natural_of bs
field_first_other [] h k e = absurd (omega arith)
field_first_other (b ∷ r) h k e = field_other b r k e

pub field_none : (bs : List ℕ) → length bs < 1 → field_of bs ≡ natural_of bs
field_none [] h = field_empty ∙ sym (natural_empty [] refl)
field_none (b ∷ r) h = absurd (omega arith)
