-- The book of a text is that of the plain reading of its lines, so its warnings are those of the plain reading, and 20 is not met.
use mathlib.Core.Path.{◌≡◌, refl, sym, ap, ◌∙◌}
use mathlib.Core.Bool.{Bool, true, false, cond}
use mathlib.Core.List.{List, [], ◌∷◌, ◌++◌, map}
use Prim.Native.Nat.{ℕ, ◌≤◌, min}
use native.Mathlib.Omega.{arith}
use lib.ListN.{length, take, drop, length-take, length-append}
use lib.IntN.{ℤ, pos}
use Rattle.std.specs.Prelude.{Some, None}
use Rattle.std.specs.declared.option.Option.{Option}
use Rattle.std.proofs.lemmas.List.{take_min}
use Rattle.numbers.specs.Numbers.{written}
use Rattle.numbers.proofs.Filled.{filled_take}
use Rattle.numbers.proofs.Tables.{zero_cond, nonzero_cond}
use Rattle.records.specs.declared.Refusal.{Refusal}
use Rattle.records.specs.Refusals.{refusal_number}
use Rattle.records.proofs.Numbered.{not_zero}
use Rattle.textbook.specs.Text.{too_long, text_line}
use Rattle.textbook.proofs.Readings.{lines_kept, line_read}
use Rattle.fieldbook.specs.Report.{ref_line}
use Rattle.numbers.specs.Tables.{first_of}
use Rattle.numbers.proofs.Tests.{by_test, holds}
use Rattle.columns.specs.Texts.{lines, joined}
use Rattle.rules.specs.declared.Book.{Book}
use Rattle.rules.specs.declared.call.Call.TheVariants.{CloseLine as close_line}
use Rattle.rules.specs.LineState.{LineState, state_of}
use Rattle.ledger.proofs.Kept.{Kept, kept_unbroken}
use Rattle.textbook.specs.code.State.{text_state}
use Rattle.adjust.specs.Terms.{terms_by}
use Rattle.warnings.specs.declared.Drift.{Drift}
use Rattle.warnings.specs.Drift.{window_out, levelled_one_way, warning_tests, drift_refusal, firsts, drift_of}
use Rattle.warnings.specs.Text.{text_refusal, text_firsts, list_after, drift_title, drift_line, printed_for, printed_of}
use Rattle.warnings.specs.code.Listed.{numbers_small}
use Rattle.warnings.proofs.Found.{few_firsts, small_firsts}
use Rattle.warnings.proofs.Warned.{least_window}
use Rattle.warnings.proofs.Lines.{title_long, warnings_long, below_title}
use Rattle.fieldbook.proofs.Bytes.{ref_short}
use lib.Dec.{eqb, eqb→eq}

-- the tests without 20
pub number_kept : (v : LineState) (w : ℤ) → Kept v → drift_refusal v w ≡ first_of (warning_tests v w)
number_kept v w k = λ i. cond (window_out w) 51 (cond (kept_unbroken v k (close_line (pos 0) (pos 0)) i) 20 (cond (levelled_one_way v) 51 0))

-- ---- the number of a text

-- of one that is too long
pub too_long_refused : (text : List ℕ) (w : ℤ) (x : Refusal) → refusal_number x ≡ cond (too_long text) 9 0 → refusal_number x ≡ text_refusal text w
unfolding text_refusal
too_long_refused text w x =
    by_test (too_long text) (λ b. refusal_number x ≡ cond b 9 0 → refusal_number x ≡ first_of ((9, b) ∷ warning_tests (text_line text) w)) (λ b e. e)
    (λ b e. absurd (not_zero x e))

-- of one that is read
pub number_read : (text : List ℕ) (w : ℤ) {b : Book} → ◌≡◌ {A = ℕ} 0 (cond (too_long text) 9 0) → b ≡ (text_state (lines text)).book → drift_refusal (state_of b) w ≡ text_refusal text w
unfolding text_refusal
number_read text w e p =
    let later : List (ℕ × Bool) = warning_tests (text_line text) w in
    ap (λ (v : LineState). drift_refusal v w) (line_read text p) ∙ number_kept (text_line text) w (lines_kept (lines text))
    ∙ by_test (too_long text) (λ b. ◌≡◌ {A = ℕ} 0 (cond b 9 0) → first_of later ≡ first_of ((9, b) ∷ later)) (λ b k. absurd (omega (arith, k))) (λ b k. refl) e

pub firsts_read : (text : List ℕ) (w : ℤ) {b : Book} → b ≡ (text_state (lines text)).book → firsts (state_of b) w ≡ text_firsts text w
unfolding text_firsts
firsts_read text w p = ap (λ (v : LineState). firsts v w) (line_read text p)

-- ---- where nothing is refused

module _ (text : List ℕ) (w : ℤ) (taken : text_refusal text w ≡ 0) where
  window : window_out w ≡ false
  unfolding text_refusal
  window =
      by_test (too_long text) (λ a. first_of ((9, a) ∷ warning_tests (text_line text) w) ≡ 0 → window_out w ≡ false) (λ a e. absurd (omega (arith, e)))
      (λ a. by_test (window_out w) (λ b. first_of ((51, b) ∷ (51, levelled_one_way (text_line text)) ∷ []) ≡ 0 → b ≡ false) (λ b e. absurd (omega (arith, e))) (λ b e. refl)) taken

  pub text_few : length (text_firsts text w) ≤ 62
  unfolding text_firsts
  text_few =
      let v = text_line text in
      omega (arith, few_firsts (terms_by v.line.opening.staffs v.line.opening.class).apart _ (least_window w window) 1 v.sections, (lines_kept (lines text)).few)

  pub text_small : numbers_small (text_firsts text w)
  unfolding text_firsts
  text_small = let v = text_line text in small_firsts (terms_by v.line.opening.staffs v.line.opening.class).apart _ 1 v.sections (omega (arith, (lines_kept (lines text)).few))

  module _ {d : Drift} (held : d ≡ drift_of (text_firsts text w)) where
    pub taken_back : take d.count d.firsts ≡ text_firsts text w
    taken_back = (λ i. take (held i).count (held i).firsts) ∙ filled_take 0 62 (text_firsts text w) text_few

    -- as far as the lent list has places
    pub list_put : (old : List ℕ) {found : List ℕ} {places : ℕ} {new : List ℕ} → found ≡ take d.count d.firsts → places ≡ min (length found) (length old) → new ≡ take places found
        → new ++ drop places old ≡ list_after text w old
    list_put old {found} {places} l p q =
        let ks = text_firsts text w in
        let room = length old in
        let listed : found ≡ ks = l ∙ taken_back in
        let put : take places found ≡ take room ks = (λ i. take (p i) found) ∙ (λ i. take (min (length (listed i)) room) (listed i)) ∙ ap (λ (n : ℕ). take n ks) (omega arith) ∙ take_min room ks in
        let many : places ≡ length (take room ks) = omega (arith, p, ap length listed, length-take room ks) in
        (λ i. (q ∙ put) i ++ drop (many i) old) ∙ sym (zero_cond (text_refusal text w) (written ks old) old taken)

    pub printed : {found : List ℕ} → found ≡ take d.count d.firsts → joined (drift_title ∷ map drift_line found) ≡ printed_for text w
    printed l =
        ap (λ (ks : List ℕ). joined (drift_title ∷ map drift_line ks)) (l ∙ taken_back)
        ∙ sym (zero_cond (text_refusal text w) (joined (drift_title ∷ map drift_line (text_firsts text w))) (ref_line (record { line = 0; number = text_refusal text w })) taken)

-- ---- and where something is

pub refused : (text : List ℕ) (w : ℤ) (x : Refusal) {n : ℕ} → n ≡ refusal_number x → refusal_number x ≡ text_refusal text w → ref_line (record { line = 0; number = n }) ≡ printed_for text w
refused text w x number e =
    ap (λ (n : ℕ). ref_line (record { line = 0; number = n })) (number ∙ e)
    ∙ sym (nonzero_cond (text_refusal text w) (joined (drift_title ∷ map drift_line (text_firsts text w))) (ref_line (record { line = 0; number = text_refusal text w })) (λ z. not_zero x (e ∙ z)))

pub of_read : (input : List ℕ) (w : ℤ) {t : List ℕ} {r : Option ℕ} {n : ℕ} → r ≡ Some n → t ≡ take n input → printed_for t w ≡ printed_of input r w
of_read input w e p = ap (λ (t : List ℕ). printed_for t w) p ∙ ap (λ (r : Option ℕ). printed_of input r w) (sym e)

-- ---- what is printed has room

-- the title and 62 lines
pub printed_fits : (input : List ℕ) (read : Option ℕ) (w : ℤ) → length (printed_of input read w) ≤ 5292
printed_fits input None w = omega arith
printed_fits input (Some n) w = go (take n input)
  where
    by : (text : List ℕ) (b : Bool) → eqb (text_refusal text w) 0 ≡ b
        → length (cond b (joined (drift_title ∷ map drift_line (text_firsts text w))) (ref_line (record { line = 0; number = text_refusal text w }))) ≤ 5292
    by text true e =
        let taken = eqb→eq (text_refusal text w) 0 (holds e) in
        let ks = text_firsts text w in
        omega (arith, ap length (below_title ks), length-append drift_title (joined (map drift_line ks)), title_long, warnings_long ks (text_small text w taken), text_few text w taken)
    by text false e = omega (arith, ref_short (record { line = 0; number = text_refusal text w }))

    go : (text : List ℕ) → length (printed_for text w) ≤ 5292
    go text = by text (eqb (text_refusal text w) 0) refl
