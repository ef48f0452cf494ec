-- What the order and the instrument name, the refusal by both, and the answer in words; the root of each class is small.
use mathlib.Core.Path.{◌≡◌, refl, sym, ap, subst, ◌∙◌}
use mathlib.Core.Bool.{Bool, true, false, not, cond, ◌&&◌, ◌||◌}
use mathlib.Core.List.{List}
use Prim.Native.Nat.{ℕ, ◌≤◌}
use native.Mathlib.Omega.{arith}
use lib.IntN.{ℤ, pos}
use borrow.Author.Tests.{ne_eqb}
use Rattle.std.specs.Prelude.{Some, None, is_some, Ok, Err, IfOk}
use Rattle.std.specs.Option.{unwrap_or}
use Rattle.std.specs.declared.result.Result.{Result}
use Rattle.numbers.specs.Numbers.{eq_z}
use Rattle.numbers.specs.Tables.{Lowest}
use Rattle.numbers.proofs.Tests.{no_true}
use Rattle.numbers.proofs.Tables.{first_lowest}
use Rattle.records.specs.declared.Refusal.{Refusal}
use Rattle.records.specs.declared.Refusal.TheVariants.{OrderOrInstrument}
use Rattle.records.specs.Refusals.{refusal_number, number_of}
use Rattle.records.proofs.Numbered.{not_zero}
use Rattle.columns.specs.Ascii.{bytes_of}
use Rattle.station.specs.declared.Instrument.{Instrument}
use Rattle.adjust.specs.declared.terms.Class.{Class}
use Rattle.adjust.specs.declared.terms.Class.TheVariants.{Third, Fourth, Spur}
use Rattle.adjust.specs.Terms.{terms_of}
use Rattle.rules.specs.Rules.{instrument_of}
use Rattle.rules.specs.code.Opened.{instrument_named}
use Rattle.rules.proofs.Opened.{instrument}
use Rattle.repeat.specs.declared.Judgement.{Judgement}
use Rattle.repeat.specs.Repeat.{class_of, named, can_judge, judge_tests, judge_refusal, judgement, judgement_of, Judges, words, refused, printed, printed_of}

-- so its coefficient fits four times over
pub small_root : (k : Class) → (terms_of k).apart.b ≤ 18
small_root Third = omega arith
small_root Fourth = omega arith
small_root Spur = omega arith

-- ---- one of the two

some_chosen : {A : Type 0} (t : Bool) (a x : A) → Some x ≡ cond t (Some a) None → (t ≡ true) × (x ≡ a)
some_chosen true a x e = (refl, ap (λ o. unwrap_or o a) e)
some_chosen false a x e = no_true (sym (ap is_some e))

none_chosen : {A : Type 0} (t : Bool) (a : A) → None ≡ cond t (Some a) None → t ≡ false
none_chosen true a e = no_true (ap is_some e)
none_chosen false a e = refl

-- ---- both

abbrev ordered : ℤ → Bool
ordered o = eq_z o (pos 3) || eq_z o (pos 4)

abbrev equipped : ℤ → Bool
equipped z = eq_z z (pos 1) || eq_z z (pos 3)

module _ (first second : List ℕ) (order z g s : ℤ) where
  turned : (t : Bool) → ◌≡◌ {A = ℕ} (cond t 0 52) (cond (not t) 52 0)
  turned true = refl
  turned false = refl

  pub judges_named : (k : Class) (i : Instrument) (r : Result Judgement Refusal)
      → Some k ≡ cond (ordered order) (Some (class_of order)) None → Some i ≡ instrument_named z
      → number_of r ≡ cond (can_judge k i first second g s) 0 52 → IfOk r (λ (j : Judgement). j ≡ judgement k i first second g s)
      → Judges first second order z g s r
  unfolding judge_refusal
  judges_named k i r e f number given =
      let a = some_chosen (ordered order) (class_of order) k e in
      let b = some_chosen (equipped z) (instrument_of z) i (f ∙ instrument z) in
      record {
        number =
            number ∙ (λ h. cond (can_judge (a.1 h) (b.1 h) first second g s) 0 52)
            ∙ turned (can_judge (class_of order) (instrument_of z) first second g s)
            ∙ (λ h. cond (not (sym a.0 h && sym b.0 h)) 3 (cond (not (can_judge (class_of order) (instrument_of z) first second g s)) 52 0));
        given = subst (λ (x : Class × Instrument). IfOk r (λ (j : Judgement). j ≡ judgement x.0 x.1 first second g s)) (λ h. (a.1 h, b.1 h)) given;
      }

  not_named : named order z ≡ false → Judges first second order z g s (Err OrderOrInstrument)
  unfolding judge_refusal
  not_named e =
      record { number = λ h. cond (not (sym e h)) 3 (cond (not (can_judge (class_of order) (instrument_of z) first second g s)) 52 0); given = tt }

  pub judges_no_order : None ≡ cond (ordered order) (Some (class_of order)) None → Judges first second order z g s (Err OrderOrInstrument)
  judges_no_order e = not_named (ap (λ (t : Bool). t && equipped z) (none_chosen (ordered order) (class_of order) e))

  pub judges_no_instrument : None ≡ instrument_named z → Judges first second order z g s (Err OrderOrInstrument)
  judges_no_instrument e = not_named ((λ h. ordered order && none_chosen (equipped z) (instrument_of z) (e ∙ instrument z) h) ∙ and_false (ordered order))
    where
      and_false : (t : Bool) → t && false ≡ false
      and_false true = refl
      and_false false = refl

-- 3 before 52
pub judge_lowest : (first second : List ℕ) (order z g s : ℤ) → Lowest (λ n. n) (judge_tests first second order z g s) (judge_refusal first second order z g s)
unfolding judge_refusal
judge_lowest first second order z g s = first_lowest (λ n. n) (judge_tests first second order z g s) 0 refl

-- ---- of numbers as the machine reads them back

pub judges_at : {first second : List ℕ} {r : Result Judgement Refusal} {o p z y g h s t : ℤ} → o ≡ p → z ≡ y → g ≡ h → s ≡ t
    → Judges first second o z g s r → Judges first second p y h t r
judges_at {first} {second} {r} a b c d j =
    subst (λ (x : (ℤ × ℤ) × (ℤ × ℤ)). Judges first second x.0.0 x.0.1 x.1.0 x.1.1 r) (λ i. ((a i, b i), (c i, d i))) j

-- ---- in words

module _ {first second : List ℕ} {order z g s : ℤ} where
  pub words_judged : (j : Judgement) → Judges first second order z g s (Ok j) → bytes_of (words j) ≡ printed_of first second order z g s
  unfolding printed_of
  words_judged j h = λ i. bytes_of (printed (h.number i) (h.given i))

  pub words_refused : (e : Refusal) → Judges first second order z g s (Err e) → bytes_of (refused (refusal_number e)) ≡ printed_of first second order z g s
  unfolding printed_of
  words_refused e h =
      (λ i. bytes_of (cond (sym (ne_eqb (refusal_number e) 0 (not_zero e)) i) (words (judgement_of first second order z g s)) (refused (refusal_number e))))
      ∙ (λ i. bytes_of (printed (h.number i) (judgement_of first second order z g s)))
