-- A refusal by its parts: the input's number, else 20, else the state's number. First of any two tables with 20 between them, then of a call's; and the
-- input's number where the one test is that of a benchmark's.
use mathlib.Core.Path.{◌≡◌, refl, sym, ap, ◌∙◌}
use mathlib.Core.Bool.{Bool, true, false, not, cond}
use mathlib.Core.List.{List, [], ◌∷◌, ◌++◌}
use Prim.Native.Nat.{ℕ}
use native.Mathlib.Omega.{arith}
use borrow.Author.Tests.{ne_eqb}
use lib.Dec.{eqb}
use lib.IntN.{ℤ}
use mir.Syntax.{w64}
use mir.Val.{SFits}
use Rattle.numbers.proofs.Machine.{stored, stored_id}
use Rattle.numbers.specs.Tables.{first_of}
use Rattle.numbers.proofs.Tables.{numbered, first_append}
use Rattle.rules.specs.LineState.{LineState}
use Rattle.rules.specs.declared.call.Call.{Call}
use Rattle.rules.specs.Rules.{broken, number_in_range, input_tests, state_tests, book_refusal}
use Rattle.rules.proofs.Tables.{tables}

module _ (is ss : List (ℕ × Bool)) (twenty : Bool) (numbers : numbered is ≡ true) where
  by_parts : (input : ℕ) (none broke : Bool) (state : ℕ) → first_of is ≡ input → eqb input 0 ≡ none → twenty ≡ broke → first_of ss ≡ state
      → first_of (is ++ ((20, twenty) ∷ ss)) ≡ cond none (cond broke 20 state) input
  by_parts input none broke state e z k s =
      first_append is ((20, twenty) ∷ ss) numbers
      ∙ (λ i. cond (eqb (e i) 0) (cond (k i) 20 (s i)) (e i)) ∙ ap (λ (t : Bool). cond t (cond broke 20 state) input) z

  pub first_input : (n : ℕ) → n ≡ first_of is → (n ≡ 0 → ⊥) → n ≡ first_of (is ++ ((20, twenty) ∷ ss))
  first_input n e f = sym (by_parts n false twenty (first_of ss) (sym e) (ne_eqb n 0 f) refl refl)

  pub first_broken : first_of is ≡ 0 → twenty ≡ true → 20 ≡ first_of (is ++ ((20, twenty) ∷ ss))
  first_broken e k = sym (by_parts 0 true true (first_of ss) e refl k refl)

  pub first_state : (n : ℕ) → first_of is ≡ 0 → twenty ≡ false → n ≡ first_of ss → n ≡ first_of (is ++ ((20, twenty) ∷ ss))
  first_state n e k s = sym (by_parts 0 true false n e refl k (sym s))

  first_later : (n : ℕ) → first_of is ≡ 0 → n ≡ first_of ((20, twenty) ∷ ss) → n ≡ first_of (is ++ ((20, twenty) ∷ ss))
  first_later n e s = s ∙ sym (by_parts 0 true twenty (first_of ss) e refl refl refl)

module _ (v : LineState) (c : Call) where
  pub input_refused : (n : ℕ) → n ≡ first_of (input_tests c) → (n ≡ 0 → ⊥) → n ≡ book_refusal v c
  unfolding book_refusal
  input_refused = first_input (input_tests c) (state_tests v c) (broken v c) (tables v c).inputs

  pub broken_refused : first_of (input_tests c) ≡ 0 → broken v c ≡ true → 20 ≡ book_refusal v c
  unfolding book_refusal
  broken_refused = first_broken (input_tests c) (state_tests v c) (broken v c) (tables v c).inputs

  pub state_refused : (n : ℕ) → first_of (input_tests c) ≡ 0 → broken v c ≡ false → n ≡ first_of (state_tests v c) → n ≡ book_refusal v c
  unfolding book_refusal
  state_refused = first_state (input_tests c) (state_tests v c) (broken v c) (tables v c).inputs

  -- both of these, where the input was tested before
  pub later_refused : (n : ℕ) → first_of (input_tests c) ≡ 0 → n ≡ first_of ((20, broken v c) ∷ state_tests v c) → n ≡ book_refusal v c
  unfolding book_refusal
  later_refused = first_later (input_tests c) (state_tests v c) (broken v c) (tables v c).inputs

-- the same of tests that the code makes of a state that is v's
pub state_told : (v w : LineState) (c : Call) {n : ℕ} → first_of (input_tests c) ≡ 0 → ◌≡◌ {A = ℕ} 0 (cond (broken v c) 20 0) → w ≡ v → n ≡ first_of (state_tests w c) → n ≡ book_refusal v c
state_told v w c {n} e b s h = state_refused v c n e (zero_false (broken v c) b) (h ∙ (λ i. first_of (state_tests (s i) c)))
  where
    zero_false : (t : Bool) → ◌≡◌ {A = ℕ} 0 (cond t 20 0) → t ≡ false
    zero_false true k = absurd (omega (arith, k))
    zero_false false k = refl

-- the code's test is made of the number as it is stored
pub number_refused : (n : ℤ) {r t : Bool} → SFits w64 n → r ≡ number_in_range (stored n) → r ≡ t → first_of ((4, not (number_in_range n)) ∷ []) ≡ cond (not t) 4 0
number_refused n f e g = ap (λ (b : Bool). cond (not b) 4 0) (sym (e ∙ ap number_in_range (stored_id f)) ∙ g)
