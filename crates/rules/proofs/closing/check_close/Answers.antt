-- `check_close` gives the input's number, else 20, else the state's number, of END or of FIN.
use Rattle.std.specs.declared.option.Option.{Option}
use Rattle.std.specs.Prelude.{Some, None}
use Rattle.std.proofs.Common.{◌≡◌, sym, ap, ◌∙◌, false, cond, ℕ, ℤ, w64, rules}
use mir.Val.{SFits}
use Rattle.numbers.specs.Tables.{first_of}
use Rattle.numbers.proofs.Machine.{stored_id}
use Rattle.rules.specs.LineState.{LineState, state_of}
use Rattle.rules.specs.code.Closed.{closing_on, close_input_tests}
use Rattle.rules.specs.declared.call.Call.TheVariants.{CloseLine as close_line, CloseSpur as close_spur}
use Rattle.rules.specs.Rules.{close_tests, all_broken, broken_in, input_tests, state_tests, book_refusal}
use Rattle.rules.specs.code.Standing.{standing_of}
use Rattle.rules.proofs.Parts.{state_told}
use Rattle.rules.proofs.closing.check_close.Goals as goal

-- the number of the state's tests: a closing reads all sections
told : (v w : LineState) (number : ℤ) (end : Option ℤ) {n : ℕ} → first_of (input_tests (closing_on number end)) ≡ 0 → ◌≡◌ {A = ℕ} 0 (cond (broken_in (all_broken v) v) 20 0) → w ≡ v
    → n ≡ first_of (state_tests w (closing_on number end)) → n ≡ book_refusal v (closing_on number end)
told v w number (Some end) e b s h = state_told v w (close_line number end) e b s h
told v w number None e b s h = state_told v w (close_spur number) e b s h

pub returns-in-Some : goal.returns-in-Some
returns-in-Some c =
    let a = c.args in
    let f : SFits w64 c.in-Some.height = search rules in
    told (state_of a.b.now) (standing_of c.in_ok-standing.standing) a.number a.end
    (sym (c.in_ok-check_input.ensures ∙ (λ i. first_of (close_input_tests (stored_id c.ranges.number i) a.end))))
    c.in_ok-standing.ensures.number c.in_ok-standing.ensures.state
    (c.check_close_on.ensures ∙ (λ i. first_of (state_tests (standing_of c.in_ok-standing.standing) (close_line (stored_id c.ranges.number i) (stored_id f i)))) ∙ ap (λ (e : Option ℤ). first_of (state_tests (standing_of c.in_ok-standing.standing) (closing_on a.number e))) (sym c.in-Some.is))

pub returns-in-None : goal.returns-in-None
returns-in-None c =
    let a = c.args in
    let v = standing_of c.in_ok-standing.standing in
    told (state_of a.b.now) v a.number a.end
    (sym (c.in_ok-check_input.ensures ∙ (λ i. first_of (close_input_tests (stored_id c.ranges.number i) a.end))))
    c.in_ok-standing.ensures.number c.in_ok-standing.ensures.state
    (c.check_place.ensures ∙ (λ i. first_of (close_tests v (c.terms-other.ensures i).tied (stored_id c.ranges.number i) false))
    ∙ ap (λ (e : Option ℤ). first_of (state_tests v (closing_on a.number e))) (sym c.in-None.is))
