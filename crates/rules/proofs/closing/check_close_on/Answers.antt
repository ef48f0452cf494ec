-- `check_close_on` makes the tests up to 34, and those of the line only where its figures fit.
use Rattle.std.proofs.Common.{◌≡◌, refl, sym, ap, ◌∙◌, Bool, not, cond, ◌&&◌, List, ℕ, eqb, ℤ, w64, rules}
use mir.Val.{SFits}
use Rattle.numbers.specs.Numbers.{eq_z}
use Rattle.numbers.specs.Tables.{first_of}
use Rattle.numbers.proofs.Machine.{stored, stored_id}
use Rattle.numbers.proofs.Tables.{first_append, nonzero_cond}
use Rattle.records.specs.Refusals.{refusal_number, number_of}
use Rattle.records.proofs.Numbered.{not_zero}
use Rattle.adjust.specs.declared.terms.Terms.{Terms}
use Rattle.adjust.specs.Terms.{terms_of}
use Rattle.rules.specs.LineState.{LineState, is_shut}
use Rattle.rules.specs.declared.call.Call.TheVariants.{CloseLine as close_line}
use Rattle.rules.specs.Rules.{close_tests, line_tests, state_tests}
use Rattle.rules.specs.code.Standing.{standing_of}
use Rattle.rules.proofs.closing.check_close_on.Goals as goal

module _ (v : LineState) (number end : ℤ) where
  abbrev unlike : Bool
  unlike = is_shut v && not (eq_z end v.line.opening.start.height)

  unlike_is : {u s : Bool} → u ≡ (s && not (eq_z (stored end) v.line.opening.start.height)) → s ≡ is_shut v → SFits w64 end → u ≡ unlike
  unlike_is e s f = e ∙ (λ i. s i && not (eq_z (stored_id f i) v.line.opening.start.height))

  -- the tests up to 34
  abbrev early : List (ℕ × Bool)
  early = close_tests v (not (terms_of v.line.opening.class).tied) number unlike

  -- as the code computes them
  tested : {n : ℕ} {t : Terms} {u : Bool} → n ≡ first_of (close_tests v (not t.tied) (stored number) u) → t ≡ terms_of v.line.opening.class → u ≡ unlike → SFits w64 number
      → n ≡ first_of early
  tested e t u f = e ∙ (λ i. first_of (close_tests v (not (t i).tied) (stored_id f i) (u i)))

  -- the number of all tests, by that of the early ones
  by_early : {n : ℕ} → n ≡ first_of early → first_of (state_tests v (close_line number end)) ≡ cond (eqb n 0) (first_of (line_tests v end)) n
  by_early e =
      let later = line_tests v end in
      first_append early later refl ∙ (λ i. cond (eqb (sym e i) 0) (first_of later) (sym e i))

pub returns-in_err-check_place : goal.returns-in_err-check_place
returns-in_err-check_place c =
    let v = standing_of c.args.standing.now in
    let refused = c.in_err-check_place.field-0.0 in
    let told : number_of c.from_residual.result ≡ refusal_number refused = search rules in
    let e = tested v c.args.number c.args.height c.in_err-check_place.ensures c.terms-other.ensures (unlike_is v c.args.number c.args.height c.is_unlike-unlike.ensures c.is_shut-shut.ensures c.ranges.height) c.ranges.number in
    told ∙ sym (by_early v c.args.number c.args.height e ∙ nonzero_cond (refusal_number refused) (first_of (line_tests v c.args.height)) (refusal_number refused) (not_zero refused))

pub returns : goal.returns
returns c =
    let v = standing_of c.args.standing.now in
    let e = tested v c.args.number c.args.height c.in_ok-check_place.ensures c.terms-other.ensures (unlike_is v c.args.number c.args.height c.is_unlike-unlike.ensures c.is_shut-shut.ensures c.ranges.height) c.ranges.number in
    c.check_line.ensures
    ∙ ap (λ (z : ℤ). first_of (line_tests v z)) (stored_id c.ranges.height)
    ∙ sym (by_early v c.args.number c.args.height e)
