-- `check_collimation` gives the range's number or 20 where one of these is handed on: told of any tests in their places.
use Rattle.std.proofs.Common.{◌≡◌, ◌∙◌, Bool, true, false, not, cond, ◌||◌, ℕ, rules, arith}
use Rattle.records.specs.declared.Refusal.{Refusal}
use Rattle.records.specs.Refusals.{refusal_number, number_of}
use Rattle.rules.specs.Rules.{book_refusal}
use Rattle.rules.proofs.refusals.check_collimation.Goals as goal

-- in range, broken, open, tested before, within the angle
abbrev table : Bool → Bool → Bool → Bool → Bool → ℕ
table range broken live tested within = cond (not range) 44 (cond broken 20 (cond (not live) 21 (cond (tested || not within) 45 0)))

outside : (e : Refusal) (range k s t w : Bool) → refusal_number e ≡ cond (not range) 44 0 → refusal_number e ≡ table range k s t w
outside e false k s t w h = h
outside e true k s t w h = grind arith

broke : (e : Refusal) (range k s t w : Bool) → ◌≡◌ {A = ℕ} 0 (cond (not range) 44 0) → refusal_number e ≡ cond k 20 0 → refusal_number e ≡ table range k s t w
broke e false k s t w r h = absurd (omega (arith, r))
broke e true true s t w r h = h
broke e true false s t w r h = grind arith

pub returns-in_err-check_range : goal.returns-in_err-check_range
unfolding book_refusal
returns-in_err-check_range c =
    let e = c.in_err-check_range.field-0.0 in
    let told : number_of c.from_residual.result ≡ refusal_number e = search rules in
    told ∙ outside e _ _ _ _ _ c.in_err-check_range.ensures

pub returns-in_err-line : goal.returns-in_err-line
unfolding book_refusal
returns-in_err-line c =
    let e = c.in_err-line.field-0.0 in
    let told : number_of c.from_residual-in_err-line.result ≡ refusal_number e = search rules in
    told ∙ broke e _ _ _ _ _ c.in_ok-check_range.ensures c.in_err-line.ensures.number
