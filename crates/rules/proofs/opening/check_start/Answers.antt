-- `check_start` gives the book's number where no test of the start and of the print unit holds.
use Rattle.std.proofs.Common.{◌≡◌, sym, ◌∙◌, false, not, cond, rules}
use Rattle.numbers.specs.Tables.{first_of}
use Rattle.records.specs.Refusals.{refusal_number, number_of}
use Rattle.adjust.specs.Sections.{height_in_range}
use Rattle.adjust.specs.Prints.{prints_allowed}
use Rattle.rules.specs.LineState.{state_of}
use Rattle.rules.specs.Rules.{number_in_range}
use Rattle.rules.specs.code.Opened.{fresh_tests}
use Rattle.rules.proofs.opening.check_start.Goals as goal

pub returns-in_err-check_fresh-clause-number : goal.returns-in_err-check_fresh-clause-number
returns-in_err-check_fresh-clause-number c =
    let e = c.in_err-check_fresh.field-0.0 in
    let told : number_of c.from_residual-in_err-check_fresh.result ≡ refusal_number e = search rules in
    let number : not (number_in_range c.args.number) ≡ false = search rules in
    let height : not (height_in_range c.args.height) ≡ false = search rules in
    let prints : not (prints_allowed c.args.prints) ≡ false = search rules in
    let book = first_of (fresh_tests (state_of c.args.b.now)) in
    told ∙ c.in_err-check_fresh.ensures ∙ sym (λ i. cond (number i) 4 (cond (height i) 5 (cond (prints i) 57 book)))
