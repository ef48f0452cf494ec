-- `minus` takes off a section in range: each result fits, so that it is read back as it is.
use Rattle.std.proofs.Common.{◌≡◌, true, Some, None, cond, ◌&&◌, sym, ap, ◌∙◌, rules}
use Rattle.numbers.proofs.Chain.{fits}
use Rattle.adjust.specs.Sections.{section_fits}
use Rattle.adjust.specs.Kept.{sums_minus, sums_fit}
use Rattle.adjust.proofs.Kept.{minus_error, minus_stored}
use Rattle.adjust.proofs.SectionSums.minus.Goals as goal

pub overflow_sub-result-then-fits-2 : goal.overflow_sub-result-then-fits-2
overflow_sub-result-then-fits-2 c =
    let s : sums_fit c.args.self.now ≡ true = search rules in
    let x : section_fits c.args.x.now ≡ true = search rules in
    fits (minus_error c.args.opening.now c.args.self.now c.args.x.now s x c.error_of.ensures) tt

pub returns-then-fits : goal.returns-then-fits
returns-then-fits c =
    let s : sums_fit c.args.self.now ≡ true = search rules in
    let x : section_fits c.args.x.now ≡ true = search rules in
    ap Some (minus_stored c.args.opening.now c.args.self.now c.args.x.now s x c.error_of.ensures)
    ∙ (λ i. cond (sym s i && sym x i) (Some (sums_minus c.args.opening.now c.args.self.now c.args.x.now)) None)
