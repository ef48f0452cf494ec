-- Where the figures fit there is a place for each section, and they are the formulas'.
use Rattle.std.proofs.Common.{◌≡◌, Some, ◌∙◌, rules, w64}
use mir.Val.{SFits}
use Rattle.numbers.proofs.Machine.{stored_id}
use Rattle.adjust.specs.Frames.{adjusted_of, line_figures}
use Rattle.rules.specs.LineState.{state_of}
use Rattle.book.specs.Calls.{closing_of}
use Rattle.book.proofs.Closable.{few, line_given}
use Rattle.book.proofs.calls.figures_that_fit.Goals as goal

pub returns : goal.returns
returns c =
    let b = c.args.b.now in
    let end : SFits w64 c.args.b.now.line.end = search rules in
    let shown : c.adjusted_line.result ≡ Some (adjusted_of (closing_of (state_of c.args.b.now))) =
    c.adjusted_line.ensures ∙ (λ i. line_figures b.line.opening (stored_id end i) b.line.sums (c.listed-sections.ensures.sections (few c.args.b.now c.requires) i)) ∙ line_given b c.requires in
    record { number = search (rules, shown); figures = search (rules, shown) }
