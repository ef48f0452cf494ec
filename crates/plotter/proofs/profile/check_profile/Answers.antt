-- `check_profile`: by what asking for the figures gives.
use Rattle.std.proofs.Common.{◌∙◌, arith}
use Rattle.adjust.proofs.Holding.{sections_count}
use Rattle.rules.specs.LineState.{state_of}
use Rattle.plotter.proofs.Refused.{given_broken, given_open, given_short, given_none}
use Rattle.plotter.proofs.profile.check_profile.Goals as goal
use Rattle.plotter.proofs.profile.check_profile.Goals.{then-code-ne0-via-then-code-ne0, then-code-ne0-via-else-code-ne0+then-room-b}

pub returns-then-code-eq20 : goal.returns-then-code-eq20
returns-then-code-eq20 c = given_broken (state_of c.args.b.now) c.args.room (c.number_of-code.ensures ∙ c.check_figures.ensures) c.if-code-eq20.true

pub returns-then-code-ne0 : goal.returns-then-code-ne0
returns-then-code-ne0 c =
    let v = state_of c.args.b.now in
    let told = c.number_of-code.ensures ∙ c.check_figures.ensures in
    elim c.then-code-ne0.branch [
      | then-code-ne0-via-then-code-ne0 w ↦ given_open v c.args.room told c.if-code-eq20.false w.if-code-ne0.true
      | then-code-ne0-via-else-code-ne0+then-room-b w ↦ given_short v c.args.room told w.if-code-ne0.false (omega (arith, w.if-room-b.true, sections_count c.args.b.now.sections))
    ]

pub returns : goal.returns
returns c =
    given_none (state_of c.args.b.now) c.args.room (c.number_of-code.ensures ∙ c.check_figures.ensures) c.if-code-ne0.false
    (omega (arith, c.if-room-b.false, sections_count c.args.b.now.sections))
