-- `check_line` meets its contract: by the sums that are kept there are totals, and they are W and L of the sections.
use Rattle.std.specs.declared.option.Option.{Option}
use Rattle.std.specs.Prelude.{Some, None}
use Rattle.std.proofs.Common.{◌≡◌, ap, ◌∙◌, Bool, true, false, length, ℤ, w64, rules}
use mir.Val.{SFits}
use Rattle.numbers.specs.Tables.{first_of}
use Rattle.numbers.proofs.Tests.{no_true}
use Rattle.numbers.proofs.Machine.{stored, stored_both}
use Rattle.adjust.specs.declared.Opening.{Opening}
use Rattle.adjust.specs.declared.SectionSums.{SectionSums}
use Rattle.adjust.specs.declared.Totals.{Totals}
use Rattle.adjust.specs.Line.{units_of, totals}
use Rattle.adjust.specs.Sections.{height_in_range}
use Rattle.adjust.specs.Kept.{totals_from}
use Rattle.adjust.specs.Frames.{line_totals}
use Rattle.adjust.proofs.Kept.{summed_are}
use Rattle.adjust.proofs.Fitting.{totals_given}
use Rattle.rules.specs.LineState.{LineState, line_broken}
use Rattle.rules.specs.code.Standing.{standing_of}
use Rattle.rules.proofs.Unbroken.{unbroken}
use Rattle.rules.specs.Rules.{all_broken, total_tests}
use Rattle.rules.proofs.closing.check_line.Goals as goal

-- what the answer holds
abbrev held : Totals → Option Totals → Totals
held d (Some t) = t
held d None = d

abbrev some : Option Totals → Bool
some (Some t) = true
some None = false

module _ (v : LineState) (broken : line_broken v.line (length v.sections) ≡ false) (all : all_broken v ≡ false) (end : ℤ) (known : height_in_range end ≡ true) where
  abbrev o : Opening
  o = v.line.opening

  -- the sums that are kept are the sections'
  totalled : SFits w64 o.start.height → SFits w64 end
      → line_totals o.staffs (stored o.start.height) (stored end) v.line.sums ≡ Some (totals (units_of o.staffs) o.start.height end v.sections)
  totalled f g =
      let line = unbroken v.line (length v.sections) broken in
      stored_both (λ x y. line_totals o.staffs x y v.line.sums) f g
      ∙ totals_given o.staffs o.start.height end v.line.sums line.sums line.start known
      ∙ ap (λ (s : SectionSums). Some (totals_from (units_of o.staffs) o.start.height end s)) (summed_are o v.line.sums v.sections all)

pub returns-in-Some : goal.returns-in-Some
returns-in-Some c =
    let v = standing_of c.args.standing.now in
    let f : SFits w64 v.line.opening.start.height = search rules in
    let t = ap (held c.in-Some.t) (c.in-Some.ensures ∙ totalled v c.args.standing.now.unbroken c.requires.sums c.args.end c.requires.end f c.ranges.end) in
    c.check_totals.ensures ∙ (λ i. first_of (total_tests (c.terms.ensures i) (c.requires.shut i) (t i)))

pub returns-in-None : goal.returns-in-None
returns-in-None c =
    let v = standing_of c.args.standing.now in
    let f : SFits w64 v.line.opening.start.height = search rules in
    no_true (ap some (c.in-None.ensures ∙ totalled v c.args.standing.now.unbroken c.requires.sums c.args.end c.requires.end f c.ranges.end))
