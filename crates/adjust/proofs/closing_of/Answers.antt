-- `closing_of`: the frame is the line's, since the sums that it keeps are the sections', and what is answered follows from these, the verdict and the points.
use Rattle.std.proofs.Common.{◌≡◌, List, length, sym, ap, ◌∙◌, ◌*◌, ◌≤◌, rules, arith}
use mathlib.Core.Path.{subst}
use lib.IntN.{◌*ℤ◌, nat_abs}
use mir.Syntax.{w64}
use mir.Val.{SFits}
use Rattle.numbers.specs.Numbers.{filled}
use Rattle.numbers.proofs.Machine.{stored, stored_id}
use Rattle.numbers.proofs.Chain.{Value, known, mul, fits, kept}
use Rattle.adjust.specs.declared.Section.{Section}
use Rattle.adjust.specs.declared.SectionSums.{SectionSums}
use Rattle.adjust.specs.declared.Frame.{Frame}
use Rattle.station.specs.declared.Staffs.TheVariants.{Nominal}
use Rattle.adjust.specs.declared.terms.Terms.{Terms}
use Rattle.adjust.specs.Sizes.{most_units, most_prints, most_allowed, most_w}
use Rattle.adjust.specs.Terms.{terms_of}
use Rattle.adjust.specs.Line.{units_of, closure_by, totals_by, frame, line_frame, points, verdict}
use Rattle.adjust.specs.Kept.{totals_from}
use Rattle.adjust.specs.Frames.{no_point}
use Rattle.adjust.specs.code.Bounds.{OneTo, Framed}
use Rattle.adjust.proofs.Classes.{row}
use Rattle.adjust.proofs.Sized.{between_sizes, units_in, framed, framed_by, prints_in}
use Rattle.adjust.proofs.closing_of.Goals as goal
use Rattle.adjust.proofs.closing_of.Goals.{After-new-f}

module _ (c : After-new-f) where
  abbrev ss : List Section
  ss = c.args.sections.now

  abbrev line : Frame
  line = line_frame c.args.opening.now c.args.end ss

  framed_line : Framed line
  framed_line = framed_by (terms_of c.args.opening.now.class) (framed (units_in c.args.opening.now.staffs) (prints_in c.args.opening.now.print_unit) c.requires.0)

  frame_is : c.new-f.result ≡ line
  frame_is =
      let start : SFits w64 c.args.opening.now.start.height = search rules in
      let u : SFits w64 c.units_of-units.result = search rules in
      let p : SFits w64 c.prints.result = search rules in
      let h = stored_id start in
      let prints = stored_id p ∙ c.prints.ensures in
      let units = stored_id u ∙ c.units_of-units.ensures in
      let q : SFits w64 c.args.kept.now.height = search rules in
      let d : SFits w64 c.args.kept.now.distance = search rules in
      let ends = c.totals_from.ensures ∙ (λ i. record { closure = closure_by (units i) (h i) (stored_id c.ranges.end i) (stored_id q i); distance = stored_id d i })
      ∙ ap (totals_from (units_of c.args.opening.now.staffs) c.args.opening.now.start.height c.args.end) c.requires.1 in
      c.new-f.ensures ∙ (λ i. frame (units i) (prints i) (h i) ((c.totals_by-t.ensures ∙ (λ j. totals_by (c.terms-terms.ensures j) (ends j))) i))

pub totals_from-requires : goal.totals_from-requires
totals_from-requires c =
    let o = c.args.opening.now in
    let start : SFits w64 o.start.height = search rules in
    let u : SFits w64 c.units_of-units.result = search rules in
    let q : SFits w64 c.args.kept.now.height = search rules in
    between_sizes (subst (OneTo most_units) (sym (stored_id u ∙ c.units_of-units.ensures)) (units_in o.staffs)) c.requires.0 start c.ranges.end q
    (ap (λ (k : SectionSums). k.height) c.requires.1)

pub verdict_of-requires : goal.verdict_of-requires
verdict_of-requires c =
    let allowed : nat_abs c.terms-terms.result.accidental ≤ most_allowed =
    omega (arith, ap (λ (t : Terms). nat_abs t.accidental) c.terms-terms.ensures, (row Nominal c.args.opening.now.class).accidental) in
    (c.requires.0.fits.few, allowed)

pub points-requires : goal.points-requires
points-requires c =
    let f = (goal.at.points-requires c).After-new-f in
    (subst Framed (sym (frame_is f)) (framed_line f), c.requires.0.fits, ap (λ (x : Frame). x.total) (frame_is f))

-- W as printed
printed : (f : Frame) → Framed f → Value (stored f.prints *ℤ stored f.closure) (f.prints *ℤ f.closure) (most_prints * most_w)
printed f h = mul (known f.prints h.prints.most tt) (known f.closure h.closure tt)

pub overflow_mul-summary : goal.overflow_mul-summary
overflow_mul-summary c = let f = (goal.at.overflow_mul-summary c).After-new-f in fits (printed c.new-f.result (subst Framed (sym (frame_is f)) (framed_line f))) tt

pub returns : goal.returns
returns c =
    let f = (goal.at.returns c).After-new-f in
    let e = frame_is f in
    let m = c.terms-terms.ensures in
    let number : SFits w64 c.args.opening.now.start.number = search rules in
    let w = (kept (printed c.new-f.result (subst Framed (sym e) (framed_line f))) tt).is ∙ (λ i. (e i).prints *ℤ (e i).closure) in
    let l = ap (λ (x : Frame). stored x.total) e ∙ (known (line f).total (framed_line f).total.most tt).is in
    let tf : SFits w64 c.args.kept.now.accidental = search rules in
    let t = stored_id tf ∙ ap (λ (k : SectionSums). k.accidental) c.requires.1 in
    let judged = c.verdict_of.ensures ∙ (λ i. verdict (m i) (length (ss f)) (t i)) in
    let shown = c.points.ensures ∙ (λ i. filled no_point 65 (points (e i) (stored_id number i) (ss f))) in
    λ i. record { summary = record { closure = w i; distance = l i; count = length (ss f); accidental = t i; verdict = judged i }; points = shown i }
