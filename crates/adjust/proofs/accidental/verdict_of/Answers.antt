-- `verdict_of`: what is allowed of T fits, so the machine's test of T is the plain one.
use Rattle.std.proofs.Common.{◌≡◌, ℕ, ◌≤◌, Bool, false, cond, ◌||◌, ltb, sym, ◌∙◌, rules}
use mathlib.Core.Bool.{not}
use lib.IntN.{ℤ, nat_abs, ◌*ℤ◌}
use lib.Signed.{le_z}
use mir.Syntax.{w64}
use mir.Val.{SFits, to_z}
use Rattle.numbers.proofs.Machine.{stored, stored_id, le_as}
use Rattle.numbers.proofs.Chain.{known, cast, mul, kept}
use Rattle.adjust.specs.declared.Verdict.TheVariants.{NotGiven, Within, Above}
use Rattle.adjust.specs.declared.terms.Terms.{Terms}
use Rattle.adjust.specs.Sizes.{most_allowed}
use Rattle.adjust.specs.Line.{verdict}
use Rattle.adjust.proofs.accidental.verdict_of.Goals as goal

by_tests : (terms : Terms) (n : ℕ) (t : ℤ) (h : (n ≤ 64) × (nat_abs terms.accidental ≤ most_allowed)) {low : Bool} → SFits w64 t
    → not terms.double || ltb n 20 ≡ false → le_z (stored t) (stored (stored terms.accidental *ℤ to_z w64 n)) ≡ low → cond low Within Above ≡ verdict terms n t
by_tests terms n t h f e d =
    let allowed = kept (mul (known terms.accidental h.1 tt) (cast n h.0 tt)) tt in
    let plain = sym (le_as (stored_id f) allowed.is) ∙ d in
    λ i. cond (sym e i) NotGiven (cond (sym plain i) Within Above)

pub returns-then-t-terms : goal.returns-then-t-terms
returns-then-t-terms c =
    let e : not c.args.terms.double || ltb c.args.count 20 ≡ false = search rules in
    by_tests c.args.terms c.args.count c.args.t c.requires c.ranges.t e c.if-t-terms.true

pub returns-else-t-terms : goal.returns-else-t-terms
returns-else-t-terms c =
    let e : not c.args.terms.double || ltb c.args.count 20 ≡ false = search rules in
    by_tests c.args.terms c.args.count c.args.t c.requires c.ranges.t e c.if-t-terms.false
