-- `accidental_sum`: t of one section more is added.
use Rattle.std.proofs.Common.{◌≡◌, Bool, false, cond, pos, List, ◌∷◌, ℕ, ◌+◌, ◌*◌, ◌≤◌, ◌<◌, true, length, get_or, drop, sym, ap, ◌∙◌, arith}
use mathlib.Core.Path.{subst}
use lib.IntN.{ℤ, nat_abs, ◌+ℤ◌, +ℤ_assoc}
use mir.Syntax.{w64}
use mir.Val.{SFits}
use Rattle.numbers.specs.Numbers.{within}
use Rattle.numbers.proofs.Tests.{and_l, and_r}
use Rattle.numbers.proofs.All.{All, all_head, all_tail}
use Rattle.numbers.proofs.Sizes.{abs_add, within_size}
use Rattle.numbers.proofs.Machine.{stored, stored_id}
use Rattle.numbers.proofs.Chain.{Value, known, plain, add, fits, kept}
use Rattle.numbers.proofs.Arrays.{drop_next}
use Rattle.adjust.specs.declared.Section.{Section}
use Rattle.adjust.specs.declared.terms.Terms.{Terms}
use Rattle.adjust.specs.Sizes.{most_d, most_t, most_sum_t, most_squared}
use Rattle.adjust.specs.Sections.{no_section, leg_fits, section_fits}
use Rattle.adjust.specs.Line.{accidental, section_error, accidental_sum}
use Rattle.adjust.specs.code.Bounds.{OneTo, LegBounds}
use Rattle.adjust.proofs.Lists.{leg_bounds}
use Rattle.adjust.proofs.Bounded.{one_some, accidental_size}
use Rattle.adjust.proofs.accidental.accidental_sum.Invariants.{Going}
use Rattle.adjust.proofs.accidental.accidental_sum.Goals as goal

module _ {terms : Terms} {n : ℕ} {ss : List Section} {k : ℕ} {t : ℤ} (here : k < length ss) (g : Going terms n ss k t) where
  abbrev x : Section
  x = get_or ss k no_section

  rest : drop k ss ≡ x ∷ drop (k + 1) ss
  rest = drop_next ss k no_section here

  all_here : All section_fits (x ∷ drop (k + 1) ss)
  all_here = subst (All section_fits) rest g.fit

  fits_here : section_fits x ≡ true
  fits_here = all_head section_fits x (drop (k + 1) ss) all_here

  leg : LegBounds x
  leg = leg_bounds x (and_l (leg_fits x) (within x.discrepancy most_d) fits_here)

  discrepancy : nat_abs x.discrepancy ≤ most_d
  discrepancy = within_size x.discrepancy most_d (and_r (leg_fits x) (within x.discrepancy most_d) fits_here)

  error_size : 0 < n → nat_abs (section_error terms n x) ≤ most_t
  error_size some = go terms.double
    where
      go : (d : Bool) → nat_abs (cond d (accidental n x) (pos 0)) ≤ most_t
      go true = accidental_size n x some discrepancy leg
      go false = omega arith

  next : 0 < n → Going terms n ss (k + 1) (t +ℤ section_error terms n x)
  next some =
      record {
        small = omega (arith, abs_add t (section_error terms n x), g.small, error_size some);
        fit = all_tail section_fits x (drop (k + 1) ss) all_here;
        whole = +ℤ_assoc t (section_error terms n x) (accidental_sum terms n (drop (k + 1) ss)) ∙ sym (ap (λ (xs : List Section). t +ℤ accidental_sum terms n xs) rest) ∙ g.whole;
      }

  -- with what the call gave
  more : 0 < n → length ss ≤ 64 → (r : ℤ) → r ≡ section_error terms n x → Value (t +ℤ stored r) (t +ℤ section_error terms n x) most_sum_t
  more some few r e =
      let size = error_size some in
      add (plain t {k = most_t * 63} (omega (arith, g.small)))
      (record { is = (known r {k = most_t} (omega (arith, ap nat_abs e, size)) tt).is ∙ e; size = size })

-- the parameter as it is read back
one : {z : ℤ} → SFits w64 z → OneTo most_squared z → OneTo most_squared (stored z)
one f h = subst (OneTo most_squared) (sym (stored_id f)) h

pub section_error-t-requires : goal.section_error-t-requires
section_error-t-requires c =
    (one c.ranges.squared c.requires.0, discrepancy c.loop-x-test.true c.loop-x.invariant, leg c.loop-x-test.true c.loop-x.invariant)

pub overflow_add-t : goal.overflow_add-t
overflow_add-t c =
    fits (more c.loop-x-test.true c.loop-x.invariant (one_some (one c.ranges.squared c.requires.0)) c.requires.1.few c.section_error-t.result c.section_error-t.ensures) tt

pub loop-x-preserved : goal.loop-x-preserved
loop-x-preserved c =
    let here = c.loop-x-test.true in
    let g = c.loop-x.invariant in
    let some = one_some (one c.ranges.squared c.requires.0) in
    subst (Going c.args.terms (nat_abs (stored c.args.squared)) c.args.sections.now (c.loop-x.x-index + 1))
    (sym (kept (more here g some c.requires.1.few c.section_error-t.result c.section_error-t.ensures) tt).is) (next here g some)
