-- Figures that fit: what is known then of the sections, their sums and the two heights, and what is answered of these.
use mathlib.Core.Path.{◌≡◌}
use mathlib.Core.Bool.{Bool, true, false, not, cond, ◌&&◌}
use mathlib.Core.List.{List}
use native.Mathlib.Omega.{arith}
use Prim.Native.Nat.{◌≤◌}
use lib.Dec.{leb, ltb, leb→le, ltb→lt}
use lib.ListN.{length}
use lib.IntN.{ℤ, nat_abs}
use Rattle.std.specs.Prelude.{Some, None}
use Rattle.std.proofs.lemmas.Int.{to_z-of_z}
use Rattle.numbers.proofs.Tests.{holds, and_l, and_r, or_l, or_r, not-true, not-false}
use Rattle.station.specs.declared.Staffs.{Staffs}
use Rattle.adjust.specs.declared.Opening.{Opening}
use Rattle.adjust.specs.declared.Section.{Section}
use Rattle.adjust.specs.declared.SectionSums.{SectionSums}
use Rattle.adjust.specs.Sizes.{most_sum_q}
use Rattle.adjust.specs.Sections.{section_fits, any_outside, height_in_range}
use Rattle.adjust.specs.Line.{units_of}
use Rattle.adjust.specs.Kept.{sums_of, totals_from, sums_fit, unsummed}
use Rattle.adjust.specs.Frames.{figures_fit, line_totals}
use Rattle.adjust.specs.code.Bounds.{Between}
use Rattle.adjust.proofs.Lists.{fitted_legs}
use Rattle.adjust.proofs.Sized.{in_range_lem, units_in, prints_in, squared_in}
use Rattle.adjust.proofs.Kept.{summed_are, summed_fit, sum_bounds}

module _ (o : Opening) (end : ℤ) (s : SectionSums) (ss : List Section) (e : figures_fit o end s ss ≡ true) where
  abbrev some_test : Bool
  some_test = ltb 0 (length ss)

  abbrev fit_test : Bool
  fit_test = not (unsummed o s ss)

  heights : some_test && fit_test && height_in_range o.start.height ≡ true
  unfolding figures_fit
  heights = and_l (some_test && fit_test && height_in_range o.start.height) (height_in_range end) e

  sections : some_test && fit_test ≡ true
  sections = and_l (some_test && fit_test) (height_in_range o.start.height) heights

  summed : unsummed o s ss ≡ false
  summed = not-true (unsummed o s ss) (and_r some_test fit_test sections)

  pub fit_summed : s ≡ sums_of o ss
  fit_summed = summed_are o s ss summed

  pub fit_between : Between o.start.height end ss
  unfolding figures_fit
  fit_between =
      let fit = summed_fit o s ss summed in
      let inside = or_r (not (leb (length ss) 64)) (any_outside section_fits ss) fit in
      record {
        some = omega (arith, ltb→lt 0 (length ss) (holds (and_l some_test fit_test sections)));
        fits =
            record {
              few = leb→le (length ss) 64 (holds (not-false (leb (length ss) 64) (or_l (not (leb (length ss) 64)) (any_outside section_fits ss) fit)));
              legs = fitted_legs ss inside;
            };
        start_size = in_range_lem o.start.height (and_r (some_test && fit_test) (height_in_range o.start.height) heights);
        end_size = in_range_lem end (and_r (some_test && fit_test && height_in_range o.start.height) (height_in_range end) e);
      }

-- sums and heights in their ranges
pub sum_small : (s : SectionSums) → sums_fit s ≡ true → nat_abs s.height ≤ most_sum_q
sum_small s e = (sum_bounds s e).height

-- what is asked where figures fit, by the machine's heights
pub ruleset fits = (units_in, prints_in, squared_in, fit_between, fit_summed, in_range_lem, sum_small, to_z-of_z)

-- ---- what is answered of sums and heights in range

pub totals_given : (c : Staffs) (start end : ℤ) (s : SectionSums) → sums_fit s ≡ true → height_in_range start ≡ true → height_in_range end ≡ true
    → line_totals c start end s ≡ Some (totals_from (units_of c) start end s)
unfolding line_totals
totals_given c start end s f g h = λ i. cond (f i && g i && h i) (Some (totals_from (units_of c) start end s)) None
