-- What is answered of a line: its figures, or that there are none where there are no sections, too many, or numbers outside the ranges in which all figures fit 64 bits.
use Rattle.std.specs.Prelude.{Bool, cond, not, ◌&&◌, List, length, ltb, ℤ, pos, Some, None}
use Rattle.std.specs.declared.option.Option.{Option}
use Rattle.numbers.specs.Numbers.{filled}
use Rattle.station.specs.declared.Staffs.{Staffs}
use Rattle.adjust.specs.declared.Opening.{Opening}
use Rattle.adjust.specs.declared.Section.{Section}
use Rattle.adjust.specs.declared.Point.{Point}
use Rattle.adjust.specs.declared.SectionSums.{SectionSums}
use Rattle.adjust.specs.declared.Totals.{Totals}
use Rattle.adjust.specs.declared.LineFigures.{LineFigures}
use Rattle.adjust.specs.Sections.{height_in_range}
use Rattle.adjust.specs.Line.{units_of, Closing, closing}
use Rattle.adjust.specs.Kept.{totals_from, sums_fit, unsummed}

abbrev pub no_point : Point
no_point = record { number = pos 0; distance = pos 0; correction = pos 0; height = pos 0 }

-- one to 64 sections in the wider range, beside their sums, between heights in theirs
unfoldable pub figures_fit : Opening → ℤ → SectionSums → List Section → Bool
figures_fit o end s ss = ltb 0 (length ss) && not (unsummed o s ss) && height_in_range o.start.height && height_in_range end

-- W and L by the sums that a line keeps; none where these or the heights are outside their ranges
unfoldable pub line_totals : Staffs → ℤ → ℤ → SectionSums → Option Totals
line_totals c start end s = cond (sums_fit s && height_in_range start && height_in_range end) (Some (totals_from (units_of c) start end s)) None

-- a closing, its points in an array
abbrev pub adjusted_of : Closing → LineFigures
adjusted_of c = record { summary = c.summary; points = filled no_point 65 c.points }

unfoldable pub line_figures : Opening → ℤ → SectionSums → List Section → Option LineFigures
line_figures o end s ss = cond (figures_fit o end s ss) (Some (adjusted_of (closing o end ss))) None
