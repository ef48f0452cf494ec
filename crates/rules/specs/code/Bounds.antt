-- What an unbroken book's runs are bounded by, so that the code's sums fit: asked for by its private functions. No rule of document 01.
use Rattle.std.specs.Prelude.{◌≤◌, Bool, ◌||◌, ℤ, nat_abs, Some, None}
use Rattle.rules.specs.declared.Run.{Run}
use Rattle.std.specs.declared.option.Option.{Option}
use Rattle.adjust.specs.Sections.{section_fits}
use Rattle.adjust.specs.Terms.{terms_of}
use Rattle.rules.specs.declared.Line.{Line}
use Rattle.rules.specs.declared.Outward.{Outward}
use Rattle.rules.specs.LineState.{outward_or_return, one_way, both_ways, most_g, most_s, most_difference}

pub record SmallRun (u : Run) : Type 0 where
  pub count : u.count ≤ 200
  pub height : nat_abs u.height ≤ most_g
  pub sights : nat_abs u.sights ≤ most_s
  pub difference : nat_abs u.difference ≤ most_difference

-- what waits and the present run
abbrev pub SmallRuns : Option Outward → Run → Type 0
SmallRuns None present = SmallRun present
SmallRuns (Some w) present = SmallRun w.run × SmallRun present

-- the section that the end of the present run finishes, where it finishes one, is in the wider range
abbrev pub finish_fits : Line → ℤ → Bool
finish_fits l number =
    outward_or_return l.waiting ((terms_of l.opening.class).double || section_fits (one_way number l.present))
    (λ outward run. section_fits (both_ways outward run l.present))
