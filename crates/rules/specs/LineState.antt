-- What the rules look at, the state of a line: the counts and sums of document 01's standing list. The plain reading computes them from its lists of stations, a book holds them.
use Rattle.std.specs.declared.option.Option.{Option}
use Rattle.std.specs.Prelude.{Bool, true, false, not, ◌&&◌, ◌||◌, List, [], ◌∷◌, map, ℕ, ◌+◌, leb, eqb, ℤ, pos, ◌+ℤ◌, ◌-ℤ◌, ◌*ℤ◌, Some, None}
use Rattle.numbers.specs.Numbers.{within, between, eq_z, any_of, last_of}
use Rattle.station.specs.declared.Figures.{Figures}
use Rattle.station.specs.declared.Staffs.{Staffs}
use Rattle.station.specs.declared.Staffs.TheVariants.{Nominal, Measured}
use Rattle.adjust.specs.declared.Section.{Section}
use Rattle.adjust.specs.Sections.{sections_of, holding, height_in_range}
use Rattle.adjust.specs.Terms.{terms_of}
use Rattle.adjust.specs.Kept.{sums_fit}
use Rattle.rules.specs.declared.Stage.{Stage}
use Rattle.rules.specs.declared.Stage.TheVariants.{Fresh, Open, Closed}
use Rattle.rules.specs.declared.Run.{Run}
use Rattle.rules.specs.declared.Outward.{Outward}
use Rattle.rules.specs.declared.Line.{Line}
use Rattle.rules.specs.declared.Book.{Book}

-- the line, and its finished sections in order
pub record LineState : Type 0 where
  pub line : Line
  pub sections : List Section

-- what a book holds
abbrev pub state_of : Book → LineState
state_of b = record { line = b.line; sections = sections_of b.sections }

-- the book b holding v in its place
abbrev pub book_with : Book → LineState → Book
book_with b v = record { line = v.line; sections = holding b.sections v.sections }

-- ---- where the line stands

abbrev pub is_fresh : Stage → Bool
is_fresh Fresh = true
is_fresh Open = false
is_fresh Closed = false

abbrev pub is_open : Stage → Bool
is_open Fresh = false
is_open Open = true
is_open Closed = false

abbrev pub is_closed : Stage → Bool
is_closed Fresh = false
is_closed Open = false
is_closed Closed = true

abbrev pub is_empty : {A : Type 0} → List A → Bool
is_empty [] = true
is_empty (x ∷ xs) = false

abbrev pub on_line : LineState → ℤ → Bool
on_line v number = any_of (λ (x : Section). eq_z x.number number) v.sections

-- the loop is shut while a finished section carries the start number ('loop shut')
abbrev pub is_shut : LineState → Bool
is_shut v = on_line v v.line.opening.start.number

-- the benchmark where the present section began: the last one on the line
abbrev pub began : LineState → ℤ
began v = last_of v.line.opening.start.number (map (λ (x : Section). x.number) v.sections)

-- the present run is a return where an outward run waits for one ('waiting'), and an outward run where none does: what is said of it in either case.
-- Rules 23, 30, 31, 32 and the end of a run all go by this
abbrev pub outward_or_return : {A : Type 0} → Option Outward → A → (ℤ → Run → A) → A
outward_or_return None outward back = outward
outward_or_return (Some w) outward back = back w.number w.run

abbrev pub is_return : Option Outward → Bool
is_return w = outward_or_return w false (λ number run. true)

-- ---- runs and sections

abbrev pub no_run : Run
no_run = record { count = 0; height = pos 0; sights = pos 0; difference = pos 0; last = pos 0 }

-- a run with one station more, of the figures f, whose fore staff has the constant kf
abbrev pub with_station : Run → Figures → ℤ → Run
with_station u f kf =
    record {
      count = u.count + 1;
      height = u.height +ℤ f.height;
      sights = u.sights +ℤ (f.back.sight +ℤ f.fore.sight);
      difference = u.difference +ℤ f.difference;
      last = kf;
    }

-- a section of one run (fourth order, but not on a spur): Q = 2G, R = 2s
abbrev pub one_way : ℤ → Run → Section
one_way number run = record { number = number; height = pos 2 *ℤ run.height; distance = pos 2 *ℤ run.sights; discrepancy = pos 0 }

-- a section of an outward run and its return (third order, or a spur): Q = G − G', R = s + s', D = G + G'
abbrev pub both_ways : ℤ → Run → Run → Section
both_ways number out back =
    record { number = number; height = out.height -ℤ back.height; distance = out.sights +ℤ back.sights; discrepancy = out.height +ℤ back.height }

-- ---- refusal 20

-- the most of a run: |G| in half mm or in tenths of it, s and the sum of d in dm
abbrev pub most_g : ℕ
most_g = 25000000

abbrev pub most_s : ℕ
most_s = 600000

abbrev pub most_difference : ℕ
most_difference = 1000000

-- Document 01 leaves this test to the program. It keeps every later sum in 64 bits, and holds of no book that calls from a fresh one leave.
-- The sights of a run add up to a decimetre a station at least, so that no section has a length of 0.
abbrev pub run_fits : Run → Bool
run_fits u = leb u.count 200 && within u.height most_g && between (pos u.count) u.sights (pos most_s) && within u.difference most_difference

-- a waiting run beside 64 sections would make the 65th
abbrev pub waiting_broken : Option Outward → ℕ → Bool
waiting_broken w count = outward_or_return w false (λ number run. not (run_fits run) || leb 64 count)

-- where no call was taken since the line was opened nothing is in any list, nor in a fresh book; a run waits only where sections are levelled out and back, and a closed line has a section
abbrev pub misplaced : Line → ℕ → Bool
misplaced l count =
    ((is_fresh l.stage || not l.opening.touched) && not (eqb count 0 && eqb l.present.count 0 && not (is_return l.waiting)))
    || (is_return l.waiting && not (terms_of l.opening.class).double)
    || (is_closed l.stage && eqb count 0)

-- the ranges of measured constants, of the staff 4,687 and of the staff 4,787, in tenths of a millimetre (document 02, W-203)
abbrev pub constants_in_range : ℤ → ℤ → Bool
constants_in_range first second = between (pos 46770) first (pos 46970) && between (pos 47770) second (pos 47970)

abbrev pub staffs_fit : Staffs → Bool
staffs_fit Nominal = true
staffs_fit (Measured first second) = constants_in_range (pos first) (pos second)

-- of the known heights, the staffs' constants or the sums that are kept of the sections
abbrev pub out_of_range : Line → Bool
out_of_range l =
    not (height_in_range l.opening.start.height) || not (height_in_range l.end) || not (staffs_fit l.opening.staffs) || not (sums_fit l.sums)

-- a line beside count sections; there is no place for more than 64
unfoldable pub line_broken : Line → ℕ → Bool
line_broken l count =
    not (leb count 64) || not (run_fits l.present) || waiting_broken l.waiting count || out_of_range l || misplaced l count
