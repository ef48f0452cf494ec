-- Document 01's 'plain reading' of a list of calls: it keeps lists of stations and no sum, and judges each call by the rules read over these lists.
-- Its 'standing list' is what a `Reading` keeps: the finished sections, the outward list that waits and the list of the present run.
use Rattle.std.specs.Prelude.{cond, List, [], ◌∷◌, ◌++◌, map, ℕ, length, eqb, ℤ, pos, Some, None}
use Rattle.std.specs.declared.option.Option.{Option}
use Rattle.numbers.specs.Numbers.{sum, last_of, but_last}
use Rattle.adjust.specs.declared.terms.Class.TheVariants.{Spur}
use Rattle.station.specs.declared.Staffs.{Staffs}
use Rattle.station.specs.declared.Station.{Station}
use Rattle.station.specs.Station.{station_of, sights, sight_difference, twice_height}
use Rattle.adjust.specs.declared.Opening.{Opening}
use Rattle.adjust.specs.declared.Section.{Section}
use Rattle.adjust.specs.Terms.{terms_of}
use Rattle.adjust.specs.Line.{Closing, closing}
use Rattle.adjust.specs.Kept.{sums_of}
use Rattle.rules.specs.declared.Stage.{Stage}
use Rattle.rules.specs.declared.Stage.TheVariants.{Fresh, Open, Closed}
use Rattle.rules.specs.declared.Run.{Run}
use Rattle.rules.specs.declared.Outward.{Outward}
use Rattle.rules.specs.declared.Book.{Book}
use Rattle.rules.specs.LineState.{LineState, book_with, one_way, both_ways}
use Rattle.book.specs.Calls.{fresh_book}
use Rattle.rules.specs.Rules as Rules
use Rattle.rules.specs.declared.call.Call.{Call}
use Rattle.rules.specs.declared.call.Call.TheVariants.{OpenLine as open_line, Station as station, EndRun as end_run, DropRun as drop_run, DropSection as drop_section, CloseLine as close_line, OpenSpur as open_spur, CloseSpur as close_spur, Collimation as collimation, Constants as constants, LiftSection as lift_section}
use Rattle.rules.specs.Rules.{class_of, opening_of, unopened, touched, collimated, measured, is_closing}

-- a finished section: its number, its outward list and, where it was levelled both ways, its return list
pub record Levelled : Type 0 where
  pub number : ℤ
  pub outward : List Station
  pub back : Option (List Station)

-- an outward list that waits for its return
pub record Awaited : Type 0 where
  pub number : ℤ
  pub outward : List Station

pub record Reading : Type 0 where
  pub stage : Stage
  -- with the staffs' constants, and whether the level's collimation was tested and whether any call was taken since
  pub opening : Opening
  -- the end height; a placeholder until the line is closed, and on a spur
  pub end : ℤ
  pub sections : List Levelled
  pub waiting : Option Awaited
  pub present : List Station

-- ---- the counts and sums of the lists

abbrev pub run_of : Staffs → List Station → Run
run_of c xs =
    record {
      count = length xs;
      height = sum (map (twice_height c) xs);
      sights = sum (map sights xs);
      difference = sum (map sight_difference xs);
      last = last_of (pos 0) (map (λ (x : Station). x.fore.constant) xs);
    }

abbrev pub section_of : Staffs → Levelled → Section
section_of c x = go x.back
  where
    go : Option (List Station) → Section
    go None = one_way x.number (run_of c x.outward)
    go (Some back) = both_ways x.number (run_of c x.outward) (run_of c back)

abbrev pub waiting_of : Staffs → Option Awaited → Option Outward
waiting_of c None = None
waiting_of c (Some w) = Some (record { number = w.number; run = run_of c w.outward })

abbrev pub plain_state : Reading → LineState
plain_state r =
    let c : Staffs = r.opening.staffs in
    let ss : List Section = map (section_of c) r.sections in
    record {
      line =
          record {
            stage = r.stage;
            opening = r.opening;
            end = r.end;
            sums = sums_of r.opening ss;
            waiting = waiting_of c r.waiting;
            present = run_of c r.present;
          };
      sections = ss;
    }

-- the book that holds a reading's counts and sums, and nothing else
abbrev pub book_of : Reading → Book
book_of r = book_with fresh_book (plain_state r)

-- ---- what is kept of a call that is taken

-- the reading with other lists, after a call that is taken
abbrev pub with_lists : Reading → List Levelled → Option Awaited → List Station → Reading
with_lists r sections waiting present = record r { opening = touched r.opening; sections = sections; waiting = waiting; present = present }

abbrev pub run_ended : Reading → ℤ → Reading
run_ended r number = go r.waiting
  where
    finished : Levelled → Reading
    finished x = with_lists r (r.sections ++ (x ∷ [])) None []

    go : Option Awaited → Reading
    go None =
        cond (terms_of r.opening.class).double
        (with_lists r r.sections (Some (record { number = number; outward = r.present })) [])
        (finished (record { number = number; outward = r.present; back = None }))
    go (Some w) = finished (record { number = w.number; outward = w.outward; back = Some r.present })

-- a line that is opened has nothing in any list, nor has one whose staffs' constants are given
abbrev pub opened : Opening → Reading
opened o =
    record {
      stage = Open;
      opening = o;
      end = pos 0;
      sections = [];
      waiting = None;
      present = [];
    }

abbrev pub closed_on : Reading → ℤ → Reading
closed_on r end = record r { stage = Closed; opening = touched r.opening; end = end }

abbrev pub taken : Reading → Call → Reading
taken r (open_line order instrument number height prints) = opened (opening_of (class_of order) instrument number height prints)
taken r (station kb kf readings) = with_lists r r.sections r.waiting (r.present ++ (station_of kb kf readings ∷ []))
taken r (end_run number) = run_ended r number
taken r drop_run = with_lists r r.sections r.waiting []
taken r drop_section = with_lists r r.sections None []
taken r (close_line number end) = closed_on r end
taken r (open_spur order instrument number height prints) = opened (opening_of Spur instrument number height prints)
-- a spur has no end height: 0 stands for it
taken r (close_spur number) = closed_on r (pos 0)
taken r (collimation x) = record r { opening = collimated r.opening }
-- these are the constants of every station to come: none was taken
taken r (constants first second) = opened (measured r.opening first second)
-- the stations of the last section stand no more
taken r lift_section = with_lists r (but_last r.sections) r.waiting r.present

-- ---- a list of calls

abbrev pub refusal : Reading → Call → ℕ
refusal r c = Rules.refusal (plain_state r) c

-- a refused call changes nothing of what is kept
abbrev pub next : Reading → Call → Reading
next r c = cond (eqb (refusal r c) 0) (taken r c) r

-- nothing is opened: what stands in the opening and the end height are placeholders, which decide nothing before a line is opened
abbrev pub fresh_reading : Reading
fresh_reading =
    record {
      stage = Fresh;
      opening = unopened;
      end = pos 0;
      sections = [];
      waiting = None;
      present = [];
    }

abbrev pub after : Reading → List Call → Reading
after r [] = r
after r (c ∷ cs) = after (next r c) cs

abbrev pub refusals : Reading → List Call → List ℕ
refusals r [] = []
refusals r (c ∷ cs) = refusal r c ∷ refusals (next r c) cs

-- the figures of closing a reading's line on the end height that it keeps
abbrev pub figures_of : Reading → Closing
figures_of r = closing r.opening r.end (plain_state r).sections

-- what a call that is taken gives beside the book: a closing its figures, another call nothing
abbrev pub given : Reading → Call → List Closing
given r c = cond (is_closing c) (figures_of (taken r c) ∷ []) []

-- what the closings taken in a list of calls gave, in order
abbrev pub closings : Reading → List Call → List Closing
closings r [] = []
closings r (c ∷ cs) = cond (eqb (refusal r c) 0) (given r c) [] ++ closings (next r c) cs
