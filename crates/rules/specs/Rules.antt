-- The rules: each call's tests, each beside its refusal number and in the order in which they are made, and what a call that is taken leaves
-- (document 01, 'Runs, sections and the standing list' and the two lists of refusals; document 02, W-201 to W-204, W-210 and W-214).
use Rattle.std.specs.Prelude.{Bool, true, false, not, cond, ◌&&◌, ◌||◌, List, [], ◌∷◌, ◌++◌, ℕ, ◌*◌, ◌%◌, length, leb, eqb, ℤ, pos, nat_abs, Some, None}
use Rattle.std.specs.declared.option.Option.{Option}
use Rattle.std.specs.Int.Signed.{le_z, lt_z}
use Rattle.numbers.specs.Numbers.{between, eq_z, last_of, but_last}
use Rattle.numbers.specs.Tables.{first_of}
use Rattle.roots.specs.Limit.{is_within}
use Rattle.station.specs.declared.Instrument.{Instrument}
use Rattle.station.specs.declared.Instrument.TheVariants.{Ds3, Ds1}
use Rattle.station.specs.declared.Staffs.TheVariants.{Nominal, Measured}
use Rattle.station.specs.declared.Figures.{Figures}
use Rattle.station.specs.Station.{station_of, figures_of, limits_of, reading_tests, limit_tests}
use Rattle.collimation.specs.Collimation.{collimation_of, within_angle, range_tests}
use Rattle.adjust.specs.declared.Opening.{Opening}
use Rattle.adjust.specs.declared.Section.{Section}
use Rattle.adjust.specs.declared.SectionSums.{SectionSums}
use Rattle.adjust.specs.Sections.{no_section, section_fits, height_in_range}
use Rattle.adjust.specs.declared.Totals.{Totals}
use Rattle.adjust.specs.declared.terms.Class.{Class}
use Rattle.adjust.specs.declared.terms.Class.TheVariants.{Third, Fourth, Spur}
use Rattle.adjust.specs.declared.terms.Root.{Root}
use Rattle.adjust.specs.declared.terms.Terms.{Terms}
use Rattle.adjust.specs.Terms.{order_of, terms_of, terms_by}
use Rattle.adjust.specs.declared.prints.PrintUnit.{PrintUnit}
use Rattle.adjust.specs.declared.prints.PrintUnit.TheVariants.{Tenths}
use Rattle.adjust.specs.Prints.{prints_allowed, print_unit_of}
use Rattle.adjust.specs.Line.{units_of, totals}
use Rattle.adjust.specs.Kept.{no_sums, sums_plus, sums_minus, unsummed}
use Rattle.rules.specs.declared.Stage.TheVariants.{Open, Closed}
use Rattle.rules.specs.declared.call.Call.{Call}
-- the calls, under the names by which the rules speak of them
use Rattle.rules.specs.declared.call.Call.TheVariants.{OpenLine as open_line, Station as station, EndRun as end_run, DropRun as drop_run, DropSection as drop_section, CloseLine as close_line, OpenSpur as open_spur, CloseSpur as close_spur, Collimation as collimation, Constants as constants, LiftSection as lift_section}
use Rattle.rules.specs.declared.Run.{Run}
use Rattle.rules.specs.declared.Outward.{Outward}
use Rattle.rules.specs.declared.Line.{Line}
use Rattle.rules.specs.LineState.{LineState, is_fresh, is_open, is_closed, is_empty, on_line, is_shut, began, outward_or_return, is_return, no_run, with_station, one_way, both_ways, constants_in_range, line_broken}

-- ---- the parts of the rules

-- the class and the instrument that open's numbers name: 3 or 4; 3 for DS3, 1 for DS1 and DS05
abbrev pub class_of : ℤ → Class
class_of n = cond (eq_z n (pos 3)) Third Fourth

abbrev pub instrument_of : ℤ → Instrument
instrument_of n = cond (eq_z n (pos 3)) Ds3 Ds1

abbrev pub number_in_range : ℤ → Bool
number_in_range n = between (pos 1) n (pos 9999)

-- within a run the back staff is the last fore staff; a return begins with the other staff than the one that ended the outward run
abbrev pub out_of_turn : Line → ℤ → Bool
out_of_turn l kb =
    cond (eqb l.present.count 0) (outward_or_return l.waiting false (λ number run. eq_z kb run.last)) (not (eq_z kb l.present.last))

-- an outward run ends on a number not yet on the line, the start number alone excepted once a section stands, but not on a spur; a return where its section began
abbrev pub number_allowed : LineState → ℤ → Bool
number_allowed v number =
    cond (is_return v.line.waiting) (eq_z number (began v))
    (not (on_line v number) && not (eq_z number v.line.opening.start.number && (is_empty v.sections || not (terms_of v.line.opening.class).tied)))

-- R as it counts for D, half dm: below 0.10 km as 0.10 km (document 02, W-201). The closure, the weights of the adjustment and t keep R itself
abbrev pub counted_length : ℤ → ℤ
counted_length r = cond (lt_z r (pos 2000)) (pos 2000) r

-- D within a root of R
abbrev pub discrepancy_within : Root → Section → Bool
discrepancy_within root x = is_within root.a x.discrepancy root.b (counted_length x.distance)

-- the longest line, or the longest loop, in half dm
abbrev pub length_limit : Terms → Bool → ℤ
length_limit terms loop = cond loop terms.circuit terms.longest

-- W within its root of L
abbrev pub closure_within : Terms → ℤ → ℤ → Bool
closure_within terms w l = is_within terms.closing.a w terms.closing.b l

-- ---- the tests

-- of opening, with an order that is or is not one of those that may be opened so
abbrev pub open_tests : Bool → ℤ → ℤ → ℤ → ℤ → List (ℕ × Bool)
open_tests ordered instrument number height prints =
    (3, not (ordered && (eq_z instrument (pos 1) || eq_z instrument (pos 3))))
    ∷ (4, not (number_in_range number))
    ∷ (5, not (height_in_range height))
    ∷ (57, not (prints_allowed prints)) ∷ []

-- what the input alone causes
abbrev pub input_tests : Call → List (ℕ × Bool)
input_tests (open_line order instrument number height prints) = open_tests (eq_z order (pos 3) || eq_z order (pos 4)) instrument number height prints
input_tests (station kb kf readings) = reading_tests (station_of kb kf readings)
input_tests (end_run number) = (4, not (number_in_range number)) ∷ []
input_tests drop_run = []
input_tests drop_section = []
input_tests (close_line number end) = (4, not (number_in_range number)) ∷ (5, not (height_in_range end)) ∷ []
input_tests (open_spur order instrument number height prints) = open_tests (eq_z order (pos 4)) instrument number height prints
input_tests (close_spur number) = (4, not (number_in_range number)) ∷ []
input_tests (collimation x) = range_tests (collimation_of x)
input_tests (constants first second) = (42, not (constants_in_range first second)) ∷ []
input_tests lift_section = []

-- of a line between its start and the end height: its length and its closure
abbrev pub total_tests : Terms → Bool → Totals → List (ℕ × Bool)
total_tests terms loop t = (35, not (le_z t.distance (length_limit terms loop))) ∷ (36, not (closure_within terms t.closure t.distance)) ∷ []

abbrev pub line_tests : LineState → ℤ → List (ℕ × Bool)
line_tests v end =
    let o : Opening = v.line.opening in
    total_tests (terms_by o.staffs o.class) (is_shut v) (totals (units_of o.staffs) o.start.height end v.sections)

-- of a station with the figures f, whose back staff has the constant kb
abbrev pub station_tests : Line → Bool → ℤ → Figures → List (ℕ × Bool)
station_tests l shut kb f =
    (21, not (is_open l.stage) || shut)
    ∷ (46, not l.opening.collimated)
    ∷ (22, leb 200 l.present.count)
    ∷ (23, out_of_turn l kb)
    ∷ limit_tests (limits_of (order_of l.opening.class) l.opening.instrument l.opening.staffs) l.present.difference f

-- and those that a book makes of it, which also tests for 20
abbrev pub book_station_tests : LineState → ℤ → Figures → List (ℕ × Bool)
book_station_tests v kb f = (20, line_broken v.line (length v.sections)) ∷ station_tests v.line (is_shut v) kb f

-- of opening, a line or a spur
abbrev pub open_state : LineState → List (ℕ × Bool)
open_state v = (21, not (is_fresh v.line.stage)) ∷ []

-- of a closing on a number, by END or by FIN, up to 34: whether the line is one that is closed by the other of the two, and whether the end height is not that of the
-- start where it must be
abbrev pub close_tests : LineState → Bool → ℤ → Bool → List (ℕ × Bool)
close_tests v other number unlike =
    (21, not (is_open v.line.stage))
    ∷ (41, other)
    ∷ (33, not (eqb v.line.present.count 0) || is_return v.line.waiting || is_empty v.sections)
    ∷ (34, not (eq_z number (began v)) || unlike) ∷ []

-- what the book's state causes
abbrev pub state_tests : LineState → Call → List (ℕ × Bool)
state_tests v (open_line order instrument number height prints) = open_state v
state_tests v (station kb kf readings) = station_tests v.line (is_shut v) kb (figures_of v.line.opening.staffs (station_of kb kf readings))
state_tests v (end_run number) =
    (21, not (is_open v.line.stage) || is_shut v)
    ∷ (29, eqb v.line.present.count 0 || eqb (v.line.present.count % 2) 1)
    ∷ (31, not (is_return v.line.waiting) && leb 64 (length v.sections))
    ∷ (30, not (number_allowed v number))
    ∷ (32, outward_or_return v.line.waiting false (λ outward run. not (discrepancy_within (terms_by v.line.opening.staffs v.line.opening.class).apart (both_ways outward run v.line.present)))) ∷ []
state_tests v drop_run = (21, not (is_open v.line.stage)) ∷ []
state_tests v drop_section = (21, not (is_open v.line.stage)) ∷ []
state_tests v (close_line number end) =
    close_tests v (not (terms_of v.line.opening.class).tied) number (is_shut v && not (eq_z end v.line.opening.start.height)) ++ line_tests v end
state_tests v (open_spur order instrument number height prints) = open_state v
state_tests v (close_spur number) = close_tests v (terms_of v.line.opening.class).tied number false
-- a test is taken once, and within 20'' (document 02, W-204)
state_tests v (collimation x) = (21, not (is_open v.line.stage)) ∷ (45, v.line.opening.collimated || not (within_angle (collimation_of x))) ∷ []
-- directly after the line was opened, in the stead of 21 (document 02, W-203)
state_tests v (constants first second) = (43, not (is_open v.line.stage) || v.line.opening.touched) ∷ []
-- on a shut loop too (document 02, W-210)
state_tests v lift_section =
    (21, not (is_open v.line.stage)) ∷ (53, is_empty v.sections || not (eqb v.line.present.count 0) || is_return v.line.waiting) ∷ []

abbrev pub is_closing : Call → Bool
is_closing (open_line order instrument number height prints) = false
is_closing (station kb kf readings) = false
is_closing (end_run number) = false
is_closing drop_run = false
is_closing drop_section = false
is_closing (close_line number end) = true
is_closing (open_spur order instrument number height prints) = false
is_closing (close_spur number) = true
is_closing (collimation x) = false
is_closing (constants first second) = false
is_closing lift_section = false

abbrev pub is_lift : Call → Bool
is_lift lift_section = true
is_lift c = false

-- what a closing reads of the sections: all of them, and the sums that are kept of them
abbrev pub all_broken : LineState → Bool
all_broken v = unsummed v.line.opening v.line.sums v.sections

-- what a lift reads of them: the last one
abbrev pub last_broken : LineState → Bool
last_broken v = go v.sections
  where
    go : List Section → Bool
    go [] = false
    go (x ∷ xs) = not (section_fits (last_of x xs))

-- refusal 20: of what is read of the sections, or of the line
abbrev pub broken_in : Bool → LineState → Bool
broken_in sections v = sections || line_broken v.line (length v.sections)

-- by the call
abbrev pub broken : LineState → Call → Bool
broken v c = broken_in (cond (is_closing c) (all_broken v) (is_lift c && last_broken v)) v

-- the tests of asking for the figures of a closed line
abbrev pub figures_tests : LineState → List (ℕ × Bool)
figures_tests v = (20, broken_in (all_broken v) v) ∷ (21, not (is_closed v.line.stage)) ∷ []

-- the number that the rules give, 0 where the call is taken
abbrev pub refusal : LineState → Call → ℕ
refusal v c = first_of (input_tests c ++ state_tests v c)

-- and that a book gives, which also tests for 20
abbrev pub book_tests : LineState → Call → List (ℕ × Bool)
book_tests v c = input_tests c ++ ((20, broken v c) ∷ state_tests v c)

unfoldable pub book_refusal : LineState → Call → ℕ
book_refusal v c = first_of (book_tests v c)

-- the order in which the numbers are tested: as they stand, but 31 before 30, 43 in the stead of 21, 41, 45, 46 and 53 directly after it, and 42, 44 and 57 with the input's numbers
abbrev pub rank : ℕ → ℕ
rank n = cond (eqb n 31) 299 (cond (eqb n 43) 210 (cond (eqb n 41 || eqb n 45 || eqb n 46 || eqb n 53) 211 (cond (eqb n 42 || eqb n 44 || eqb n 57) 56 (10 * n))))

-- ---- what a call that is taken leaves

-- what every call that is taken notes but an opening
abbrev pub touched : Opening → Opening
touched o = record o { touched = true }

-- the line with other runs
abbrev pub with_runs : Line → Option Outward → Run → Line
with_runs l waiting present = record l { opening = touched l.opening; waiting = waiting; present = present }

-- and with other sums
abbrev pub with_sums : Line → SectionSums → Line
with_sums l s = record l { sums = s }

-- a finished section is added to the sums that are kept
abbrev pub with_section : LineState → Section → LineState
with_section v x =
    record { line = with_sums (with_runs v.line None no_run) (sums_plus v.line.opening v.line.sums x); sections = v.sections ++ (x ∷ []) }

-- and the last one, lifted, is taken off them. Nothing is present and nothing waits, and so it stays
abbrev pub lifted : LineState → LineState
lifted v =
    record {
      line = with_sums (with_runs v.line v.line.waiting v.line.present) (sums_minus v.line.opening v.line.sums (last_of no_section v.sections));
      sections = but_last v.sections;
    }

-- a return finishes the section, under the waiting number; an outward run waits, or is a section where sections are levelled one way
abbrev pub run_ended : LineState → ℤ → LineState
run_ended v number =
    outward_or_return v.line.waiting
    (cond (terms_of v.line.opening.class).double
    (record { line = with_runs v.line (Some (record { number = number; run = v.line.present })) no_run; sections = v.sections })
    (with_section v (one_way number v.line.present)))
    (λ outward run. with_section v (both_ways outward run v.line.present))

-- an open line with nothing in it
abbrev pub begun : Opening → Line
begun o = record { stage = Open; opening = o; end = pos 0; sums = no_sums; waiting = None; present = no_run }

-- what a line is opened with: the staffs have their nominal constants until others are given, and the level is not tested
abbrev pub opening_with : Class → Instrument → ℤ → ℤ → PrintUnit → Opening
opening_with class instrument number height unit =
    record { class = class; instrument = instrument; start = record { number = number; height = height }; staffs = Nominal; print_unit = unit; collimated = false; touched = false }

abbrev pub opening_of : Class → ℤ → ℤ → ℤ → ℤ → Opening
opening_of class instrument number height prints = opening_with class (instrument_of instrument) number height (print_unit_of prints)

-- where no line is opened: placeholders, which decide nothing
abbrev pub unopened : Opening
unopened = opening_with Fourth Ds3 (pos 0) (pos 0) Tenths

abbrev pub collimated : Opening → Opening
collimated o = record o { collimated = true; touched = true }

abbrev pub measured : Opening → ℤ → ℤ → Opening
measured o first second = record o { staffs = Measured (nat_abs first) (nat_abs second); touched = true }

abbrev pub with_opening : Line → Opening → Line
with_opening l o = record l { opening = o }

abbrev pub closed_at : Line → ℤ → Line
closed_at l end = record l { stage = Closed; opening = touched l.opening; end = end }

abbrev pub taken : LineState → Call → LineState
taken v (open_line order instrument number height prints) = record { line = begun (opening_of (class_of order) instrument number height prints); sections = [] }
taken v (station kb kf readings) =
    record {
      line = with_runs v.line v.line.waiting (with_station v.line.present (figures_of v.line.opening.staffs (station_of kb kf readings)) kf);
      sections = v.sections;
    }
taken v (end_run number) = run_ended v number
taken v drop_run = record { line = with_runs v.line v.line.waiting no_run; sections = v.sections }
taken v drop_section = record { line = with_runs v.line None no_run; sections = v.sections }
taken v (close_line number end) = record { line = closed_at v.line end; sections = v.sections }
taken v (open_spur order instrument number height prints) = record { line = begun (opening_of Spur instrument number height prints); sections = [] }
-- a spur has no end height: 0 stands for it
taken v (close_spur number) = record { line = closed_at v.line (pos 0); sections = v.sections }
taken v (collimation x) = record { line = with_opening v.line (collimated v.line.opening); sections = v.sections }
-- nothing is in any list: no call was taken since the line was opened
taken v (constants first second) = record { line = begun (measured v.line.opening first second); sections = [] }
taken v lift_section = lifted v
