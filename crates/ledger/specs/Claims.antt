-- What is claimed of every list of calls from a fresh book: of the closing taken in it (demand 3 of document 01; for spurs document 02, W-202), in whatever print unit (W-214), of the order of
-- refusals, of refused and dropped calls and lifted sections (W-210), and of the heights of runs by measured constants (W-203).
use Rattle.std.specs.Prelude.{◌≡◌, Bool, true, false, cond, ◌&&◌, List, [], ◌∷◌, ◌++◌, map, ℕ, ◌%◌, length, eqb, ◌≤◌, ℤ, pos, nat_abs, neg_ℤ, ◌*ℤ◌, ◌≤ℤ◌, None}
use Rattle.numbers.specs.Numbers.{eq_z}
use Rattle.numbers.specs.Tables.{Lowest}
use Rattle.station.specs.declared.Staffs.TheVariants.{Nominal, Measured}
use Rattle.station.specs.declared.Station.{Station}
use Rattle.station.specs.Station.{constants_paired}
use Rattle.adjust.specs.declared.Point.{Point}
use Rattle.adjust.specs.Terms.{terms_of}
use Rattle.adjust.specs.Prints.{prints_of}
use Rattle.adjust.specs.Line.{units_of, frame_by, Closing, closing_by}
use Rattle.adjust.specs.Claims.{Near, corrections, last_height, raw_heights}
use Rattle.rules.specs.declared.Stage.TheVariants.{Open, Closed}
use Rattle.rules.specs.LineState.{LineState}
use Rattle.rules.specs.declared.call.Call.{Call}
use Rattle.rules.specs.declared.call.Call.TheVariants.{DropRun as drop_run, DropSection as drop_section, CloseLine as close_line, CloseSpur as close_spur, LiftSection as lift_section}
use Rattle.rules.specs.Rules.{book_tests, book_refusal, rank}
use Rattle.ledger.specs.Plain.{Reading, Levelled, fresh_reading, after, next, taken, refusal, plain_state, run_of, with_lists, closings}

-- ---- a closing

-- the points after the start
abbrev pub others : List Point → List Point
others [] = []
others (p ∷ ps) = ps

-- the end of a line that is tied to a known height, printed in so many units to a millimetre
pub record KnownEnd (prints : ℕ) (end : ℤ) (gave : Closing) : Type 0 where
  -- the corrections of all points use up the closure
  pub used_up : corrections gave.points ≡ neg_ℤ gave.summary.closure
  -- the last height is the known one
  pub last : last_height (pos 0) gave.points ≡ pos prints *ℤ end

-- by whether it is tied: of a spur neither of these is promised, and its closure is 0
abbrev pub Ends : Bool → ℕ → ℤ → Closing → Type 0
Ends true prints end gave = KnownEnd prints end gave
Ends false prints end gave = gave.summary.closure ≡ pos 0

-- `gave` is what closing a line gives that then stands as v, printed in so many units to a millimetre
pub record SoundClosing (prints : ℕ) (v : LineState) (gave : Closing) : Type 0 where
  -- W, in the corrections' unit, L, n, T, the verdict and each point are what the formulas make of v and its known heights
  pub figures : gave ≡ closing_by prints v.line.opening v.line.end v.sections
  -- the bounds of `near` are multiples of L, so they bind
  pub long : pos 1 ≤ℤ gave.summary.distance
  -- each height is within half a print unit of the exact one, and each correction within one print unit of its share
  pub near : Near (frame_by prints v.line.opening v.line.end v.sections) (pos 0) (pos 0) v.sections (others gave.points)
  pub ends : Ends (terms_of v.line.opening.class).tied prints v.line.end gave

-- a spur's heights are start plus running Q, rounded to even
abbrev pub SpurHeights : Type 0
SpurHeights =
    (prints : ℕ) (v : LineState) (gave : Closing) → SoundClosing prints v gave → (terms_of v.line.opening.class).tied ≡ false
    → let units : ℤ = units_of v.line.opening.staffs in
    map (λ (p : Point). p.height) (others gave.points) ≡ raw_heights (nat_abs units) prints (units *ℤ v.line.opening.start.height) v.sections

-- the call that closes a line: END where it is tied to a known height, and FIN where it is not, as on a spur
pub data ClosedBy (r : Reading) : Call → Type 0 where
  by_end : (number end : ℤ) → (terms_of r.opening.class).tied ≡ true → ClosedBy r (close_line number end)
  by_fin : (number : ℤ) → (terms_of r.opening.class).tied ≡ false → ClosedBy r (close_spur number)

-- one closing was taken in the list, of what the calls before it left; it was sound, and no later call changed anything.
-- `all` is what the list's closings gave
pub record ClosedOnce (calls : List Call) (all : List Closing) : Type 0 where
  pub before : List Call
  pub call : Call
  pub later : List Call
  pub split : calls ≡ before ++ (call ∷ later)
  pub closes : ClosedBy (after fresh_reading before) call
  pub accepted : refusal (after fresh_reading before) call ≡ 0
  pub gave : Closing
  pub once : all ≡ gave ∷ []
  -- in the print unit that the line was opened with
  pub sound : let v : LineState = plain_state (taken (after fresh_reading before) call) in SoundClosing (prints_of v.line.opening.print_unit) v gave
  pub stays : after fresh_reading calls ≡ taken (after fresh_reading before) call

-- whatever the calls, taken or refused: a line that they leave closed was closed once and soundly
abbrev pub EveryList : Type 0
EveryList = (calls : List Call) → (after fresh_reading calls).stage ≡ Closed → ClosedOnce calls (closings fresh_reading calls)

-- of a line that calls leave closed, the closing is sound in every print unit that a millimetre is a whole number of; in the line's own it is the one that was given
abbrev pub EveryUnit : Type 0
EveryUnit =
    (prints : ℕ) (calls : List Call) → 1 ≤ prints → (after fresh_reading calls).stage ≡ Closed
    → let v : LineState = plain_state (after fresh_reading calls) in SoundClosing prints v (closing_by prints v.line.opening v.line.end v.sections)

-- ---- the number given

-- a book answers the lowest number that applies
abbrev pub LowestGiven : Type 0
LowestGiven = (v : LineState) (c : Call) → Lowest rank (book_tests v c) (book_refusal v c)

-- ---- refused calls

-- the calls of a list that are taken
abbrev pub taken_only : Reading → List Call → List Call
taken_only r [] = []
taken_only r (c ∷ cs) = cond (eqb (refusal r c) 0) (c ∷ []) [] ++ taken_only (next r c) cs

-- a list without its refused calls leaves the same, and its closings give the same
abbrev pub StruckOut : Type 0
StruckOut =
    (calls : List Call)
    → (after fresh_reading (taken_only fresh_reading calls) ≡ after fresh_reading calls)
    × (closings fresh_reading (taken_only fresh_reading calls) ≡ closings fresh_reading calls)

-- ---- dropped calls

-- Calls that leave the line open and its finished sections and what waits as they were in r, whichever they are and whether taken or refused: drop run
-- after them leaves the lists that r had, and an empty present run. So stations that are dropped stand in no list
abbrev pub RunDropped : Type 0
RunDropped =
    (r : Reading) (calls : List Call) → (after r calls).stage ≡ Open → (after r calls).sections ≡ r.sections → (after r calls).waiting ≡ r.waiting
    → after r (calls ++ (drop_run ∷ [])) ≡ with_lists (after r calls) r.sections r.waiting []

-- the same of drop section, whatever waits after them: nothing does then
abbrev pub SectionDropped : Type 0
SectionDropped =
    (r : Reading) (calls : List Call) → (after r calls).stage ≡ Open → (after r calls).sections ≡ r.sections
    → after r (calls ++ (drop_section ∷ [])) ≡ with_lists (after r calls) r.sections None []

-- ---- lifted sections

-- Calls that level one section more than stood in r, whichever they are and whether taken or refused, and leave nothing waiting and nothing present: a lift after them leaves the
-- sections that r had. So the stations of a section that is lifted stand in no list
abbrev pub SectionLifted : Type 0
SectionLifted =
    (r : Reading) (calls : List Call) (x : Levelled) → (after r calls).stage ≡ Open → (after r calls).sections ≡ r.sections ++ (x ∷ [])
    → (after r calls).waiting ≡ None → (after r calls).present ≡ []
    → after r (calls ++ (lift_section ∷ [])) ≡ with_lists (after r calls) r.sections None []

-- ---- measured constants

-- the stations of a run in which the staffs take turns: each has both staffs, and its back staff is the fore staff of the one before
abbrev pub in_turn : List Station → Bool
in_turn [] = true
in_turn (x ∷ []) = constants_paired x
in_turn (x ∷ (y ∷ ys)) = constants_paired x && eq_z y.back.constant x.fore.constant && in_turn (y ∷ ys)

-- in a run that may be ended, of an even number of stations, the constants cancel: whatever was measured, its height is the one by the nominal constants, in tenths.
-- So no height, D, Q, W or correction shows them, but the tests 27 and 28 and the present run do
abbrev pub ConstantsCancel : Type 0
ConstantsCancel =
    (first second : ℕ) (xs : List Station) → in_turn xs ≡ true → length xs % 2 ≡ 0
    → (run_of (Measured first second) xs).height ≡ pos 10 *ℤ (run_of Nominal xs).height
