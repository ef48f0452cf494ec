-- A line from a known height: L, W, the exact and the printed heights, the corrections, and the accidental error (document 01, 'Closure, corrections, heights').
use Rattle.std.specs.Prelude.{cond, not, ◌||◌, List, [], ◌∷◌, map, ℕ, ◌*◌, length, ltb, ℤ, pos, nat_abs, ◌+ℤ◌, ◌-ℤ◌, ◌*ℤ◌}
use Rattle.std.specs.Int.Signed.{le_z}
use Rattle.numbers.specs.Numbers.{sum}
use Rattle.roots.specs.Round.{round_even}
use Rattle.station.specs.declared.Staffs.{Staffs}
use Rattle.station.specs.Station.{scale_of}
use Rattle.adjust.specs.declared.Opening.{Opening}
use Rattle.adjust.specs.declared.Section.{Section}
use Rattle.adjust.specs.declared.Point.{Point}
use Rattle.adjust.specs.declared.Totals.{Totals}
use Rattle.adjust.specs.declared.Summary.{Summary}
use Rattle.adjust.specs.declared.Verdict.{Verdict}
use Rattle.adjust.specs.declared.Verdict.TheVariants.{NotGiven, Within, Above}
use Rattle.adjust.specs.declared.Frame.{Frame}
use Rattle.adjust.specs.declared.terms.Terms.{Terms}
use Rattle.adjust.specs.Terms.{squared_of, terms_of}
use Rattle.adjust.specs.Prints.{prints_of}

-- the base's units to a millimetre: Q and W are in quarter mm
abbrev pub quarters : ℤ
quarters = pos 4

-- those of Q and W by the staffs: where their constants were measured, in tenths of a millimetre, Q and W are in a tenth of the base's unit (document 02, W-203)
abbrev pub units_of : Staffs → ℤ
units_of c = pos (4 * scale_of c)

-- L, half dm
abbrev pub line_length : List Section → ℤ
line_length ss = sum (map (λ (x : Section). x.distance) ss)

-- ΣQ, in the units of Q
abbrev pub line_height : List Section → ℤ
line_height ss = sum (map (λ (x : Section). x.height) ss)

-- W, in the units of Q, of a ΣQ between the known heights `start` and `end`, mm
abbrev pub closure_by : ℤ → ℤ → ℤ → ℤ → ℤ
closure_by units start end q = units *ℤ start +ℤ q -ℤ units *ℤ end

-- of the sections between these
abbrev pub closure : ℤ → ℤ → ℤ → List Section → ℤ
closure units start end ss = closure_by units start end (line_height ss)

abbrev pub totals : ℤ → ℤ → ℤ → List Section → Totals
totals units start end ss = record { closure = closure units start end ss; distance = line_length ss }

-- W and L of a line by its class: where the end is not known, W is 0 (document 02, W-202)
abbrev pub totals_by : Terms → Totals → Totals
totals_by terms t = record { closure = cond terms.tied t.closure (pos 0); distance = t.distance }

-- ---- heights

-- what the heights of a line are computed from: the units to a millimetre of Q and W, those of printed heights, the known height at the start, W and L. `Frame` in the code says what each field is in
abbrev pub frame : ℤ → ℤ → ℤ → Totals → Frame
frame units prints start t = record { units = units; prints = prints; start = start; closure = t.closure; total = t.distance }

-- of sections between the known heights `start` and `end`
abbrev pub frame_of : ℤ → ℤ → ℤ → ℤ → List Section → Frame
frame_of units prints start end ss = frame units prints start (totals units start end ss)

-- of a line opened as o, up to its end height, which is a placeholder where the end is not known, in any print unit: so many to a millimetre
abbrev pub frame_by : ℕ → Opening → ℤ → List Section → Frame
frame_by prints o end ss =
    let units : ℤ = units_of o.staffs in
    frame units (pos prints) o.start.height (totals_by (terms_of o.class) (totals units o.start.height end ss))

-- and in its own
abbrev pub line_frame : Opening → ℤ → List Section → Frame
line_frame o end ss = frame_by (prints_of o.print_unit) o end ss

-- the exact height at running sums q (of Q) and s (of R) is exact_top / (units × total) print units
abbrev pub exact_top : Frame → ℤ → ℤ → ℤ
exact_top f q s = f.prints *ℤ (f.units *ℤ f.start *ℤ f.total +ℤ q *ℤ f.total -ℤ f.closure *ℤ s)

abbrev pub printed_height : Frame → ℤ → ℤ → ℤ
printed_height f q s = round_even (exact_top f q s) (nat_abs (f.units *ℤ f.total))

-- the point at the end of the section x, after one at running sums q and s whose printed height is h; corrections are in 1 / (units × prints) mm
abbrev pub point_after : Frame → ℤ → ℤ → ℤ → Section → Point
point_after f q s h x =
    let g : ℤ = printed_height f (q +ℤ x.height) (s +ℤ x.distance) in
    record { number = x.number; distance = s +ℤ x.distance; correction = f.units *ℤ (g -ℤ h) -ℤ f.prints *ℤ x.height; height = g }

-- the points of the sections after one at running sums q and s whose printed height is h
abbrev pub points_after : Frame → ℤ → ℤ → ℤ → List Section → List Point
points_after f q s h [] = []
points_after f q s h (x ∷ xs) =
    point_after f q s h x ∷ points_after f (q +ℤ x.height) (s +ℤ x.distance) (printed_height f (q +ℤ x.height) (s +ℤ x.distance)) xs

-- one point a section
abbrev pub section_points : Frame → List Section → List Point
section_points f ss = points_after f (pos 0) (pos 0) (f.prints *ℤ f.start) ss

-- the start, under its number, and the sections' points
abbrev pub points : Frame → ℤ → List Section → List Point
points f number ss = record { number = number; distance = pos 0; correction = pos 0; height = f.prints *ℤ f.start } ∷ section_points f ss

-- ---- the accidental error

-- t, hundredths of mm² per km. D is in half mm or in equal parts of it, and `squared` is the square of their number: 1 for half mm
abbrev pub accidental : ℕ → Section → ℤ
accidental squared x = round_even (pos 500000 *ℤ (x.discrepancy *ℤ x.discrepancy)) (squared * nat_abs x.distance)

-- t of a section by the class of its line: 0 where sections are levelled one way
abbrev pub section_error : Terms → ℕ → Section → ℤ
section_error terms squared x = cond terms.double (accidental squared x) (pos 0)

-- T
abbrev pub accidental_sum : Terms → ℕ → List Section → ℤ
accidental_sum terms squared ss = sum (map (section_error terms squared) ss)

-- none below 20 sections and where they are levelled one way
abbrev pub verdict : Terms → ℕ → ℤ → Verdict
verdict terms n t = cond (not terms.double || ltb n 20) NotGiven (cond (le_z t (terms.accidental *ℤ pos n)) Within Above)

-- its number in the report and in what C is given
abbrev pub verdict_number : Verdict → ℕ
verdict_number NotGiven = 0
verdict_number Within = 1
verdict_number Above = 2

-- ---- what closing a line gives

pub record Closing : Type 0 where
  pub summary : Summary
  pub points : List Point

-- in any print unit
abbrev pub closing_by : ℕ → Opening → ℤ → List Section → Closing
closing_by prints o end ss =
    let f : Frame = frame_by prints o end ss in
    let terms : Terms = terms_of o.class in
    let t : ℤ = accidental_sum terms (squared_of o.staffs) ss in
    record {
      -- W as printed, in the corrections' unit
      summary = record { closure = f.prints *ℤ f.closure; distance = f.total; count = length ss; accidental = t; verdict = verdict terms (length ss) t };
      points = points f o.start.number ss;
    }

-- and in the line's own
abbrev pub closing : Opening → ℤ → List Section → Closing
closing o end ss = closing_by (prints_of o.print_unit) o end ss
