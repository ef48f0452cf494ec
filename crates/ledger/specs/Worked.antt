-- The starred lines of document 01, 'Checked by hand', as one fact that the rules compute; a spur, short sections, the collimation test, measured constants, a lift and tenths (document 02, W-202,
-- W-201, W-204, W-203, W-210 and W-214) as others. What does not speak of the print unit is printed in whole millimetres.
use Rattle.std.specs.Prelude.{◌≡◌, refl, List, [], ◌∷◌, ◌++◌, map, ℕ, ◌+◌, ◌-◌, ℤ, pos, neg_ℤ, ◌*ℤ◌}
use Rattle.roots.specs.Round.{round_even}
use Rattle.roots.specs.Limit.{is_within}
use Rattle.collimation.specs.Collimation.{within_angle}
use Rattle.station.specs.declared.Staffs.TheVariants.{Nominal, Measured}
use Rattle.station.specs.declared.Station.{Station}
use Rattle.station.specs.Station.{station_of, sight_difference, face_difference, twice_height}
use Rattle.adjust.specs.declared.Section.{Section}
use Rattle.adjust.specs.declared.SectionSums.{SectionSums}
use Rattle.adjust.specs.declared.Point.{Point}
use Rattle.adjust.specs.declared.Frame.{Frame}
use Rattle.adjust.specs.Call.{adjust_refusal, adjusted_heights}
use Rattle.adjust.specs.Line.{quarters, frame_of, exact_top, closure, Closing, accidental}
use Rattle.rules.specs.LineState.{LineState, outward_or_return, both_ways}
use Rattle.rules.specs.declared.call.Call.{Call}
use Rattle.rules.specs.declared.call.Call.TheVariants.{OpenLine as open_line, Station as station, EndRun as end_run, CloseLine as close_line, OpenSpur as open_spur, CloseSpur as close_spur, Collimation as collimation, DropRun as drop_run, DropSection as drop_section, Constants as constants, LiftSection as lift_section}
use Rattle.ledger.specs.Plain.{fresh_reading, after, refusals, plain_state, run_of, closings}

-- ---- the stations of case A

-- upper thread, lower thread, black and red middle
abbrev staff : ℕ → ℕ → ℕ → ℕ → List ℤ
staff u l m r = pos u ∷ pos l ∷ pos m ∷ pos r ∷ []

abbrev readings1 : List (List ℤ)
readings1 = staff 1571 1197 1384 6171 ∷ staff 739 363 551 5239 ∷ []

abbrev readings2 : List (List ℤ)
readings2 = staff 1965 1700 1832 6519 ∷ staff 2141 1874 2007 6793 ∷ []

-- back again over the same section, the last black and red readings open
abbrev back_readings1 : List (List ℤ)
back_readings1 = staff 2141 1874 2007 6694 ∷ staff 1965 1700 1832 6619 ∷ []

abbrev back_readings2 : ℕ → ℕ → List (List ℤ)
back_readings2 black red = staff 739 363 551 5338 ∷ staff 1571 1197 black red ∷ []

abbrev a1 : Call
a1 = station (pos 4787) (pos 4687) readings1

abbrev a2 : Call
a2 = station (pos 4687) (pos 4787) readings2

abbrev a3 : Call
a3 = station (pos 4787) (pos 4687) (staff 1300 1100 1200 5987 ∷ staff 1000 800 900 5587 ∷ [])

abbrev a4 : Call
a4 = station (pos 4687) (pos 4787) (staff 1500 1300 1400 6087 ∷ staff 1250 1050 1150 5937 ∷ [])

-- fourth order, DS3, from benchmark 1
abbrev open4 : ℕ → Call
open4 height = open_line (pos 4) (pos 3) (pos 1) (pos height) (pos 1)

-- a level that is adjusted: the values of GB 12898-91, Table B7 (document 02, W-204)
abbrev tested : Call
tested = collimation (pos 5937 ∷ pos 5951 ∷ pos 6043 ∷ pos 6067 ∷ pos 6800 ∷ pos 40300 ∷ [])

-- ---- the starred lines

abbrev s1 : Station
s1 = station_of (pos 4787) (pos 4687) readings1

abbrev s2 : Station
s2 = station_of (pos 4687) (pos 4787) readings2

-- A's section 1 alone, and A's section 2 twice, between two heights
abbrev one : ℕ → ℕ → List Call
one start end = open4 start ∷ tested ∷ a1 ∷ a2 ∷ end_run (pos 2) ∷ close_line (pos 2) (pos end) ∷ []

abbrev two_by : Call → ℕ → List Call
two_by opening end = opening ∷ tested ∷ a3 ∷ a4 ∷ end_run (pos 2) ∷ a3 ∷ a4 ∷ end_run (pos 3) ∷ close_line (pos 3) (pos end) ∷ []

abbrev two : ℕ → ℕ → List Call
two start end = two_by (open4 start) end

-- A's section 1 at third order, out and back, before its end and with it
abbrev gone_back : ℕ → List Call
gone_back red =
    open_line (pos 3) (pos 3) (pos 1) (pos 10000) (pos 1) ∷ tested ∷ a1 ∷ a2 ∷ end_run (pos 2)
    ∷ station (pos 4687) (pos 4787) back_readings1 ∷ station (pos 4787) (pos 4687) (back_readings2 1380 red) ∷ []

abbrev out_and_back : ℕ → List Call
out_and_back red = gone_back red ++ (end_run (pos 1) ∷ [])

-- the section that the end of the return is judged by: of what waits and the present run
abbrev returned : ℕ → List Section
returned red =
    let v : LineState = plain_state (after fresh_reading (gone_back red)) in
    outward_or_return v.line.waiting [] (λ number run. both_ways number run v.line.present ∷ [])

abbrev two_frame : ℕ → ℕ → Frame
two_frame start end = frame_of quarters (pos 1) (pos start) (pos end) (plain_state (after fresh_reading (two start end))).sections

abbrev section : ℕ → ℕ → ℕ → ℕ → Section
section n q r d = record { number = pos n; height = pos q; distance = pos r; discrepancy = pos d }

abbrev closures : List Closing → List ℤ
closures cs = map (λ (c : Closing). c.summary.closure) cs

abbrev heights : List Closing → List (List ℤ)
heights cs = map (λ (c : Closing). map (λ (p : Point). p.height) c.points) cs

pub record Starred : Type 0 where
  -- A's first station
  pub first_d : sight_difference s1 ≡ neg_ℤ (pos 2)
  pub first_back_e : face_difference Nominal s1.back ≡ pos 0
  pub first_fore_e : face_difference Nominal s1.fore ≡ neg_ℤ (pos 1)
  pub first_height : twice_height Nominal s1 ≡ pos 1665
  -- its second
  pub second_back_e : face_difference Nominal s2.back ≡ pos 0
  pub second_fore_e : face_difference Nominal s2.fore ≡ pos 1
  pub second_height : twice_height Nominal s2 ≡ neg_ℤ (pos 349)
  pub accumulated : (run_of Nominal (s1 ∷ s2 ∷ [])).difference ≡ neg_ℤ (pos 4)
  -- A's section 1, and that section alone from 10000
  pub section_1 : (plain_state (after fresh_reading (one 10000 10651))).sections ≡ section 2 2632 2564 0 ∷ []
  pub w28 : closures (closings fresh_reading (one 10000 10651)) ≡ pos 28 ∷ []
  pub w28_taken : refusals fresh_reading (one 10000 10651) ≡ 0 ∷ 0 ∷ 0 ∷ 0 ∷ 0 ∷ 0 ∷ []
  pub w32 : closure quarters (pos 10000) (pos 10650) (plain_state (after fresh_reading (one 10000 10650))).sections ≡ pos 32
  pub w32_refused : refusals fresh_reading (one 10000 10650) ≡ 0 ∷ 0 ∷ 0 ∷ 0 ∷ 0 ∷ 36 ∷ []
  -- R 2564: the end of a return with D 8 is taken, with D 9 refused
  pub d8 : returned 6067 ≡ section 2 2624 2564 8 ∷ []
  pub d8_taken : refusals fresh_reading (out_and_back 6067) ≡ 0 ∷ 0 ∷ 0 ∷ 0 ∷ 0 ∷ 0 ∷ 0 ∷ 0 ∷ []
  pub d9 : returned 6066 ≡ section 2 2623 2564 9 ∷ []
  pub d9_refused : refusals fresh_reading (out_and_back 6066) ≡ 0 ∷ 0 ∷ 0 ∷ 0 ∷ 0 ∷ 0 ∷ 0 ∷ 32 ∷ []
  pub t : accidental 1 (section 2 0 20000 24) ≡ pos 14400
  -- A's section 2 twice: the middle is 21099 / 2 and 21101 / 2, at Q 2200 and R 1600
  pub section_2 : (plain_state (after fresh_reading (two 10000 11099))).sections ≡ section 2 2200 1600 0 ∷ section 3 2200 1600 0 ∷ []
  pub tie_1_w : closures (closings fresh_reading (two 10000 11099)) ≡ pos 4 ∷ []
  pub tie_1_exact : pos 2 *ℤ exact_top (two_frame 10000 11099) (pos 2200) (pos 1600)
      ≡ pos 21099 *ℤ ((two_frame 10000 11099).units *ℤ (two_frame 10000 11099).total)
  pub tie_1 : heights (closings fresh_reading (two 10000 11099)) ≡ (pos 10000 ∷ pos 10550 ∷ pos 11099 ∷ []) ∷ []
  pub tie_2_exact : pos 2 *ℤ exact_top (two_frame 10001 11100) (pos 2200) (pos 1600)
      ≡ pos 21101 *ℤ ((two_frame 10001 11100).units *ℤ (two_frame 10001 11100).total)
  pub tie_2 : heights (closings fresh_reading (two 10001 11100)) ≡ (pos 10001 ∷ pos 10550 ∷ pos 11100 ∷ []) ∷ []

pub starred : Starred
unfolding round_even is_within within_angle
starred =
    record {
      first_d = refl;
      first_back_e = refl;
      first_fore_e = refl;
      first_height = refl;
      second_back_e = refl;
      second_fore_e = refl;
      second_height = refl;
      accumulated = refl;
      section_1 = refl;
      w28 = refl;
      w28_taken = refl;
      w32 = refl;
      w32_refused = refl;
      d8 = refl;
      d8_taken = refl;
      d9 = refl;
      d9_refused = refl;
      t = refl;
      section_2 = refl;
      tie_1_w = refl;
      tie_1_exact = refl;
      tie_1 = refl;
      tie_2_exact = refl;
      tie_2 = refl;
    }

-- ---- a spur

-- fourth order, DS3, from benchmark 1
abbrev spur_in : ℕ → Call
spur_in prints = open_spur (pos 4) (pos 3) (pos 1) (pos 10000) (pos prints)

abbrev spur : Call
spur = spur_in 1

-- A's section 1 out and back
abbrev spur_by : Call → ℕ → ℕ → List Call
spur_by opening black red =
    opening ∷ tested ∷ a1 ∷ a2 ∷ end_run (pos 2)
    ∷ station (pos 4687) (pos 4787) back_readings1 ∷ station (pos 4787) (pos 4687) (back_readings2 black red) ∷ end_run (pos 1) ∷ []

abbrev spur_out_and_back : ℕ → ℕ → List Call
spur_out_and_back black red = spur_by spur black red

-- number and height of each point, and the corrections
abbrev marks : List Closing → List (List (ℤ × ℤ))
marks cs = map (λ (c : Closing). map (λ (p : Point). (p.number, p.height)) c.points) cs

abbrev corrected : List Closing → List (List ℤ)
corrected cs = map (λ (c : Closing). map (λ (p : Point). p.correction) c.points) cs

-- R 2564: a return with D 14 is taken, with D 15 refused. FIN closes it, END does not; a height of 10654.5 is printed as the even 10654
pub record SpurWorked : Type 0 where
  pub d14 : (plain_state (after fresh_reading (spur_out_and_back 1377 6064))).sections ≡ section 2 2618 2564 14 ∷ []
  pub d14_taken : refusals fresh_reading (spur_out_and_back 1377 6064) ≡ 0 ∷ 0 ∷ 0 ∷ 0 ∷ 0 ∷ 0 ∷ 0 ∷ 0 ∷ []
  pub d15_refused : refusals fresh_reading (spur_out_and_back 1377 6063) ≡ 0 ∷ 0 ∷ 0 ∷ 0 ∷ 0 ∷ 0 ∷ 0 ∷ 32 ∷ []
  pub by_end : refusals (after fresh_reading (spur_out_and_back 1377 6064)) (close_line (pos 2) (pos 10655) ∷ close_line (pos 0) (pos 0) ∷ close_spur (pos 1) ∷ close_spur (pos 2) ∷ close_spur (pos 2) ∷ [])
      ≡ 41 ∷ 4 ∷ 34 ∷ 0 ∷ 21 ∷ []
  pub no_closure : closures (closings fresh_reading (spur_out_and_back 1377 6064 ++ (close_spur (pos 2) ∷ []))) ≡ pos 0 ∷ []
  pub heights_even : marks (closings fresh_reading (spur_out_and_back 1377 6064 ++ (close_spur (pos 2) ∷ []))) ≡ ((pos 1, pos 10000) ∷ (pos 2, pos 10654) ∷ []) ∷ []
  pub corrections_left : corrected (closings fresh_reading (spur_out_and_back 1377 6064 ++ (close_spur (pos 2) ∷ []))) ≡ (pos 0 ∷ neg_ℤ (pos 2) ∷ []) ∷ []
  pub t : map (λ (c : Closing). c.summary.accidental) (closings fresh_reading (spur_out_and_back 1377 6064 ++ (close_spur (pos 2) ∷ []))) ≡ pos 38222 ∷ []
  -- its second section may not end on the start number, as a line's may; FIN does not close a line that is no spur, nor a fresh book; a spur is of fourth order
  pub no_loop : refusals (after fresh_reading (spur_out_and_back 1377 6064)) (a1 ∷ a2 ∷ end_run (pos 1) ∷ end_run (pos 3) ∷ []) ≡ 0 ∷ 0 ∷ 30 ∷ 0 ∷ []
  pub loop : refusals (after fresh_reading (out_and_back 6067)) (a1 ∷ a2 ∷ end_run (pos 1) ∷ []) ≡ 0 ∷ 0 ∷ 0 ∷ []
  pub fin_on_line : refusals fresh_reading (close_spur (pos 2) ∷ open4 10000 ∷ tested ∷ a1 ∷ a2 ∷ end_run (pos 2) ∷ close_spur (pos 2) ∷ []) ≡ 21 ∷ 0 ∷ 0 ∷ 0 ∷ 0 ∷ 0 ∷ 41 ∷ []
  pub order_3 : refusals fresh_reading (open_spur (pos 3) (pos 3) (pos 1) (pos 10000) (pos 1) ∷ []) ≡ 3 ∷ []

pub spur_worked : SpurWorked
unfolding round_even is_within within_angle
spur_worked =
    record {
      d14 = refl;
      d14_taken = refl;
      d15_refused = refl;
      by_end = refl;
      no_closure = refl;
      heights_even = refl;
      corrections_left = refl;
      t = refl;
      no_loop = refl;
      loop = refl;
      fin_on_line = refl;
      order_3 = refl;
    }

-- ---- short sections

-- a staff k with a sight of s dm, read h lower on the black face and g lower on the red
abbrev sighted : ℕ → ℕ → ℕ → ℕ → List ℤ
sighted k s h g = staff (1500 + s - h) (1500 - h) (1501 - h) (1501 + k - g)

abbrev level : ℕ → ℕ → ℕ → Call
level kb kf s = station (pos kb) (pos kf) (sighted kb s 0 0 ∷ sighted kf s 0 0 ∷ [])

-- what the calls of a level section out and back answer: sights of s, the last one of t, whose staff is read lower. R is 7 s + t, D is h + g
abbrev short : Call → ℕ → ℕ → ℕ → ℕ → List ℕ
short opening s t h g =
    refusals fresh_reading
    (opening ∷ tested ∷ level 4787 4687 s ∷ level 4687 4787 s ∷ end_run (pos 2)
    ∷ level 4687 4787 s ∷ station (pos 4787) (pos 4687) (sighted 4787 s 0 0 ∷ sighted 4687 t h g ∷ []) ∷ end_run (pos 1) ∷ [])

abbrev third : Call
third = open_line (pos 3) (pos 3) (pos 1) (pos 10000) (pos 1)

-- the end of the return is answered with n, all before it is taken
abbrev ends : ℕ → List ℕ
ends n = 0 ∷ 0 ∷ 0 ∷ 0 ∷ 0 ∷ 0 ∷ 0 ∷ n ∷ []

-- R 16, 1999 and 2000 have one limit of D: 7 at third order, 12 on a spur
pub record ShortWorked : Type 0 where
  pub third_16 : (short third 2 2 4 3 ≡ ends 0) × (short third 2 2 4 4 ≡ ends 32)
  pub third_1999 : (short third 250 249 4 3 ≡ ends 0) × (short third 250 249 4 4 ≡ ends 32)
  pub third_2000 : (short third 250 250 4 3 ≡ ends 0) × (short third 250 250 4 4 ≡ ends 32)
  pub spur_16 : (short spur 2 2 6 6 ≡ ends 0) × (short spur 2 2 7 6 ≡ ends 32)
  pub spur_1999 : (short spur 250 249 6 6 ≡ ends 0) × (short spur 250 249 7 6 ≡ ends 32)
  pub spur_2000 : (short spur 250 250 6 6 ≡ ends 0) × (short spur 250 250 7 6 ≡ ends 32)
  -- t keeps R itself
  pub t_16 : (accidental 1 (section 2 0 16 7) ≡ pos 1531250) × (accidental 1 (section 2 0 16 12) ≡ pos 4500000)

pub short_worked : ShortWorked
unfolding round_even is_within within_angle
short_worked =
    record {
      third_16 = (refl, refl);
      third_1999 = (refl, refl);
      third_2000 = (refl, refl);
      spur_16 = (refl, refl);
      spur_1999 = (refl, refl);
      spur_2000 = (refl, refl);
      t_16 = (refl, refl);
    }

-- ---- the collimation test

-- U is 27, the first above 20'' at these distances
abbrev untrue : Call
untrue = collimation (pos 5937 ∷ pos 5951 ∷ pos 6080 ∷ pos 6067 ∷ pos 6800 ∷ pos 40300 ∷ [])

-- no station before one is taken; one above 20'' is refused and may be tried again; a second one is not taken, nor one on a fresh book, nor values out of range
pub tested_first : refusals fresh_reading (tested ∷ open4 10000 ∷ a1 ∷ untrue ∷ a1 ∷ collimation [] ∷ tested ∷ a1 ∷ tested ∷ [])
    ≡ 21 ∷ 0 ∷ 46 ∷ 45 ∷ 46 ∷ 44 ∷ 0 ∷ 0 ∷ 45 ∷ []
unfolding within_angle
tested_first = refl

-- ---- measured constants

abbrev measured : ℕ → ℕ → Call
measured first second = constants (pos first) (pos second)

-- the nominal constants, given in tenths
abbrev given : Call
given = measured 46870 47870

-- A's section 1 alone and at third order out and back, as above, with constants after it is opened
abbrev measured_by : Call → ℕ → List Call
measured_by opening end = opening ∷ measured 46850 47870 ∷ tested ∷ a1 ∷ a2 ∷ end_run (pos 2) ∷ close_line (pos 2) (pos end) ∷ []

abbrev one_measured : ℕ → List Call
one_measured end = measured_by (open4 10000) end

abbrev back_measured : ℕ → List Call
back_measured red =
    third ∷ measured 46875 47865 ∷ tested ∷ a1 ∷ a2 ∷ end_run (pos 2)
    ∷ station (pos 4687) (pos 4787) back_readings1 ∷ station (pos 4787) (pos 4687) (back_readings2 1380 red) ∷ end_run (pos 1) ∷ []

-- the sections in tenths, and their limits in millimetres
pub record MeasuredWorked : Type 0 where
  -- e of the fore staff: 30 tenths of a millimetre are within 3 mm, 31 are not
  pub e30 : (face_difference (Measured 46850 47870) s1.fore ≡ neg_ℤ (pos 30)) × (refusals fresh_reading (open4 10000 ∷ measured 46850 47870 ∷ tested ∷ a1 ∷ []) ≡ 0 ∷ 0 ∷ 0 ∷ 0 ∷ [])
  pub e31 : (face_difference (Measured 46849 47870) s1.fore ≡ neg_ℤ (pos 31)) × (refusals fresh_reading (open4 10000 ∷ measured 46849 47870 ∷ tested ∷ a1 ∷ []) ≡ 0 ∷ 0 ∷ 0 ∷ 27 ∷ [])
  -- A's section 1 with W 280 and 320
  pub w280 : closures (closings fresh_reading (one_measured 10651)) ≡ pos 280 ∷ []
  pub w280_taken : refusals fresh_reading (one_measured 10651) ≡ 0 ∷ 0 ∷ 0 ∷ 0 ∷ 0 ∷ 0 ∷ 0 ∷ []
  pub w320 : closure (pos 40) (pos 10000) (pos 10650) (plain_state (after fresh_reading (one_measured 10650))).sections ≡ pos 320
  pub w320_refused : refusals fresh_reading (one_measured 10650) ≡ 0 ∷ 0 ∷ 0 ∷ 0 ∷ 0 ∷ 0 ∷ 36 ∷ []
  pub heights_whole : heights (closings fresh_reading (one_measured 10651)) ≡ (pos 10000 ∷ pos 10651 ∷ []) ∷ []
  pub corrections_in_tenths : corrected (closings fresh_reading (one_measured 10651)) ≡ (pos 0 ∷ neg_ℤ (pos 280) ∷ []) ∷ []
  -- R 2564: the end of a return with D 80 is taken, with D 90 refused
  pub d80 : (plain_state (after fresh_reading (back_measured 6067))).sections ≡ section 2 26240 2564 80 ∷ []
  pub d80_taken : refusals fresh_reading (back_measured 6067) ≡ 0 ∷ 0 ∷ 0 ∷ 0 ∷ 0 ∷ 0 ∷ 0 ∷ 0 ∷ 0 ∷ []
  pub d90_refused : refusals fresh_reading (back_measured 6066) ≡ 0 ∷ 0 ∷ 0 ∷ 0 ∷ 0 ∷ 0 ∷ 0 ∷ 0 ∷ 32 ∷ []
  -- t has the unit that it has by nominal constants
  pub t : accidental 100 (section 2 0 20000 240) ≡ pos 14400
  -- outside the ranges, on a fresh book too
  pub range : refusals fresh_reading (measured 46769 47870 ∷ measured 46971 47870 ∷ measured 46870 47769 ∷ measured 46870 47971 ∷ []) ≡ 42 ∷ 42 ∷ 42 ∷ 42 ∷ []
  pub range_ends : (refusals fresh_reading (open4 10000 ∷ measured 46770 47970 ∷ []) ≡ 0 ∷ 0 ∷ []) × (refusals fresh_reading (spur ∷ measured 46970 47770 ∷ []) ≡ 0 ∷ 0 ∷ [])
  -- out of place: on a fresh book; after constants, the collimation test, a station, a dropped run and a dropped section that were taken; on a closed book. A refused call does not count
  pub place_fresh : refusals fresh_reading (given ∷ []) ≡ 43 ∷ []
  pub place_constants : refusals fresh_reading (open4 10000 ∷ given ∷ given ∷ []) ≡ 0 ∷ 0 ∷ 43 ∷ []
  pub place_tested : refusals fresh_reading (open4 10000 ∷ tested ∷ given ∷ []) ≡ 0 ∷ 0 ∷ 43 ∷ []
  pub place_station : refusals fresh_reading (open4 10000 ∷ tested ∷ a1 ∷ given ∷ []) ≡ 0 ∷ 0 ∷ 0 ∷ 43 ∷ []
  pub place_drop : refusals fresh_reading (open4 10000 ∷ drop_run ∷ given ∷ []) ≡ 0 ∷ 0 ∷ 43 ∷ []
  pub place_drop_section : refusals fresh_reading (open4 10000 ∷ drop_section ∷ given ∷ []) ≡ 0 ∷ 0 ∷ 43 ∷ []
  pub place_closed : refusals (after fresh_reading (one_measured 10651)) (given ∷ []) ≡ 43 ∷ []
  pub place_refused : refusals fresh_reading (open4 10000 ∷ a1 ∷ measured 46769 47870 ∷ given ∷ []) ≡ 0 ∷ 46 ∷ 42 ∷ 0 ∷ []

pub measured_worked : MeasuredWorked
unfolding round_even is_within within_angle
measured_worked =
    record {
      e30 = (refl, refl);
      e31 = (refl, refl);
      w280 = refl;
      w280_taken = refl;
      w320 = refl;
      w320_refused = refl;
      heights_whole = refl;
      corrections_in_tenths = refl;
      d80 = refl;
      d80_taken = refl;
      d90_refused = refl;
      t = refl;
      range = refl;
      range_ends = (refl, refl);
      place_fresh = refl;
      place_constants = refl;
      place_tested = refl;
      place_station = refl;
      place_drop = refl;
      place_drop_section = refl;
      place_closed = refl;
      place_refused = refl;
    }

-- ---- a lift

-- A's section 1, and A's section 2 after it on the benchmark n
abbrev section1 : List Call
section1 = a1 ∷ a2 ∷ end_run (pos 2) ∷ []

abbrev section2 : ℕ → List Call
section2 n = a3 ∷ a4 ∷ end_run (pos n) ∷ []

-- ΣQ, L and T that the standing list keeps after these calls
abbrev kept : List Call → List ℤ
kept calls = let s : SectionSums = (plain_state (after fresh_reading calls)).line.sums in s.height ∷ s.distance ∷ s.accidental ∷ []

-- at third order, after a section out and back, of R 2564 and D 8
abbrev third_kept : List Call → List ℤ
third_kept calls = kept (out_and_back 6067 ++ calls)

pub record LiftWorked : Type 0 where
  -- no section, a run present, a run that waits; on a fresh and on a closed book
  pub fresh : refusals fresh_reading (lift_section ∷ []) ≡ 21 ∷ []
  pub none : refusals fresh_reading (open4 10000 ∷ lift_section ∷ tested ∷ lift_section ∷ []) ≡ 0 ∷ 53 ∷ 0 ∷ 53 ∷ []
  pub present : refusals (after fresh_reading (open4 10000 ∷ tested ∷ section1)) (a3 ∷ lift_section ∷ drop_run ∷ lift_section ∷ lift_section ∷ []) ≡ 0 ∷ 53 ∷ 0 ∷ 0 ∷ 53 ∷ []
  pub waits : refusals (after fresh_reading (out_and_back 6067)) (a1 ∷ a2 ∷ end_run (pos 3) ∷ lift_section ∷ drop_section ∷ lift_section ∷ []) ≡ 0 ∷ 0 ∷ 0 ∷ 53 ∷ 0 ∷ 0 ∷ []
  pub closed : refusals (after fresh_reading (one 10000 10651)) (lift_section ∷ []) ≡ 21 ∷ []
  -- a lifted number is free again; a loop that was shut is open again, and its number free once more
  pub free : refusals (after fresh_reading (open4 10000 ∷ tested ∷ section1)) (a3 ∷ a4 ∷ end_run (pos 2) ∷ drop_run ∷ lift_section ∷ section1) ≡ 0 ∷ 0 ∷ 30 ∷ 0 ∷ 0 ∷ 0 ∷ 0 ∷ 0 ∷ []
  pub loop : refusals (after fresh_reading (open4 10000 ∷ tested ∷ section1 ++ section2 1)) (a1 ∷ lift_section ∷ section2 1) ≡ 21 ∷ 0 ∷ 0 ∷ 0 ∷ 0 ∷ []
  -- the test of the level and the constants stay in force; a lift is a taken call, so that constants are out of place after all sections are lifted
  pub tested_stays : refusals (after fresh_reading (open4 10000 ∷ tested ∷ section1)) (lift_section ∷ tested ∷ a1 ∷ []) ≡ 0 ∷ 45 ∷ 0 ∷ []
  pub constants_stay : (plain_state (after fresh_reading (back_measured 6067 ++ (lift_section ∷ [])))).line.opening.staffs ≡ Measured 46875 47865
  pub place : refusals (after fresh_reading (open4 10000 ∷ tested ∷ section1)) (lift_section ∷ given ∷ []) ≡ 0 ∷ 43 ∷ []
  -- the sums of two sections, of the first alone after the second is lifted, and of both again; of none when both are
  pub sums_two : kept (open4 10000 ∷ tested ∷ section1 ++ section2 3) ≡ pos 4832 ∷ pos 4164 ∷ pos 0 ∷ []
  pub sums_one : kept (open4 10000 ∷ tested ∷ section1 ++ section2 3 ++ (lift_section ∷ [])) ≡ pos 2632 ∷ pos 2564 ∷ pos 0 ∷ []
  pub sums_again : kept (open4 10000 ∷ tested ∷ section1 ++ section2 3 ++ (lift_section ∷ section2 3)) ≡ pos 4832 ∷ pos 4164 ∷ pos 0 ∷ []
  pub sums_none : kept (open4 10000 ∷ tested ∷ section1 ++ section2 3 ++ (lift_section ∷ lift_section ∷ [])) ≡ pos 0 ∷ pos 0 ∷ pos 0 ∷ []
  -- and T
  pub t_one : third_kept [] ≡ pos 2624 ∷ pos 2564 ∷ pos 12480 ∷ []
  pub t_none : third_kept (lift_section ∷ []) ≡ pos 0 ∷ pos 0 ∷ pos 0 ∷ []

pub lift_worked : LiftWorked
unfolding round_even is_within within_angle
lift_worked =
    record {
      fresh = refl;
      none = refl;
      present = refl;
      waits = refl;
      closed = refl;
      free = refl;
      loop = refl;
      tested_stays = refl;
      constants_stay = refl;
      place = refl;
      sums_two = refl;
      sums_one = refl;
      sums_again = refl;
      sums_none = refl;
      t_one = refl;
      t_none = refl;
    }

-- ---- tenths

-- fourth order, DS3, from benchmark 1, printed in so many units to a millimetre
abbrev open_in : ℕ → ℕ → Call
open_in prints height = open_line (pos 4) (pos 3) (pos 1) (pos height) (pos prints)

-- a spur that is closed on benchmark 2, whose Q is odd
abbrev odd_spur : ℕ → ℕ → List Call
odd_spur prints black = spur_by (spur_in prints) black 6064 ++ (close_spur (pos 2) ∷ [])

-- of one section of 1 m in Q and 1 km in R, between two known heights, into a list with one place
abbrev adjusted : ℤ → ℕ → ℕ
adjusted end prints = adjust_refusal (pos 0) end (pos prints) (section 0 4000 20000 0 ∷ []) 1

-- W, corrections and heights in tenths of their units; limits by the former W
pub record TenthsWorked : Type 0 where
  -- A's section 2 twice: the middle, 10549.5, needs no rounding
  pub two_w : closures (closings fresh_reading (two_by (open_in 10 10000) 11099)) ≡ pos 40 ∷ []
  pub two_heights : heights (closings fresh_reading (two_by (open_in 10 10000) 11099)) ≡ (pos 100000 ∷ pos 105495 ∷ pos 110990 ∷ []) ∷ []
  pub two_corrected : corrected (closings fresh_reading (two_by (open_in 10 10000) 11099)) ≡ (pos 0 ∷ neg_ℤ (pos 20) ∷ neg_ℤ (pos 20) ∷ []) ∷ []
  -- 10654.75 and 10655.25, ties in tenths, are printed as the even tenths
  pub tie_up : heights (closings fresh_reading (odd_spur 10 1378)) ≡ (pos 100000 ∷ pos 106548 ∷ []) ∷ []
  pub tie_down : heights (closings fresh_reading (odd_spur 10 1380)) ≡ (pos 100000 ∷ pos 106552 ∷ []) ∷ []
  pub tie_corrected : corrected (closings fresh_reading (odd_spur 10 1378)) ≡ (pos 0 ∷ pos 2 ∷ []) ∷ []
  pub tie_whole : heights (closings fresh_reading (odd_spur 1 1378)) ≡ (pos 10000 ∷ pos 10655 ∷ []) ∷ []
  -- with constants both factors multiply: W 280 in fortieths of a millimetre is 2800
  pub measured_w : closures (closings fresh_reading (measured_by (open_in 10 10000) 10651)) ≡ pos 2800 ∷ []
  pub measured_heights : heights (closings fresh_reading (measured_by (open_in 10 10000) 10651)) ≡ (pos 100000 ∷ pos 106510 ∷ []) ∷ []
  pub measured_corrected : corrected (closings fresh_reading (measured_by (open_in 10 10000) 10651)) ≡ (pos 0 ∷ neg_ℤ (pos 2800) ∷ []) ∷ []
  pub measured_refused : refusals fresh_reading (measured_by (open_in 10 10000) 10650) ≡ 0 ∷ 0 ∷ 0 ∷ 0 ∷ 0 ∷ 0 ∷ 36 ∷ []
  -- another print unit, of a line and of a spur: after 5, on an open book too
  pub other_units : refusals fresh_reading (open_in 0 10000 ∷ open_in 2 10000 ∷ open_in 100 10000 ∷ spur_in 0 ∷ spur_in 11 ∷ open_in 0 9000000 ∷ open_in 10 10000 ∷ open_in 0 10000 ∷ open_in 1 10000 ∷ [])
      ≡ 57 ∷ 57 ∷ 57 ∷ 57 ∷ 57 ∷ 5 ∷ 0 ∷ 57 ∷ 21 ∷ []
  -- and in the adjustment call
  pub adjusted_units : map (adjusted (pos 1000)) (1 ∷ 10 ∷ 0 ∷ 100 ∷ []) ≡ 0 ∷ 0 ∷ 57 ∷ 57 ∷ []
  pub adjusted_range : adjusted (pos 9000000) 0 ≡ 5
  pub adjusted_tie : map (λ p. adjusted_heights (pos 10000) (pos 11099) (pos p) (section 0 2200 1600 0 ∷ section 0 2200 1600 0 ∷ [])) (1 ∷ 10 ∷ [])
      ≡ (pos 10550 ∷ pos 11099 ∷ []) ∷ (pos 105495 ∷ pos 110990 ∷ []) ∷ []

pub tenths_worked : TenthsWorked
unfolding round_even is_within within_angle adjust_refusal
tenths_worked =
    record {
      two_w = refl;
      two_heights = refl;
      two_corrected = refl;
      tie_up = refl;
      tie_down = refl;
      tie_corrected = refl;
      tie_whole = refl;
      measured_w = refl;
      measured_heights = refl;
      measured_corrected = refl;
      measured_refused = refl;
      other_units = refl;
      adjusted_units = refl;
      adjusted_range = refl;
      adjusted_tie = refl;
    }
