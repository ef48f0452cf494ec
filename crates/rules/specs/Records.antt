-- The call of each record: its numbers are the call's arguments, in order (document 01, 'The text book and the report'; document 02, W-202 to W-204, W-210 and W-214). Numbers that a record does not
-- have are not looked at.
use Rattle.std.specs.Prelude.{◌≡◌, refl, List, [], ◌∷◌, ℕ, ◌+◌, get_or, ℤ, pos}
use Rattle.records.specs.declared.Tag.{Tag}
use Rattle.records.specs.declared.Tag.TheVariants.{Lin, Sta, Run, Drr, Drs, End, Spr, Fin, Ang, Kon, Lft}
use Rattle.rules.specs.declared.call.Call.{Call}
use Rattle.rules.specs.declared.call.Call.TheVariants.{OpenLine as open_line, Station as station, EndRun as end_run, DropRun as drop_run, DropSection as drop_section, CloseLine as close_line, OpenSpur as open_spur, CloseSpur as close_spur, Collimation as collimation, Constants as constants, LiftSection as lift_section}

-- number k of a record, counted from 0
abbrev pub argument : List ℤ → ℕ → ℤ
argument v k = get_or v k (pos 0)

-- upper thread, lower thread, black middle and red middle, from place k on
abbrev pub readings : List ℤ → ℕ → List ℤ
readings v k = argument v k ∷ argument v (k + 1) ∷ argument v (k + 2) ∷ argument v (k + 3) ∷ []

-- LIN and SPR: order, instrument, start number and height, and the print unit. STA: the constant and the readings of the back staff, then of the fore staff. RUN: the number.
-- END: the last number and the end height. FIN: the last number. ANG: A1, B1, A2, B2, D1 and D2. KON: the constants of the staffs 4,687 and 4,787. DRR, DRS and LFT: none
abbrev pub call_of : Tag → List ℤ → Call
call_of Lin v = open_line (argument v 0) (argument v 1) (argument v 2) (argument v 3) (argument v 4)
call_of Sta v = station (argument v 0) (argument v 5) (readings v 1 ∷ readings v 6 ∷ [])
call_of Run v = end_run (argument v 0)
call_of Drr v = drop_run
call_of Drs v = drop_section
call_of End v = close_line (argument v 0) (argument v 1)
call_of Spr v = open_spur (argument v 0) (argument v 1) (argument v 2) (argument v 3) (argument v 4)
call_of Fin v = close_spur (argument v 0)
call_of Ang v = collimation (argument v 0 ∷ argument v 1 ∷ argument v 2 ∷ argument v 3 ∷ argument v 4 ∷ argument v 5 ∷ [])
call_of Kon v = constants (argument v 0) (argument v 1)
call_of Lft v = lift_section

-- ---- worked

pub example_station : call_of Sta (pos 4687 ∷ pos 1571 ∷ pos 1197 ∷ pos 1384 ∷ pos 6171 ∷ pos 4787 ∷ pos 739 ∷ pos 363 ∷ pos 551 ∷ pos 5239 ∷ [])
    ≡ station (pos 4687) (pos 4787) ((pos 1571 ∷ pos 1197 ∷ pos 1384 ∷ pos 6171 ∷ []) ∷ (pos 739 ∷ pos 363 ∷ pos 551 ∷ pos 5239 ∷ []) ∷ [])
example_station = refl
