-- A run shot again, judged by source document 003, 6.11.2 a to c (document 02, W-209): the run that was levelled first ('old') and the one that was shot again in the same
-- direction ('new') are two texts of STA lines, without a title; of the opposite run its G and s are given.
use Rattle.std.specs.Prelude.{◌≡◌, Bool, true, not, cond, ◌&&◌, ◌||◌, IfOk, List, [], ◌∷◌, ℕ, ◌*◌, ◌%◌, eqb, nat_eq, ℤ, pos, ◌+ℤ◌, ◌-ℤ◌, ◌*ℤ◌}
use Rattle.std.specs.List.{starts_with}
use Rattle.std.specs.declared.result.Result.{Result}
use Prim.Native.String.{String}
use Rattle.numbers.specs.Numbers.{within, between, eq_z}
use Rattle.numbers.specs.Tables.{first_of}
use Rattle.roots.specs.Limit.{is_within}
use Rattle.records.specs.declared.Tag.TheVariants.{Sta}
use Rattle.records.specs.declared.Refusal.{Refusal}
use Rattle.records.specs.Refusals.{number_of}
use Rattle.station.specs.declared.Instrument.{Instrument}
use Rattle.adjust.specs.declared.terms.Class.{Class}
use Rattle.adjust.specs.declared.terms.Class.TheVariants.{Third, Spur}
use Rattle.adjust.specs.declared.terms.Root.{Root}
use Rattle.adjust.specs.Terms.{terms_of}
use Rattle.rules.specs.declared.Run.{Run}
use Rattle.rules.specs.Rules.{instrument_of, unopened, collimated, counted_length}
use Rattle.columns.specs.Ascii.{bytes_of}
use Rattle.columns.specs.Records.{letters}
use Rattle.columns.specs.Texts.{lines}
use Rattle.ledger.specs.Plain.{Reading, opened, plain_state}
use Rattle.ledger.specs.Entries.{entry_refusal, entry_next}
use Rattle.textbook.specs.Text.{line_entry, reading_after}
use Rattle.repeat.specs.declared.Judgement.{Judgement}
use Rattle.repeat.specs.declared.Judgement.TheVariants.{New, Mean, Opposite}

-- ---- the run of a text

-- before its first station, as at the first of a book's line: nothing is in any list, the level counts as tested, the staffs have nominal constants, and either may be the first
abbrev pub ready : Class → Instrument → Reading
ready k instrument = opened (collimated (record unopened { class = k; instrument = instrument }))

-- a line of a text is a station that a book takes after those of the reading r
abbrev pub is_station : Reading → List ℕ → Bool
is_station r l = starts_with nat_eq l (letters Sta) && eqb (entry_refusal r (line_entry l)) 0

unfoldable pub all_stations : Reading → List (List ℕ) → Bool
all_stations r [] = true
all_stations r (l ∷ ls) = is_station r l && all_stations (entry_next r (line_entry l)) ls

-- how many stations they are, with G and s
unfoldable pub run_in : Class → Instrument → List ℕ → Run
run_in k instrument text = (plain_state (reading_after (ready k instrument) (lines text))).line.present

-- stations alone, an even number of them and not none
unfoldable pub is_run : Class → Instrument → List ℕ → Bool
is_run k instrument text =
    let n : ℕ = (run_in k instrument text).count in
    all_stations (ready k instrument) (lines text) && not (eqb n 0 || eqb (n % 2) 1)

-- ---- what is given beside the texts

-- third order, 3, or a spur, 4
abbrev pub class_of : ℤ → Class
class_of n = cond (eq_z n (pos 3)) Third Spur

abbrev pub named : ℤ → ℤ → Bool
named order instrument = (eq_z order (pos 3) || eq_z order (pos 4)) && (eq_z instrument (pos 1) || eq_z instrument (pos 3))

-- the opposite run's G, half mm, and s, dm
abbrev pub opposite_in_range : ℤ → ℤ → Bool
opposite_in_range g s = within g 1250000 && between (pos 8) s (pos 600000)

-- both texts are runs, and the opposite run's figures are in their ranges
abbrev pub can_judge : Class → Instrument → List ℕ → List ℕ → ℤ → ℤ → Bool
can_judge k i first second g s = is_run k i first && is_run k i second && opposite_in_range g s

abbrev pub judge_tests : List ℕ → List ℕ → ℤ → ℤ → ℤ → ℤ → List (ℕ × Bool)
judge_tests first second order instrument g s =
    (3, not (named order instrument)) ∷ (52, not (can_judge (class_of order) (instrument_of instrument) first second g s)) ∷ []

unfoldable pub judge_refusal : List ℕ → List ℕ → ℤ → ℤ → ℤ → ℤ → ℕ
judge_refusal first second order instrument g s = first_of (judge_tests first second order instrument g s)

-- ---- the judgement

-- a discrepancy d, half mm, is within the root of R, half dm; R counts as it does for D
abbrev pub near : Root → ℤ → ℤ → Bool
near root r d = is_within root.a d root.b (counted_length r)

-- the root for a discrepancy that is told by its double, as that of a mean, which is not rounded: the square is four times as large
abbrev pub doubled : Root → Root
doubled root = record { a = root.a; b = 4 * root.b }

-- by three comparisons: the new run against the old one, their mean and the new run against the opposite one
abbrev pub chosen : Bool → Bool → Bool → Judgement
chosen old mean opposite = cond (old && mean) Mean (cond opposite New Opposite)

-- of G of the old run, of the new one in the same direction and of the opposite one, by R of the section's first two runs
abbrev pub judged : Root → ℤ → ℤ → ℤ → ℤ → Judgement
judged root r old new opposite =
    chosen (near root r (new -ℤ old)) (near (doubled root) r (old +ℤ new +ℤ pos 2 *ℤ opposite)) (near root r (new +ℤ opposite))

-- of two texts, by the class, the instrument, and the opposite run's G and s
unfoldable pub judgement : Class → Instrument → List ℕ → List ℕ → ℤ → ℤ → Judgement
judgement k i first second g s =
    let old : Run = run_in k i first in judged (terms_of k).apart (old.sights +ℤ s) old.height (run_in k i second).height g

-- and by what the order and the instrument name
abbrev pub judgement_of : List ℕ → List ℕ → ℤ → ℤ → ℤ → ℤ → Judgement
judgement_of first second order instrument g s = judgement (class_of order) (instrument_of instrument) first second g s

-- r has the documents' number, and where that is none the judgement
pub record Judges (first second : List ℕ) (order instrument g s : ℤ) (r : Result Judgement Refusal) : Type 0 where
  pub number : number_of r ≡ judge_refusal first second order instrument g s
  pub given : IfOk r (λ j. j ≡ judgement_of first second order instrument g s)

-- ---- the lines of the run that stands

-- the whole second text for the new run, the whole first for the mean, and neither where the opposite run is due
abbrev pub standing : {A : Type 0} → Judgement → A → A → A → A
standing New first second neither = second
standing Mean first second neither = first
standing Opposite first second neither = neither

-- ---- as a number

-- 1 the new run stands, 2 the mean, 3 the opposite run is due
abbrev pub judgement_number : Judgement → ℕ
judgement_number New = 1
judgement_number Mean = 2
judgement_number Opposite = 3

-- a lent place after the call: the judgement's number, or as it was where the call is refused
abbrev pub judgement_after : List ℕ → List ℕ → ℤ → ℤ → ℤ → ℤ → ℕ → ℕ
judgement_after first second order instrument g s old =
    cond (eqb (judge_refusal first second order instrument g s) 0) (judgement_number (judgement_of first second order instrument g s)) old

-- ---- the program

-- what is printed: a line of words
abbrev pub words : Judgement → String
words New = "NEW RUN STANDS\n"
words Mean = "MEAN STANDS\n"
words Opposite = "OPPOSITE RUN DUE\n"

-- or the refusal
abbrev pub refused : ℕ → String
refused n = cond (eqb n 3) "REFUSED 3\n" "REFUSED 52\n"

abbrev pub printed : ℕ → Judgement → String
printed n j = cond (eqb n 0) (words j) (refused n)

-- the bytes, of the bytes of the two texts
unfoldable pub printed_of : List ℕ → List ℕ → ℤ → ℤ → ℤ → ℤ → List ℕ
printed_of first second order instrument g s =
    bytes_of (printed (judge_refusal first second order instrument g s) (judgement_of first second order instrument g s))
