-- From what the parts of a call answer to what it makes of a book: an opening by what its numbers name, a station by what is read, and a call that is taken finds the line unbroken.
use mathlib.Core.Path.{◌≡◌, refl, sym, ap, subst, ◌∙◌}
use mathlib.Core.Bool.{Bool, true, false, not, cond, ◌||◌}
use mathlib.Core.List.{List, [], ◌∷◌}
use Prim.Native.Nat.{ℕ}
use native.Mathlib.Omega.{arith}
use lib.Dec.{eqb}
use lib.ListN.{length}
use lib.IntN.{ℤ, pos}
use mir.Syntax.{w64}
use mir.Val.{SFits}
use Rattle.std.specs.Prelude.{Ok, Err, Some, None, MatchOption, IfOk, ⊤}
use Rattle.std.specs.Option.{unwrap_or}
use Rattle.std.specs.declared.option.Option.{Option}
use Rattle.std.specs.declared.result.Result.{Result}
use Rattle.numbers.specs.Numbers.{eq_z, last_of}
use Rattle.numbers.specs.Tables.{first_of}
use Rattle.numbers.proofs.Machine.{stored, stored_id, stored_both}
use Rattle.numbers.proofs.Tables.{first_append, zero_cond, nonzero_cond}
use Rattle.records.specs.declared.Refusal.{Refusal}
use Rattle.records.specs.Refusals.{refusal_number, number_of}
use Rattle.station.specs.declared.Instrument.{Instrument}
use Rattle.station.specs.declared.Figures.{Figures}
use Rattle.station.specs.Station.{station_of, figures_of, reading_refusal, Reads}
use Rattle.station.proofs.Answered.{of_station, of_refused}
use Rattle.adjust.specs.declared.terms.Class.{Class}
use Rattle.adjust.specs.declared.terms.Class.TheVariants.{Spur}
use Rattle.adjust.specs.declared.Section.{Section}
use Rattle.adjust.specs.Sections.{no_section, sections_of, section_fits}
use Rattle.adjust.specs.Kept.{sums_fit}
use Rattle.adjust.proofs.Holding.{sections_count}
use Rattle.rules.specs.declared.Book.{Book}
use Rattle.rules.specs.LineState.{LineState, state_of, is_empty, is_return, constants_in_range, line_broken}
use Rattle.rules.specs.declared.call.Call.{Call}
use Rattle.rules.specs.declared.call.Call.TheVariants.{OpenLine as open_line, OpenSpur as open_spur, Station as station, EndRun as end_run, Constants as constants, LiftSection as lift_section}
use Rattle.rules.specs.Rules.{class_of, instrument_of, last_broken, broken, input_tests, state_tests, book_station_tests, book_refusal, closed_at}
use Rattle.rules.specs.code.Bounds.{SmallRuns, finish_fits}
use Rattle.rules.specs.code.Closed.{closing_on}
use Rattle.rules.specs.code.Opened.{class_named, spur_named, instrument_named, named_refusal}
use Rattle.numbers.proofs.Tests.{no_true, or_l, not-false}
use Rattle.rules.proofs.Tables.{tables, book_fails, line_unbroken}
use Rattle.rules.proofs.Opened.{line_class, instrument, line_refusal, spur_refusal, stored_five}
use Rattle.rules.proofs.Unbroken.{Unbroken, unbroken, small_runs}
use Rattle.rules.proofs.Finished.{finished_fits}
use Rattle.changes.specs.declared.Change.{Change}
use Rattle.changes.specs.declared.Shift.TheVariants.{Same}
use Rattle.changes.specs.Changes.{effect_of, opened, Decides}

-- ---- a call that is taken finds the line unbroken

pub book_unbroken : (b : Book) (c : Call) → book_refusal (state_of b) c ≡ 0 → Unbroken b.line b.sections.count
book_unbroken b c e =
    subst (λ (n : ℕ). Unbroken b.line n) (sections_count b.sections) (unbroken b.line (length (sections_of b.sections)) (line_unbroken (state_of b) c e))

-- and its runs small
pub small_ends : (b : Book) (number : ℤ) → 0 ≡ book_refusal (state_of b) (end_run number) → SmallRuns b.line.waiting b.line.present
small_ends b number e = small_runs b.line b.sections.count (book_unbroken b (end_run number) (sym e))

-- the sums that it keeps are in range
pub sums_small : (b : Book) (c : Call) → 0 ≡ book_refusal (state_of b) c → sums_fit b.line.sums ≡ true
sums_small b c e = (book_unbroken b c (sym e)).sums

-- and so is the section that is finished
pub ends_fit : (b : Book) (number : ℤ) → 0 ≡ book_refusal (state_of b) (end_run number) → finish_fits b.line number ≡ true
ends_fit b number e = finished_fits (state_of b) number (sym e)

-- and the section that is lifted, by the tests 20 and 53
pub lift_fits : (b : Book) {x : Section} → 0 ≡ book_refusal (state_of b) lift_section → x ≡ last_of no_section (sections_of b.sections) → section_fits x ≡ true
lift_fits b {x} e is =
    let test = book_fails (state_of b) lift_section (sym e) in
    let ss : List Section = sections_of b.sections in
    let some = or_l (is_empty ss) (not (eqb b.line.present.count 0)) (or_l (is_empty ss || not (eqb b.line.present.count 0)) (is_return b.line.waiting) (test 53)) in
    let broken = or_l (last_broken (state_of b)) (line_broken b.line (length ss)) (test 20) in
    ap section_fits is ∙ last_fits ss some broken
  where
    last_fits : (ss : List Section) → is_empty ss ≡ false → last_broken (record { line = b.line; sections = ss }) ≡ false → section_fits (last_of no_section ss) ≡ true
    last_fits [] some h = no_true (sym some)
    last_fits (y ∷ ys) some h = not-false (section_fits (last_of y ys)) h

-- constants that are taken are in their ranges
pub constants_fit : (b : Book) (first second : ℤ) → 0 ≡ book_refusal (state_of b) (constants first second) → constants_in_range first second ≡ true
constants_fit b first second e = not-false (constants_in_range first second) (book_fails (state_of b) (constants first second) (sym e) 42)

-- ---- opening, by what the call's numbers name

module _ (b : Book) (number height prints : ℤ) where
  -- what is answered of a class and an instrument
  abbrev Opens : Option Class → Option Instrument → Result Change Refusal → Type 0
  Opens y z r =
      (number_of r ≡ named_refusal (state_of b) y z number height prints)
      × MatchOption y ⊤ (λ (class : Class). MatchOption z ⊤ (λ (instrument : Instrument). IfOk r (λ (x : Change). x ≡ opened class instrument number height prints)))

  -- a refusal gives nothing
  nothing : (P : Change → Type 0) (r : Result Change Refusal) → number_of r ≡ 3 → IfOk r P
  nothing P (Ok x) e = absurd (omega (arith, e))
  nothing P (Err x) e = tt

  -- what is taken is of the class and the instrument that are named
  named : (s t : Bool) (y : Class) (z : Instrument) (r : Result Change Refusal) → Opens (cond s (Some y) None) (cond t (Some z) None) r
      → IfOk r (λ (x : Change). x ≡ opened y z number height prints)
  named true true y z r h = h.1
  named true false y z r h = nothing (λ (x : Change). x ≡ opened y z number height prints) r h.0
  named false t y z r h = nothing (λ (x : Change). x ≡ opened y z number height prints) r h.0

  -- a call c that opens, by what its two numbers name: a class where s, an instrument where t
  opens : (c : Call) (s t : Bool) (class : Class) (z : Instrument) {y : Option Class} {k : Option Instrument} (r : Result Change Refusal)
      → named_refusal (state_of b) y k number height prints ≡ book_refusal (state_of b) c
      → effect_of (state_of b) c ≡ opened class z number height prints
      → y ≡ cond s (Some class) None → k ≡ cond t (Some z) None → Opens y k r → Decides b c r
  opens c s t class z r n e p q h =
      record {
        number = h.0 ∙ n;
        change = changes r (named s t class z r (subst (λ (x : Option Class × Option Instrument). Opens x.0 x.1 r) (λ i. (p i, q i)) h));
      }
    where
      changes : (r : Result Change Refusal) → IfOk r (λ (x : Change). x ≡ opened class z number height prints) → IfOk r (λ (x : Change). x ≡ effect_of (state_of b) c)
      changes (Ok x) f = f ∙ sym e
      changes (Err x) f = tt

  pub opens_line : (o k : ℤ) (r : Result Change Refusal) → Opens (class_named o) (instrument_named k) r → Decides b (open_line o k number height prints) r
  unfolding effect_of
  opens_line o k r h =
      opens (open_line o k number height prints) (eq_z o (pos 3) || eq_z o (pos 4)) (eq_z k (pos 1) || eq_z k (pos 3)) (class_of o) (instrument_of k) r
      (line_refusal (state_of b) number height prints o k) refl (line_class o) (instrument k) h

  pub opens_spur : (o k : ℤ) (r : Result Change Refusal) → Opens (spur_named o) (instrument_named k) r → Decides b (open_spur o k number height prints) r
  unfolding effect_of
  opens_spur o k r h =
      opens (open_spur o k number height prints) (eq_z o (pos 4)) (eq_z k (pos 1) || eq_z k (pos 3)) Spur (instrument_of k) r
      (spur_refusal (state_of b) number height prints o k) refl refl (instrument k) h

-- either of these, which is c, by its law above
pub opens_as : (b : Book) (call : ℤ → ℤ → ℤ → ℤ → ℤ → Call) (named : ℤ → Option Class)
    → ((number height prints o k : ℤ) (r : Result Change Refusal) → Opens b number height prints (named o) (instrument_named k) r → Decides b (call o k number height prints) r)
    → {o k n h p : ℤ} {c : Call} {r : Result Change Refusal} {y : Option Class} {z : Option Instrument} → SFits w64 o → SFits w64 k → SFits w64 n → SFits w64 h → SFits w64 p
    → c ≡ call o k n h p → y ≡ named (stored o) → z ≡ instrument_named (stored k) → Opens b (stored n) (stored h) (stored p) y z r → Decides b c r
opens_as b call named law {o = order} {k = kind} {n = number} {h = height} {p = prints} {r = r} o k n h p is e q d =
    subst (λ (x : Call). Decides b x r) (stored_five call o k n h p ∙ sym is)
    (law (stored number) (stored height) (stored prints) (stored order) (stored kind) r
    (subst (λ (x : Option Class × Option Instrument). Opens b (stored number) (stored height) (stored prints) x.0 x.1 r) (λ i. (e i, q i)) d))

-- ---- a closing, with a known end or without: of a spur 0 stands for it

pub closing_effect : (v : LineState) (number : ℤ) (end : Option ℤ) → effect_of v (closing_on number end) ≡ record { line = closed_at v.line (unwrap_or end (pos 0)); shift = Same }
unfolding effect_of
closing_effect v number None = refl
closing_effect v number (Some end) = refl

-- ---- the end of a run, of a number that fits, as the machine reads it back: a law of its own, which the tactics find where it is needed

pub end_as : {number : ℤ} → SFits w64 number → end_run (stored number) ≡ end_run number
end_as n = ap end_run (stored_id n)

-- ---- a station, by what is read

-- of constants that fit, as the machine reads them back
pub station_as : {kb kf : ℤ} (readings : List (List ℤ)) → SFits w64 kb → SFits w64 kf → station (stored kb) (stored kf) readings ≡ station kb kf readings
station_as readings b f = stored_both (λ kb kf. station kb kf readings) b f

module _ (b : Book) (kb kf : ℤ) (readings : List (List ℤ)) where
  parts : book_refusal (state_of b) (station kb kf readings)
      ≡ cond (eqb (reading_refusal kb kf readings) 0)
      (first_of (book_station_tests (state_of b) kb (figures_of b.line.opening.staffs (station_of kb kf readings)))) (reading_refusal kb kf readings)
  unfolding book_refusal reading_refusal
  parts =
      let c : Call = station kb kf readings in
      first_append (input_tests c) ((20, broken (state_of b) c) ∷ state_tests (state_of b) c) (tables (state_of b) c).inputs

  -- refused for its readings
  pub read_refused : (e : Refusal) → Reads b.line.opening.staffs kb kf readings (Err e) → refusal_number e ≡ book_refusal (state_of b) (station kb kf readings)
  read_refused e h =
      let r = of_refused b.line.opening.staffs kb kf readings e h in
      r.0 ∙ sym (parts ∙ nonzero_cond (reading_refusal kb kf readings) _ (reading_refusal kb kf readings) r.1)

  -- read: the number n of its figures is the call's
  pub read_number : (f : Figures) {n : ℕ} → Reads b.line.opening.staffs kb kf readings (Ok f) → n ≡ first_of (book_station_tests (state_of b) kb f)
      → n ≡ book_refusal (state_of b) (station kb kf readings)
  read_number f {n} h e =
      let r = of_station b.line.opening.staffs kb kf readings h in
      e
      ∙ ap (λ (g : Figures). first_of (book_station_tests (state_of b) kb g)) r.1
      ∙ sym (parts ∙ zero_cond (reading_refusal kb kf readings) _ (reading_refusal kb kf readings) r.0)
