-- A book's calls as a caller makes them: from a fresh book, each on the book that the call before it left, by its own function or by one that makes any call: of a book by value
-- (`take`) or of a book in its place (`enter`). Of each no more is known than its function's contract ensures. `Learnt` is that contract, read from the function itself.
use Rattle.std.specs.Prelude.{◌≡◌, true, false, not, cond, List, [], ◌∷◌, ◌++◌, ℕ, eqb, length, Ok}
use Rattle.std.specs.Borrow.{Bor, MutBor}
use Rattle.numbers.specs.Numbers.{any_of}
use Rattle.records.specs.Refusals.{number_of}
use Rattle.records.specs.declared.Refusal.{Refusal}
use Rattle.std.specs.declared.result.Result.{Result}
use Rattle.adjust.specs.declared.LineFigures.{LineFigures}
use Rattle.adjust.specs.Sections.{sections_of}
use Rattle.adjust.specs.Line.{Closing}
use Rattle.adjust.specs.Kept.{sums_of}
use Rattle.rules.specs.declared.Stage.TheVariants.{Closed}
use Rattle.rules.specs.declared.Book.{Book}
use Rattle.book.specs.declared.Outcome.{Outcome}
use Rattle.rules.specs.LineState.{state_of}
use Rattle.rules.specs.declared.call.Call.{Call}
use Rattle.rules.specs.declared.call.Call.TheVariants.{OpenLine as open_line, Station as station, EndRun as end_run, DropRun as drop_run, DropSection as drop_section, CloseLine as close_line, OpenSpur as open_spur, CloseSpur as close_spur, Collimation as collimation, Constants as constants, LiftSection as lift_section}
use Rattle.rules.specs.Rules.{is_closing}
use Rattle.adjust.specs.Frames.{adjusted_of}
use Rattle.book.specs.Calls.{gave_of}
use Rattle.book.proofs.fresh.Reads as fresh_reads
use Rattle.book.proofs.calls.«open».Reads as open_reads
use Rattle.book.proofs.calls.station.Reads as station_reads
use Rattle.book.proofs.calls.end_run.Reads as end_run_reads
use Rattle.book.proofs.calls.drop_run.Reads as drop_run_reads
use Rattle.book.proofs.calls.drop_section.Reads as drop_section_reads
use Rattle.book.proofs.calls.close_line.Reads as close_line_reads
use Rattle.book.proofs.calls.open_spur.Reads as open_spur_reads
use Rattle.book.proofs.calls.close_spur.Reads as close_spur_reads
use Rattle.book.proofs.calls.collimation.Reads as collimation_reads
use Rattle.book.proofs.calls.constants.Reads as constants_reads
use Rattle.book.proofs.calls.lift_section.Reads as lift_section_reads
use Rattle.book.proofs.calls.figures_of.Reads as figures_of_reads
use Rattle.book.proofs.calls.take.Reads as take_reads
use Rattle.book.proofs.calls.enter.Reads as enter_reads
use Rattle.ledger.specs.Plain.{Reading, fresh_reading, after, refusals, closings, plain_state, book_of}
use Rattle.ledger.specs.Claims.{ClosedOnce, taken_only}

abbrev pub FreshEnsures : Book → Type 0
FreshEnsures b = fresh_reads.Learnt tt tt b tt

-- of a call but closing, whose outcome is another
abbrev pub Ensures : Book → Call → Outcome (Unit {0}) → Type 0
Ensures b (open_line order instrument number height prints) r =
    open_reads.Learnt tt (b, (order, (instrument, (number, (height, (prints, tt)))))) r (b, (order, (instrument, (number, (height, (prints, tt))))))
Ensures b (station kb kf readings) r = station_reads.Learnt tt (b, (kb, (kf, (readings, tt)))) r (b, (kb, (kf, (readings, tt))))
Ensures b (end_run number) r = end_run_reads.Learnt tt (b, (number, tt)) r (b, (number, tt))
Ensures b drop_run r = drop_run_reads.Learnt tt (b, tt) r (b, tt)
Ensures b drop_section r = drop_section_reads.Learnt tt (b, tt) r (b, tt)
Ensures b (close_line number end) r = ⊥
Ensures b (open_spur order instrument number height prints) r =
    open_spur_reads.Learnt tt (b, (order, (instrument, (number, (height, (prints, tt)))))) r (b, (order, (instrument, (number, (height, (prints, tt))))))
Ensures b (close_spur number) r = ⊥
Ensures b (collimation x) r = collimation_reads.Learnt tt (b, (x, tt)) r (b, (x, tt))
Ensures b (constants first second) r = constants_reads.Learnt tt (b, (first, (second, tt))) r (b, (first, (second, tt)))
Ensures b lift_section r = lift_section_reads.Learnt tt (b, tt) r (b, tt)

-- and of a closing
abbrev pub CloseEnsures : Book → Call → Outcome LineFigures → Type 0
CloseEnsures b (open_line order instrument number height prints) r = ⊥
CloseEnsures b (station kb kf readings) r = ⊥
CloseEnsures b (end_run number) r = ⊥
CloseEnsures b drop_run r = ⊥
CloseEnsures b drop_section r = ⊥
CloseEnsures b (close_line number end) r = close_line_reads.Learnt tt (b, (number, (end, tt))) r (b, (number, (end, tt)))
CloseEnsures b (open_spur order instrument number height prints) r = ⊥
CloseEnsures b (close_spur number) r = close_spur_reads.Learnt tt (b, (number, tt)) r (b, (number, tt))
CloseEnsures b (collimation x) r = ⊥
CloseEnsures b (constants first second) r = ⊥
CloseEnsures b lift_section r = ⊥

abbrev pub FiguresEnsures : Book → Result LineFigures Refusal → Type 0
FiguresEnsures b f = figures_of_reads.Learnt tt (b, tt) f (b, tt)

-- a call made by one of the two functions that make any call: what it answered, and the book after it. `enter` finds book and call behind references, wherever these point
pub data MadeOf : Book → Call → Result (Unit {0}) Refusal → Book → Type 0 where
  by_value : {b : Book} {c : Call} (r : Outcome (Unit {0})) → take_reads.Learnt tt (b, (c, tt)) r (b, (c, tt)) → MadeOf b c r.answer r.book
  in_place : (l k : List ℕ) (b : MutBor Book) (c : Bor Call) (a : Result (Unit {0}) Refusal) (m : Book)
      → enter_reads.Learnt (l, (k, tt)) (b, (c, tt)) a (record b { now = m }, (c, tt)) → MadeOf b.now c.now a m

-- a closing made so gives no figures: the book that it leaves does, where it was taken
abbrev pub had_of : Result (Unit {0}) Refusal → Result LineFigures Refusal → List Closing
had_of a f = cond (eqb (number_of a) 0) (gave_of f) []

-- the calls made of a book, the numbers that they answered, what its closings gave and the book that was left
pub data Trace : Book → List Call → List ℕ → List Closing → Book → Type 0 where
  done : {b : Book} → Trace b [] [] [] b
  call : {b e : Book} {c : Call} {cs : List Call} {ns : List ℕ} {gs : List Closing} (r : Outcome (Unit {0})) → Ensures b c r → Trace r.book cs ns gs e
      → Trace b (c ∷ cs) (number_of r.answer ∷ ns) gs e
  close : {b e : Book} {c : Call} {cs : List Call} {ns : List ℕ} {gs : List Closing} (r : Outcome LineFigures) → CloseEnsures b c r → Trace r.book cs ns gs e
      → Trace b (c ∷ cs) (number_of r.answer ∷ ns) (gave_of r.answer ++ gs) e
  made : {b m e : Book} {c : Call} {cs : List Call} {ns : List ℕ} {gs : List Closing} (a : Result (Unit {0}) Refusal) → is_closing c ≡ false → MadeOf b c a m
      → Trace m cs ns gs e → Trace b (c ∷ cs) (number_of a ∷ ns) gs e
  made_closing : {b m e : Book} {c : Call} {cs : List Call} {ns : List ℕ} {gs : List Closing} (a : Result (Unit {0}) Refusal) (f : Result LineFigures Refusal)
      → is_closing c ≡ true → MadeOf b c a m → FiguresEnsures m f → Trace m cs ns gs e
      → Trace b (c ∷ cs) (number_of a ∷ ns) (had_of a f ++ gs) e

-- ---- the claim about the whole list

-- the sums that a book keeps are those of the sections that it holds, and n is their count in the standing list (document 02, W-210)
pub record KeptTotals (r : Reading) (e : Book) : Type 0 where
  pub sums : e.line.sums ≡ sums_of e.line.opening (sections_of e.sections)
  pub count : e.sections.count ≡ length r.sections

pub record SoundTrace (calls : List Call) (ns : List ℕ) (gs : List Closing) (e : Book) : Type 0 where
  -- the plain reading answers the same numbers, and its closings give the same
  pub numbers : ns ≡ refusals fresh_reading calls
  pub given : gs ≡ closings fresh_reading calls
  -- the book holds the standing list's counts and sums, and nothing else
  pub holds : state_of e ≡ plain_state (after fresh_reading calls)
  pub book : e ≡ book_of (after fresh_reading calls)
  pub totals : KeptTotals (after fresh_reading calls) e
  -- no call found the book broken
  pub never_20 : any_of (λ n. eqb n 20) ns ≡ false
  -- a line that the calls left closed was closed once and soundly
  pub closed : e.line.stage ≡ Closed → ClosedOnce calls gs
  -- and its figures can be had of the book again
  pub again : (c : e.line.stage ≡ Closed) (x : Result LineFigures Refusal) → FiguresEnsures e x → x ≡ Ok (adjusted_of (closed c).gave)
  -- a line that they did not leave closed gave no closing
  pub unclosed : (e.line.stage ≡ Closed → ⊥) → gs ≡ []

abbrev pub EveryTrace : Type 0
EveryTrace = (b e : Book) (calls : List Call) (ns : List ℕ) (gs : List Closing) → FreshEnsures b → Trace b calls ns gs e → SoundTrace calls ns gs e

-- the claim is not empty: there is a fresh book, and of every book every list of calls can be made
abbrev pub EveryListMade : Type 0
EveryListMade = ((b : Book) × FreshEnsures b) × ((b : Book) (calls : List Call) → (ns : List ℕ) × ((gs : List Closing) × ((e : Book) × Trace b calls ns gs e)))

-- a list without its refused calls is taken whole, leaves the same book, and its closings give the same
abbrev pub StruckOutOfBook : Type 0
StruckOutOfBook =
    (b c d e : Book) (calls : List Call) (ms ns : List ℕ) (fs gs : List Closing)
    → FreshEnsures b → Trace b (taken_only fresh_reading calls) ms fs d
    → FreshEnsures c → Trace c calls ns gs e
    → (any_of (λ n. not (eqb n 0)) ms ≡ false) × ((d ≡ e) × (fs ≡ gs))
