-- From what a call changes to the book that it leaves, one law for every call; what closing then gives; and that each call can be made of every book.
use mathlib.Core.Path.{◌≡◌, refl, sym, ap, ◌∙◌}
use mathlib.Core.Bool.{Bool, true, false, not, cond, ◌&&◌, ◌||◌}
use mathlib.Core.List.{List, [], ◌∷◌, ◌++◌}
use Prim.Native.Nat.{◌≤◌, ◌<◌}
use native.Mathlib.Omega.{arith}
use borrow.Author.Rules.{rules}
use borrow.Author.Tests.{lt-ltb, le-leb}
use lib.Dec.{leb, eqb, ltb→lt, nleb→lt}
use lib.ListN.{length}
use lib.IntN.{ℤ}
use Rattle.std.specs.Prelude.{Ok, Err, Some, None, IfOk}
use Rattle.std.specs.declared.option.Option.{Option}
use Rattle.std.specs.declared.result.Result.{Result}
use Rattle.numbers.specs.Numbers.{but_last}
use Rattle.numbers.proofs.Tests.{holds, or_l, fails}
use Rattle.numbers.proofs.Tables.{each_number, first_each, zero_cond, nonzero_cond}
use Rattle.records.specs.declared.Refusal.{Refusal}
use Rattle.records.specs.Refusals.{number_of}
use Rattle.records.proofs.Numbered.{not_zero, answered, is_answer, number_answered, value_answered}
use Rattle.adjust.specs.declared.Section.{Section}
use Rattle.adjust.specs.declared.LineFigures.{LineFigures}
use Rattle.adjust.specs.Sections.{sections_of, holding}
use Rattle.adjust.specs.Frames.{adjusted_of}
use Rattle.adjust.specs.Terms.{terms_of}
use Rattle.adjust.proofs.Holding.{Places, sections_count, sections_holding, stored, holding_own, holding_more, holding_less}
use Rattle.adjust.proofs.Holding as Holding
use Rattle.rules.specs.declared.Outward.{Outward}
use Rattle.rules.specs.declared.Line.{Line}
use Rattle.rules.specs.declared.Book.{Book}
use Rattle.rules.specs.LineState.{LineState, state_of, book_with, is_fresh, is_open, is_empty, is_return, outward_or_return, no_run, one_way, both_ways}
use Rattle.rules.specs.declared.call.Call.{Call}
use Rattle.rules.specs.declared.call.Call.TheVariants.{OpenLine as open_line, Station as station, EndRun as end_run, DropRun as drop_run, DropSection as drop_section, CloseLine as close_line, OpenSpur as open_spur, CloseSpur as close_spur, Collimation as collimation, Constants as constants, LiftSection as lift_section}
use Rattle.rules.specs.Rules.{with_runs, with_section, lifted, book_tests, book_refusal, taken}
use Rattle.rules.proofs.Tables.{book_fails, line_unbroken}
use Rattle.rules.proofs.Unbroken.{SmallWaiting, some_long, fresh_none, untouched_none}
use Rattle.changes.specs.declared.Change.{Change}
use Rattle.changes.specs.declared.Shift.TheVariants.{Finished, Lifted}
use Rattle.changes.specs.Changes.{finishing, effect_of, Decides, shifted, changed}
use Rattle.changes.proofs.Joined.{book_unbroken}
use Rattle.book.specs.declared.Outcome.{Outcome}
use Rattle.book.specs.Calls.{book_after, Answers, closing_of, closed_by, Closes}
use Rattle.book.specs.code.Made.{Makes}

-- ---- the book with the change made is the book that the call leaves

module _ (b : Book) (w : Places b.sections) where
  abbrev ss : List Section
  ss = sections_of b.sections

  -- a change of the line alone keeps an array that holds its own list
  line_alone : (v : LineState) → b.sections.count ≤ 64 → ss ≡ v.sections → record { line = v.line; sections = b.sections } ≡ book_with b v
  line_alone v h e = λ i. record { line = v.line; sections = (sym (holding_own b.sections w h) ∙ ap (holding b.sections) e) i }

  -- one section more
  one_more : (x : Section) → b.sections.count < 64 → shifted b.sections (Finished x) ≡ holding b.sections (ss ++ (x ∷ []))
  one_more x h = ap (λ (t : Bool). cond t (stored b.sections x) b.sections) (lt-ltb b.sections.count 64 h) ∙ sym (holding_more b.sections x w h)

  -- and one fewer
  one_fewer : b.sections.count ≤ 64 → is_empty ss ≡ false → shifted b.sections Lifted ≡ holding b.sections (but_last ss)
  one_fewer h e =
      let some : 0 < b.sections.count = omega (arith, sections_count b.sections, ltb→lt 0 (length ss) (holds (some_long ss e))) in
      (λ i. cond (lt-ltb 0 b.sections.count some i && le-leb b.sections.count 64 h i) (Holding.lifted b.sections) b.sections) ∙ sym (holding_less b.sections w some h)

  -- the end of a run, beside the sections xs, by what waits and by whether sections are levelled out and back
  abbrev ended : ℤ → List Section → Option Outward → Bool → LineState
  ended number xs x t =
      let l : Line = b.line in
      let v : LineState = record { line = l; sections = xs } in
      outward_or_return x
      (cond t (record { line = with_runs l (Some (record { number = number; run = l.present })) no_run; sections = xs })
      (with_section v (one_way number l.present)))
      (λ outward run. with_section v (both_ways outward run l.present))

  ended_made : (number : ℤ) (x : Option Outward) (t : Bool) → b.sections.count < 64
      → changed b (record { line = (ended number [] x t).line; shift = finishing (ended number [] x t).sections }) ≡ book_with b (ended number ss x t)
  ended_made number None true h = line_alone (ended number ss None true) (omega arith) refl
  ended_made number None false h = λ i. record { line = (ended number ss None false).line; sections = one_more (one_way number b.line.present) h i }
  ended_made number (Some x) t h = λ i. record { line = (ended number ss (Some x) t).line; sections = one_more (both_ways x.number x.run b.line.present) h i }

  -- there is room for the section: an outward run is tested (31), and a run waits only where there is
  room : (x : Option Outward) → SmallWaiting x b.sections.count → not (is_return x) && leb 64 (length ss) ≡ false → b.sections.count < 64
  room None h e = omega (arith, sections_count b.sections, nleb→lt 64 (length ss) (fails e))
  room (Some x) h e = h.1

  -- of a call that leaves the sections as they are
  alone : (c : Call) → book_refusal (state_of b) c ≡ 0 → ss ≡ (taken (state_of b) c).sections
      → record { line = (taken (state_of b) c).line; sections = b.sections } ≡ book_with b (taken (state_of b) c)
  alone c e s = line_alone (taken (state_of b) c) (book_unbroken b c e).few s

  -- a book that is opened has no section, nor has one on which constants are taken
  none : (c : Call) → book_refusal (state_of b) c ≡ 0 → not (is_fresh b.line.stage) ≡ false → ss ≡ []
  none c e = fresh_none b.line ss (line_unbroken (state_of b) c e)

  none_yet : (c : Call) → book_refusal (state_of b) c ≡ 0 → not (is_open b.line.stage) || b.line.opening.touched ≡ false → ss ≡ []
  none_yet c e = untouched_none b.line ss (line_unbroken (state_of b) c e)

  effect : (c : Call) → book_refusal (state_of b) c ≡ 0 → changed b (effect_of (state_of b) c) ≡ book_with b (taken (state_of b) c)
  unfolding effect_of
  effect (open_line order instrument number height prints) e =
      let c = open_line order instrument number height prints in alone c e (none c e (book_fails (state_of b) c e 21))
  effect (station kb kf readings) e = alone (station kb kf readings) e refl
  effect (end_run number) e =
      ended_made number b.line.waiting (terms_of b.line.opening.class).double
      (room b.line.waiting (book_unbroken b (end_run number) e).waiting (book_fails (state_of b) (end_run number) e 31))
  effect drop_run e = alone drop_run e refl
  effect drop_section e = alone drop_section e refl
  effect (open_spur order instrument number height prints) e =
      let c = open_spur order instrument number height prints in alone c e (none c e (book_fails (state_of b) c e 21))
  effect (collimation x) e = alone (collimation x) e refl
  effect (constants first second) e =
      let c = constants first second in alone c e (none_yet c e (book_fails (state_of b) c e 43))
  effect lift_section e =
      let some = or_l (is_empty ss) (not (eqb b.line.present.count 0)) (or_l (is_empty ss || not (eqb b.line.present.count 0)) (is_return b.line.waiting) (book_fails (state_of b) lift_section e 53)) in
      λ i. record { line = (lifted (state_of b)).line; sections = one_fewer (book_unbroken b lift_section e).few some i }
  effect (close_spur number) e = alone (close_spur number) e refl
  effect (close_line number end) e = alone (close_line number end) e refl

-- a change that was decided and made
pub made : (b : Book) (c : Call) (decided : Result Change Refusal) {r : Result (Unit {0}) Refusal} {d : Book} → Decides b c decided → Makes b decided r d
    → Answers b c (record { answer = r; book = d })
unfolding book_after
made b c (Ok x) p m =
    record {
      number = m.number ∙ p.number;
      book =
          m.book.0
          ∙ ap (changed b) p.change
          ∙ effect b m.book.1 c (sym p.number)
          ∙ sym (zero_cond (book_refusal (state_of b) c) (book_with b (taken (state_of b) c)) b (sym p.number));
    }
made b c (Err e) p m =
    record {
      number = m.number ∙ p.number;
      book = m.book ∙ sym (nonzero_cond (book_refusal (state_of b) c) (book_with b (taken (state_of b) c)) b (λ z. not_zero e (p.number ∙ z)));
    }

-- ---- what a closing gives

-- the book that a call leaves, where it is taken
pub left : (b : Book) (c : Call) → book_refusal (state_of b) c ≡ 0 → state_of (book_after b c) ≡ taken (state_of b) c
unfolding book_after
left b c e =
    ap state_of (zero_cond (book_refusal (state_of b) c) (book_with b (taken (state_of b) c)) b e)
    ∙ (λ i. record { line = (taken (state_of b) c).line; sections = sections_holding b.sections (taken (state_of b) c).sections i })

-- the figures of the book that was left
pub closes : (b : Book) (c : Call) {r : Outcome (Unit {0})} (o : Outcome LineFigures) → Answers b c r → number_of o.answer ≡ number_of r.answer
    → IfOk o.answer (λ (f : LineFigures). f ≡ adjusted_of (closing_of (state_of r.book))) → o.book ≡ r.book → Closes b c o
closes b c {r} o h n f e = record { number = n ∙ h.number; figures = told o.answer (n ∙ h.number) f; book = e ∙ h.book }
  where
    told : (a : Result LineFigures Refusal) → number_of a ≡ book_refusal (state_of b) c → IfOk a (λ (f : LineFigures). f ≡ adjusted_of (closing_of (state_of r.book)))
        → IfOk a (λ (f : LineFigures). f ≡ adjusted_of (closed_by b c))
    told (Ok g) n f = f ∙ ap (λ (v : LineState). adjusted_of (closing_of v)) (ap state_of h.book ∙ left b c (sym n))
    told (Err x) n f = tt

-- ---- each call can be made of every book: there is an answer under each number

answers : (v : LineState) (c : Call) → each_number is_answer (book_tests v c) ≡ true
answers v (open_line order instrument number height prints) = search rules
answers v (station kb kf readings) = search rules
answers v (end_run number) = search rules
answers v drop_run = search rules
answers v drop_section = search rules
answers v (close_line number end) = search rules
answers v (open_spur order instrument number height prints) = search rules
answers v (close_spur number) = search rules
answers v (collimation x) = search rules
answers v (constants first second) = search rules
answers v lift_section = search rules

given : {A : Type 0} (v : LineState) (c : Call) (a : A) → number_of (answered (book_refusal v c) a) ≡ book_refusal v c
unfolding book_refusal
given v c a = number_answered (book_refusal v c) a (first_each is_answer (book_tests v c) (answers v c) refl)

pub outcome_made : (b : Book) (c : Call) → (r : Outcome (Unit {0})) × Answers b c r
outcome_made b c =
    (record { answer = answered (book_refusal (state_of b) c) tt; book = book_after b c }, record { number = given (state_of b) c tt; book = refl })

pub closing_made : (b : Book) (c : Call) → (r : Outcome LineFigures) × Closes b c r
closing_made b c =
    let n = book_refusal (state_of b) c in
    let f : LineFigures = adjusted_of (closed_by b c) in
    (record { answer = answered n f; book = book_after b c }, record { number = given (state_of b) c f; figures = value_answered n f; book = refl })
