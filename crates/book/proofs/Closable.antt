-- Where closing, or asking for the figures of a closed book, is not refused, the figures fit.
use mathlib.Core.Path.{◌≡◌, refl, sym, ap, ◌∙◌}
use mathlib.Core.Bool.{Bool, true, false, not, cond, ◌&&◌, ◌||◌}
use mathlib.Core.List.{List}
use native.Mathlib.Omega.{arith}
use Prim.Native.Nat.{◌≤◌}
use lib.Dec.{eqb}
use lib.ListN.{length}
use lib.IntN.{ℤ, pos}
use Rattle.std.specs.Prelude.{Ok, Err, Some, None, IfOk}
use Rattle.std.specs.declared.option.Option.{Option}
use Rattle.std.specs.declared.result.Result.{Result}
use Rattle.numbers.proofs.Tests.{or_l, or_r, not-false}
use Rattle.numbers.proofs.Tables.{failed}
use Rattle.records.specs.declared.Refusal.{Refusal}
use Rattle.records.specs.Refusals.{number_of}
use Rattle.adjust.specs.declared.Section.{Section}
use Rattle.adjust.specs.Sections.{sections_of, height_in_range}
use Rattle.adjust.specs.Frames.{figures_fit, adjusted_of, line_figures}
use Rattle.adjust.proofs.Holding.{sections_count}
use Rattle.adjust.proofs.Fitting.{fit_between}
use Rattle.rules.specs.declared.Book.{Book}
use Rattle.rules.specs.LineState.{LineState, state_of, is_closed, is_empty, is_return, line_broken}
use Rattle.rules.specs.declared.call.Call.TheVariants.{CloseLine as close_line, CloseSpur as close_spur}
use Rattle.rules.specs.Rules.{all_broken, broken_in, figures_tests, book_refusal, taken}
use Rattle.rules.specs.code.Closed.{closing_on}
use Rattle.rules.proofs.Tables.{book_fails}
use Rattle.rules.proofs.Unbroken.{unbroken, some_long, closed_some}
use Rattle.book.specs.declared.Outcome.{Outcome}
use Rattle.book.specs.Calls.{Answers, closing_of, figures_refusal}
use Rattle.book.specs.code.Made.{Fit}
use Rattle.book.proofs.Joined.{left}

module _ (b : Book) where
  abbrev ss : List Section
  ss = sections_of b.sections

  -- where 20 does not hold of the line and its sections, and there is a section
  in_range : (end : ℤ) → broken_in (all_broken (state_of b)) (state_of b) ≡ false → is_empty ss ≡ false → height_in_range end ≡ true → figures_fit b.line.opening end b.line.sums ss ≡ true
  unfolding figures_fit
  in_range end e some known =
      let all = all_broken (state_of b) in
      let fit = or_l all (line_broken b.line (length ss)) e in
      let line = unbroken b.line (length ss) (or_r all (line_broken b.line (length ss)) e) in
      λ i. some_long ss some i && not (fit i) && line.start i && known i

  -- of a closing that is taken; of a spur's, the end height stays a placeholder
  closed_taken : (number : ℤ) (end : Option ℤ) → book_refusal (state_of b) (closing_on number end) ≡ 0 → Fit (taken (state_of b) (closing_on number end))
  unfolding figures_fit
  closed_taken number (Some end) e =
      let test = book_fails (state_of b) (close_line number end) e in
      in_range end (test 20) (or_r (not (eqb b.line.present.count 0) || is_return b.line.waiting) (is_empty ss) (test 33)) (not-false (height_in_range end) (test 5))
  closed_taken number None e =
      let test = book_fails (state_of b) (close_spur number) e in
      in_range (pos 0) (test 20) (or_r (not (eqb b.line.present.count 0) || is_return b.line.waiting) (is_empty ss) (test 33)) refl

  -- of END, as the documents name it: a law of its own
  pub closing_fits : (number end : ℤ) → book_refusal (state_of b) (close_line number end) ≡ 0 → figures_fit b.line.opening end b.line.sums ss ≡ true
  unfolding figures_fit
  closing_fits number end e = closed_taken number (Some end) e

  -- so the book that a closing left has figures
  pub closed_answer_fits : (number : ℤ) (end : Option ℤ) {r : Outcome (Unit {0})} → Answers b (closing_on number end) r → IfOk r.answer (λ _. Fit (state_of r.book))
  closed_answer_fits number end {r} h = go r.answer h.number
    where
      go : (a : Result (Unit {0}) Refusal) → number_of a ≡ book_refusal (state_of b) (closing_on number end) → IfOk a (λ _. Fit (state_of r.book))
      go (Ok x) n =
          ap (λ (v : LineState). figures_fit v.line.opening v.line.end v.line.sums v.sections) (ap state_of h.book ∙ left b (closing_on number end) (sym n))
          ∙ closed_taken number end (sym n)
      go (Err x) n = tt

  -- of a closed book
  pub closed_fits : 0 ≡ figures_refusal b → Fit (state_of b)
  closed_fits e =
      let test = failed (figures_tests (state_of b)) refl (sym e) in
      let line = unbroken b.line (length ss) (or_r (all_broken (state_of b)) (line_broken b.line (length ss)) (test 20)) in
      in_range b.line.end (test 20) (closed_some b.line ss line.placed (not-false (is_closed b.line.stage) (test 21))) line.end

  -- and then there is a place for each section
  pub few : Fit (state_of b) → b.sections.count ≤ 64
  few e = omega (arith, (fit_between b.line.opening b.line.end b.line.sums ss e).fits.few, sections_count b.sections)

  -- and they are had
  pub line_given : Fit (state_of b) → line_figures b.line.opening b.line.end b.line.sums ss ≡ Some (adjusted_of (closing_of (state_of b)))
  unfolding line_figures
  line_given e = ap (λ (t : Bool). cond t (Some (adjusted_of (closing_of (state_of b)))) None) e
