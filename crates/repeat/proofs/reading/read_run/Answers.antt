-- The loop holds what the lines so far leave; a line that is no station taken, or the count at the end, refuses the text.
use Rattle.std.proofs.Common.{◌≡◌, refl, sym, ap, ◌∙◌, rules, Bool, true, false, not, cond, ◌||◌, eqb, ℕ, ◌%◌, length, min}
use Rattle.std.specs.Slice.Iter.{chunks_rest}
use borrow.Author.Tests.{ne_eqb}
use Rattle.repeat.proofs.Reached.{reached_first, reached_next, reached_none, reached_all, reached_run, reached_small}
use Rattle.repeat.proofs.reading.read_run.Goals as goal
use Rattle.repeat.proofs.reading.read_run.Goals.{then-run-eq0-via-then-run-eq0, then-run-eq0-via-else-run-eq0+then-run-eq1}

-- ---- by the count of stations

refused : {t : Bool} → t ≡ false → ◌≡◌ {A = ℕ} 52 (cond t 0 52)
refused e = λ i. cond (sym e i) 0 52

module _ (t : Bool) (n : ℕ) (e : t ≡ not (eqb n 0 || eqb (n % 2) 1)) where
  none : n ≡ 0 → ◌≡◌ {A = ℕ} 52 (cond t 0 52)
  none z = refused (e ∙ (λ i. not (eqb (z i) 0 || eqb (z i % 2) 1)))

  odd : n % 2 ≡ 1 → ◌≡◌ {A = ℕ} 52 (cond t 0 52)
  odd z = refused (e ∙ (λ i. not (eqb n 0 || eqb (z i) 1)) ∙ either (eqb n 0))
    where
      either : (s : Bool) → not (s || true) ≡ false
      either true = refl
      either false = refl

  even : (n ≡ 0 → ⊥) → (n % 2 ≡ 1 → ⊥) → ◌≡◌ {A = ℕ} 0 (cond t 0 52)
  even f g = λ i. cond (sym (e ∙ (λ j. not (ne_eqb n 0 f j || ne_eqb (n % 2) 1 g j))) i) 0 52

pub loop-line-init : goal.loop-line-init
loop-line-init c = (search rules, reached_first _ _ c.ready-book.ensures (search rules))

pub returns-then-not-take_station-clause-number : goal.returns-then-not-take_station-clause-number
returns-then-not-take_station-clause-number c =
    let x = c.loop-line.invariant in
    let s = c.in-Some.ensures.steps in
    let size = s.1.1 ∙ ap (λ (n : ℕ). min n (length (chunks_rest c.loop-line.line-iterator))) x.0 in
    refused (reached_none x.1 c.in-Some.line.now _ s.1.0 size s.1.2 (sym c.take_station.ensures.taken ∙ c.if-not-take_station.true))

pub loop-line-preserved : goal.loop-line-preserved
loop-line-preserved c =
    let x = c.loop-line.invariant in
    let s = c.in-Some.ensures.steps in
    let size = s.1.1 ∙ ap (λ (n : ℕ). min n (length (chunks_rest c.loop-line.line-iterator))) x.0 in (
      s.0 ∙ x.0,
      reached_next x.1 c.in-Some.line.now _ s.1.0 size s.1.2 (sym c.take_station.ensures.taken ∙ c.if-not-take_station.false) c.take_station.new.book (search rules),
    )

pub returns-then-run-eq0-clause-number : goal.returns-then-run-eq0-clause-number
returns-then-run-eq0-clause-number c =
    let all = reached_all c.loop-line.invariant.1 c.in-None.ensures.steps.1.0 in
    elim c.then-run-eq0.branch [
      | then-run-eq0-via-then-run-eq0 w ↦ none _ _ all w.if-run-eq0.true
      | then-run-eq0-via-else-run-eq0+then-run-eq1 w ↦ odd _ _ all w.if-run-eq1.true
    ]

pub returns-clause-number : goal.returns-clause-number
returns-clause-number c = even _ _ (reached_all c.loop-line.invariant.1 c.in-None.ensures.steps.1.0) c.if-run-eq0.false c.if-run-eq1.false

pub returns-clause-run : goal.returns-clause-run
returns-clause-run c = reached_run c.loop-line.invariant.1 c.in-None.ensures.steps.1.0

pub returns-clause-small : goal.returns-clause-small
returns-clause-small c = reached_small c.loop-line.invariant.1 c.in-None.ensures.steps.1.0
