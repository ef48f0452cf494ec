-- What is claimed of every list of numbers: the figures of its entries are those of the sound closing, and running it is making their calls one by one.
use Rattle.std.specs.Prelude.{◌≡◌, List, ◌++◌, ℕ, length, ℤ}
use Rattle.numbers.specs.Numbers.{filled}
use Rattle.adjust.specs.Line.{Closing}
use Rattle.adjust.specs.Frames.{no_point}
use Rattle.rules.specs.declared.Stage.TheVariants.{Closed}
use Rattle.rules.specs.declared.Book.{Book}
use Rattle.rules.specs.LineState.{LineState}
use Rattle.ledger.specs.Plain.{fresh_reading, plain_state, book_of, closings}
use Rattle.ledger.specs.Entries.{calls_of, call_numbers}
use Rattle.ledger.specs.Claims.{ClosedOnce}
use Rattle.ledger.specs.Trace.{FreshEnsures, Trace}
use Rattle.runner.specs.Calls.{entries_of, reading_after}
use Rattle.runner.specs.Figures.{head_figures, point_figures, book_figures}

-- what the entries leave
abbrev pub state_after : List ℤ → LineState
state_after xs = plain_state (reading_after xs)

-- the calls of the entries closed the line once and soundly, and the figures of the book that is left, which `level_run` writes, are that closing's: W, L, n,
-- T and the verdict in their places, and its points, zeros behind them
pub record RanClosed (xs : List ℤ) : Type 0 where
  pub closing : ClosedOnce (calls_of (entries_of xs)) (closings fresh_reading (calls_of (entries_of xs)))
  pub figures : book_figures (book_of (reading_after xs))
      ≡ head_figures closing.gave.summary (state_after xs).line.present (length (state_after xs).sections)
      ++ point_figures (filled no_point 65 closing.gave.points)

-- whatever the numbers, if their entries leave the line closed
abbrev pub EveryRun : Type 0
EveryRun = (xs : List ℤ) → (reading_after xs).stage ≡ Closed → RanClosed xs

-- whoever makes the calls of the entries of a fresh book one by one gets the numbers that `run_calls` writes for them and the book that it gives
abbrev pub RunAsMade : Type 0
RunAsMade =
    (xs : List ℤ) (b e : Book) (ns : List ℕ) (gs : List Closing) → FreshEnsures b → Trace b (calls_of (entries_of xs)) ns gs e
    → (call_numbers fresh_reading (entries_of xs) ≡ ns) × (book_of (reading_after xs) ≡ e)
