-- The calls of a book: what each answers and leaves. Of every call: the number that `book_refusal` gives; the book as the rules' effect leaves it where
-- that is 0, and the very book where it is not.
use Rattle.std.specs.Prelude.{◌≡◌, cond, List, [], ◌∷◌, ℕ, ◌+◌, take, eqb, pos, Ok, Err, None, IfOk}
use Rattle.std.specs.declared.result.Result.{Result}
use Rattle.numbers.specs.Numbers.{filled}
use Rattle.numbers.specs.Tables.{first_of}
use Rattle.records.specs.declared.Refusal.{Refusal}
use Rattle.records.specs.Refusals.{number_of}
use Rattle.adjust.specs.declared.LineFigures.{LineFigures}
use Rattle.adjust.specs.Sections.{no_section}
use Rattle.adjust.specs.Line.{Closing, closing}
use Rattle.adjust.specs.Kept.{no_sums}
use Rattle.adjust.specs.Frames.{adjusted_of}
use Rattle.rules.specs.declared.Stage.TheVariants.{Fresh}
use Rattle.rules.specs.declared.Book.{Book}
use Rattle.rules.specs.LineState.{LineState, state_of, book_with, no_run}
use Rattle.rules.specs.declared.call.Call.{Call}
use Rattle.rules.specs.Rules.{figures_tests, unopened, book_refusal, taken}
use Rattle.book.specs.declared.Outcome.{Outcome}

abbrev pub fresh_book : Book
fresh_book =
    record {
      line =
          record {
            stage = Fresh;
            opening = unopened;
            end = pos 0;
            sums = no_sums;
            waiting = None;
            present = no_run;
          };
      sections = record { count = 0; places = filled no_section 64 [] };
    }

-- what any call leaves of a book
unfoldable pub book_after : Book → Call → Book
book_after b c = cond (eqb (book_refusal (state_of b) c) 0) (book_with b (taken (state_of b) c)) b

-- r is what a call but closing answers and leaves
pub record Answers (b : Book) (c : Call) (r : Outcome (Unit {0})) : Type 0 where
  pub number : number_of r.answer ≡ book_refusal (state_of b) c
  pub book : r.book ≡ book_after b c

-- ---- closing

-- the figures of a line on the end height that it has
abbrev pub closing_of : LineState → Closing
closing_of v = closing v.line.opening v.line.end v.sections

-- what a closing leads to where it is taken
abbrev pub closed_by : Book → Call → Closing
closed_by b c = closing_of (taken (state_of b) c)

-- r is what a closing answers and leaves: where it is taken W, L, n, T, the verdict and the points
pub record Closes (b : Book) (c : Call) (r : Outcome LineFigures) : Type 0 where
  pub number : number_of r.answer ≡ book_refusal (state_of b) c
  pub figures : IfOk r.answer (λ f. f ≡ adjusted_of (closed_by b c))
  pub book : r.book ≡ book_after b c

-- the closing whose points an array holds in its first n + 1 places
abbrev pub closing_in : LineFigures → Closing
closing_in f = record { summary = f.summary; points = take (f.summary.count + 1) f.points }

-- what was given by an answer
abbrev pub gave_of : Result LineFigures Refusal → List Closing
gave_of (Ok f) = closing_in f ∷ []
gave_of (Err e) = []

-- ---- the figures of a closed book

abbrev pub figures_refusal : Book → ℕ
figures_refusal b = first_of (figures_tests (state_of b))

-- r is these, or the refusal
pub record Tells (b : Book) (r : Result LineFigures Refusal) : Type 0 where
  pub number : number_of r ≡ figures_refusal b
  pub figures : IfOk r (λ f. f ≡ adjusted_of (closing_of (state_of b)))

-- the figures that a closed book tells
abbrev pub told_of : Book → LineFigures
told_of b = adjusted_of (closing_of (state_of b))
