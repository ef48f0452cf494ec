-- The lines of a report as they are written from the reader's state.
use Rattle.std.specs.Prelude.{◌≡◌, true, false, not, cond, List, [], ◌∷◌, ◌++◌, map, ℕ, ◌≤◌, eqb, length}
use Rattle.numbers.specs.Numbers.{any_of, put_at}
use Rattle.adjust.specs.declared.prints.PrintUnit.{PrintUnit}
use Rattle.adjust.specs.declared.Point.{Point}
use Rattle.adjust.specs.declared.LineFigures.{LineFigures}
use Rattle.columns.specs.Lines.{title}
use Rattle.rules.specs.declared.Book.{Book}
use Rattle.book.specs.Calls.{closing_in, figures_refusal, told_of}
use Rattle.textbook.specs.declared.text.State.{State}
use Rattle.textbook.specs.Text.{refusals_from}
use Rattle.fieldbook.specs.Report.{ref_line, opn_line, closing_lines}
use Rattle.fieldbook.specs.Fits.{closed_fits, point_fits}

-- a piece x of the report is written at the beginning of a buffer, and its length n is answered
pub record Puts (x old new : List ℕ) (n : ℕ) : Type 0 where
  pub value : n ≡ length x
  pub buf_after : new ≡ put_at old 0 x

-- the refusals among the numbers of lines from line k on
abbrev pub refusal_lines : ℕ → List ℕ → List (List ℕ)
refusal_lines k ns = map ref_line (refusals_from k ns)

abbrev pub figures_lines : PrintUnit → LineFigures → List (List ℕ)
figures_lines unit f = closing_lines unit (closing_in f)

-- of a book whose figures were asked for: the closing, or how many sections the line has
abbrev pub book_lines : Book → List (List ℕ)
book_lines b = cond (eqb (figures_refusal b) 0) (figures_lines b.line.opening.print_unit (told_of b)) (opn_line b.sections.count ∷ [])

-- the refusals, and what is said of the book's line
abbrev pub below_title : State → List (List ℕ)
below_title s = refusal_lines 0 s.refusals ++ book_lines s.book

unfoldable pub state_lines : State → List (List ℕ)
state_lines s = title ∷ below_title s

-- ---- what fits

abbrev pub points_fit : PrintUnit → List Point → Type 0
points_fit unit ps = any_of (λ (p : Point). not (point_fits unit p)) ps ≡ false

-- the figures fit their fields
pub record ClosingFits (unit : PrintUnit) (f : LineFigures) : Type 0 where
  pub few : f.summary.count ≤ 64
  pub summary : closed_fits f.summary ≡ true
  pub points : points_fit unit (closing_in f).points

pub record Printable (b : Book) : Type 0 where
  pub few : b.sections.count ≤ 64
  pub closing : figures_refusal b ≡ 0 → ClosingFits b.line.opening.print_unit (told_of b)
