-- The figures of a book as one list of numbers, for callers that take no struct.
use Rattle.std.specs.Prelude.{cond, List, [], ◌∷◌, ◌++◌, ℕ, eqb, ℤ, pos}
use Rattle.numbers.specs.Numbers.{filled}
use Rattle.adjust.specs.declared.Point.{Point}
use Rattle.adjust.specs.declared.Summary.{Summary}
use Rattle.adjust.specs.declared.Verdict.TheVariants.{NotGiven}
use Rattle.adjust.specs.declared.LineFigures.{LineFigures}
use Rattle.adjust.specs.Line.{verdict_number}
use Rattle.adjust.specs.Frames.{no_point}
use Rattle.rules.specs.declared.Run.{Run}
use Rattle.rules.specs.declared.Book.{Book}
use Rattle.book.specs.Calls.{figures_refusal, told_of}

abbrev pub no_figures : LineFigures
no_figures =
    record {
      summary = record { closure = pos 0; distance = pos 0; count = 0; accidental = pos 0; verdict = NotGiven };
      points = filled no_point 65 [];
    }

-- of a closed book the figures of its line, of another zeros
abbrev pub told : Book → LineFigures
told b = cond (eqb (figures_refusal b) 0) (told_of b) no_figures

-- W, L, n, T and the verdict; the present run's count, G, s and sum of d; the number of sections
abbrev pub head_figures : Summary → Run → ℕ → List ℤ
head_figures s run sections =
    s.closure ∷ s.distance ∷ pos s.count ∷ s.accidental ∷ pos (verdict_number s.verdict)
    ∷ pos run.count ∷ run.height ∷ run.sights ∷ run.difference ∷ pos sections ∷ []

-- of each point its number, distance, correction and height
unfoldable pub point_figures : List Point → List ℤ
point_figures [] = []
point_figures (p ∷ ps) = p.number ∷ p.distance ∷ p.correction ∷ p.height ∷ point_figures ps

-- the figures that are told, of the line and of each point
abbrev pub book_figures : Book → List ℤ
book_figures b = head_figures (told b).summary b.line.present b.sections.count ++ point_figures (told b).points
