-- How the code makes a change of a book, and when it computes figures. No rule of document 01.
use Rattle.std.specs.Prelude.{◌≡◌, true, MatchResult, length}
use Rattle.std.specs.declared.result.Result.{Result}
use Rattle.records.specs.declared.Refusal.{Refusal}
use Rattle.records.specs.Refusals.{number_of}
use Rattle.adjust.specs.Frames.{figures_fit}
use Rattle.rules.specs.declared.Book.{Book}
use Rattle.rules.specs.LineState.{LineState}
use Rattle.changes.specs.declared.Change.{Change}
use Rattle.changes.specs.Changes.{changed}

-- a change that was decided, made of b, is answered by r and leaves d: the change made, in an array of 64 places, or the very book
pub record Makes (b : Book) (decided : Result Change Refusal) (r : Result (Unit {0}) Refusal) (d : Book) : Type 0 where
  pub number : number_of r ≡ number_of decided
  pub book : MatchResult decided (λ x. (d ≡ changed b x) × (length b.sections.places ≡ 64)) (λ e. d ≡ b)

-- the figures of a line on the end height that it has fit 64 bits
abbrev pub Fit : LineState → Type 0
Fit v = figures_fit v.line.opening v.line.end v.line.sums v.sections ≡ true
