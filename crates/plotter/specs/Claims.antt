-- What is claimed of the floats, and of the profile of every book that calls leave closed (document 02, W-213).
use Rattle.std.specs.Prelude.{◌≡◌, cond, List, [], ◌∷◌, map, ℕ, ◌+◌, ◌*◌, ◌≤◌, length, ℤ, pos, ◌+ℤ◌, ◌-ℤ◌, ◌*ℤ◌, from_bits}
use Rattle.std.specs.Int.{w64, from_le_bytes}
use lib.Ieee.{Float, binary64, sub}
use Rattle.std.specs.declared.option.Option.{Option}
use Rattle.numbers.specs.Tables.{Lowest}
use Rattle.adjust.specs.declared.Section.{Section}
use Rattle.adjust.specs.Line.{units_of}
use Rattle.rules.specs.LineState.{LineState, state_of}
use Rattle.rules.specs.declared.call.Call.{Call}
use Rattle.ledger.specs.Plain.{Reading, fresh_reading, after, plain_state, book_of}
use Rattle.plotter.specs.declared.Pair.{Pair}
use Rattle.plotter.specs.Floats.{Equals, Exact, float_of, float_bytes, difference}
use Rattle.plotter.specs.Profile.{start_mark, marks_after, pair_of, profile, unready, profile_tests, profile_refusal}
use Rattle.textbook.specs.Text.{text_line}
use Rattle.plotter.specs.Text.{most_profile, printed_of}

-- ---- floats

-- the float of a whole number equals it
abbrev pub WholeExact : Type 0
WholeExact = (z : ℤ) → Exact z → Equals (float_of z) z

-- whichever floats equal two whole numbers, their difference in floats equals that of the numbers
abbrev pub DifferenceExact : Type 0
DifferenceExact = (x y : Float) (a b : ℤ) → Equals x a → Equals y b → Exact (a -ℤ b) → Equals (sub binary64 x y) (a -ℤ b)

-- whoever reads a whole number's eight bytes as a float, lowest first, has its float
abbrev pub BytesBack : Type 0
BytesBack = (z : ℤ) → from_bits binary64 (from_le_bytes w64 (float_bytes (float_of z))) ≡ float_of z

-- ---- the profile of a closed book

-- both floats of a point equal these whole numbers
pub record PairEquals (p : Pair) (s h : ℤ) : Type 0 where
  pub distance : Equals p.distance s
  pub height : Equals p.height h

-- the pairs after p, one for each section: each equals the running sums s of R and h of Q, and from its neighbour before it the difference equals R and Q
pub data Exactly : Pair → ℤ → ℤ → List Section → List Pair → Type 0 where
  no_section : {p : Pair} {s h : ℤ} → Exactly p s h [] []
  next_section : {p q : Pair} {s h : ℤ} {x : Section} {xs : List Section} {ps : List Pair}
      → PairEquals q (s +ℤ x.distance) (h +ℤ x.height)
      → PairEquals (difference p q) x.distance x.height
      → Exactly q (s +ℤ x.distance) (h +ℤ x.height) xs ps
      → Exactly p s h (x ∷ xs) (q ∷ ps)

-- the points of a line that stands as v
pub record SoundProfile (v : LineState) : Type 0 where
  pub start : PairEquals (pair_of (start_mark v.line.opening)) (pos 0) (units_of v.line.opening.staffs *ℤ v.line.opening.start.height)
  pub others : Exactly (pair_of (start_mark v.line.opening)) (pos 0) (units_of v.line.opening.staffs *ℤ v.line.opening.start.height)
      v.sections (map pair_of (marks_after (start_mark v.line.opening) v.sections))
  -- sixteen bytes each
  pub long : length (profile v) ≡ 16 * (length v.sections + 1)

-- whatever the calls, taken or refused: of the book that they leave the answer is 0 or 56
abbrev pub EveryAnswer : Type 0
EveryAnswer =
    (calls : List Call) (room : ℕ) → let r : Reading = after fresh_reading calls in
    profile_refusal (state_of (book_of r)) room ≡ cond (unready (plain_state r) room) 56 0

-- and its points are sound, which are written where the line is closed
abbrev pub EveryProfile : Type 0
EveryProfile = (calls : List Call) → SoundProfile (state_of (book_of (after fresh_reading calls)))

-- so are those of every text
abbrev pub EveryText : Type 0
EveryText = (text : List ℕ) → SoundProfile (text_line text)

-- whatever the record: the lowest number that applies is given
abbrev pub LowestGiven : Type 0
LowestGiven = (v : LineState) (room : ℕ) → Lowest (λ n. n) (profile_tests v room) (profile_refusal v room)

-- no text and no input has a profile that the program's buffer has no room for
abbrev pub PrintedFits : Type 0
PrintedFits = (input : List ℕ) (read : Option ℕ) → length (printed_of input read) ≤ most_profile
