-- The profile of a line: its points in whole numbers, as pairs of floats and as bytes, and what is refused (document 02, W-213).
use Rattle.std.specs.Prelude.{◌≡◌, Bool, not, cond, ◌||◌, List, [], ◌∷◌, ◌++◌, map, ℕ, ◌+◌, ◌*◌, length, ltb, pos, ◌+ℤ◌, ◌*ℤ◌, IfOk}
use Rattle.std.specs.declared.result.Result.{Result}
use Rattle.numbers.specs.Numbers.{put_at}
use Rattle.numbers.specs.Tables.{first_of}
use Rattle.records.specs.declared.Refusal.{Refusal}
use Rattle.records.specs.Refusals.{number_of}
use Rattle.adjust.specs.declared.Opening.{Opening}
use Rattle.adjust.specs.declared.Section.{Section}
use Rattle.adjust.specs.Line.{units_of}
use Rattle.columns.specs.Texts.{joined}
use Rattle.rules.specs.LineState.{LineState, is_closed}
use Rattle.rules.specs.Rules.{all_broken, broken_in}
use Rattle.plotter.specs.declared.Mark.{Mark}
use Rattle.plotter.specs.declared.Pair.{Pair}
use Rattle.plotter.specs.Floats.{float_of, float_bytes}

-- ---- the points

-- the end of the section x that begins at m: R and Q are added
abbrev pub next_mark : Mark → Section → Mark
next_mark m x = record { distance = m.distance +ℤ x.distance; height = m.height +ℤ x.height }

abbrev pub marks_after : Mark → List Section → List Mark
marks_after m [] = []
marks_after m (x ∷ xs) = next_mark m x ∷ marks_after (next_mark m x) xs

-- the start, in the units of Q: a quarter of a millimetre, by measured constants a fortieth, whatever heights are printed in
abbrev pub start_mark : Opening → Mark
start_mark o = record { distance = pos 0; height = units_of o.staffs *ℤ o.start.height }

-- the start, and the end of each section
abbrev pub marks : LineState → List Mark
marks v = start_mark v.line.opening ∷ marks_after (start_mark v.line.opening) v.sections

abbrev pub pair_of : Mark → Pair
pair_of m = record { distance = float_of m.distance; height = float_of m.height }

-- sixteen bytes, distance first
abbrev pub pair_bytes : Pair → List ℕ
pair_bytes p = float_bytes p.distance ++ float_bytes p.height

abbrev pub mark_bytes : Mark → List ℕ
mark_bytes m = pair_bytes (pair_of m)

unfoldable pub profile : LineState → List ℕ
profile v = joined (map mark_bytes (marks v))

-- ---- what is refused

-- 56: the line is not closed, or a buffer of so many bytes is shorter than all pairs
abbrev pub unready : LineState → ℕ → Bool
unready v room = not (is_closed v.line.stage) || ltb room (16 * (length v.sections + 1))

abbrev pub profile_tests : LineState → ℕ → List (ℕ × Bool)
profile_tests v room = (20, broken_in (all_broken v) v) ∷ (56, unready v room) ∷ []

unfoldable pub profile_refusal : LineState → ℕ → ℕ
profile_refusal v room = first_of (profile_tests v room)

-- ---- the call

-- r has the number that is given, and where that is none how many bytes the profile has
pub record Profiles (v : LineState) (room : ℕ) (r : Result ℕ Refusal) : Type 0 where
  pub number : number_of r ≡ profile_refusal v room
  pub written : IfOk r (λ n. n ≡ length (profile v))

-- the buffer after it: the profile at its beginning, or as it was where the call is refused
unfoldable pub buffer_after : LineState → List ℕ → List ℕ
buffer_after v buffer = cond (ltb 0 (profile_refusal v (length buffer))) buffer (put_at buffer 0 (profile v))
