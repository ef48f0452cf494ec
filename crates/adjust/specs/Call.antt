-- The adjustment call: its refusals in the order that the documents give them, and the heights that it writes.
use Rattle.std.specs.Prelude.{Bool, not, cond, ◌&&◌, List, [], ◌∷◌, map, ℕ, length, leb, ltb, eqb, ℤ}
use Rattle.numbers.specs.Numbers.{over}
use Rattle.numbers.specs.Tables.{first_of}
use Rattle.adjust.specs.declared.Section.{Section}
use Rattle.adjust.specs.declared.Point.{Point}
use Rattle.adjust.specs.Sections.{leg_in_range, any_outside, height_in_range}
use Rattle.adjust.specs.Line.{quarters, frame_of, section_points}
use Rattle.adjust.specs.Prints.{prints_allowed}

-- of sections between two known heights, printed in so many units to a millimetre, into a list with so many places
abbrev pub adjust_tests : ℤ → ℤ → ℤ → List Section → ℕ → List (ℕ × Bool)
adjust_tests start end prints ss places =
    (11, not (ltb 0 (length ss) && leb (length ss) 64))
    ∷ (13, ltb places (length ss))
    ∷ (12, any_outside leg_in_range ss)
    ∷ (5, not (height_in_range start && height_in_range end))
    ∷ (57, not (prints_allowed prints)) ∷ []

-- the documents' order of these numbers: 11, 13, 12, 5, 57
abbrev pub adjust_rank : ℕ → ℕ
adjust_rank n = cond (eqb n 11) 1 (cond (eqb n 13) 2 (cond (eqb n 12) 3 (cond (eqb n 5) 4 (cond (eqb n 57) 5 6))))

unfoldable pub adjust_refusal : ℤ → ℤ → ℤ → List Section → ℕ → ℕ
adjust_refusal start end prints ss places = first_of (adjust_tests start end prints ss places)

-- one height a section, whatever W and L are
abbrev pub adjusted_heights : ℤ → ℤ → ℤ → List Section → List ℤ
adjusted_heights start end prints ss = map (λ (p : Point). p.height) (section_points (frame_of quarters prints start end ss) ss)

-- the height list after the call: untouched where it is refused, its further places kept where it is taken
unfoldable pub heights_after : ℤ → ℤ → ℤ → List Section → List ℤ → List ℤ
heights_after start end prints ss hs = cond (eqb (adjust_refusal start end prints ss (length hs)) 0) (over (adjusted_heights start end prints ss) hs) hs
