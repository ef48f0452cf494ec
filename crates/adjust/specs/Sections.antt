-- The sections of a line, as a list and in an array.
use Rattle.std.specs.Prelude.{Bool, not, ◌&&◌, ◌||◌, List, length, leb, replicate, ℤ, pos, neg_ℤ}
use Rattle.numbers.specs.Numbers.{within, between, any_of, over, filled}
use Rattle.adjust.specs.declared.Section.{Section}
use Rattle.adjust.specs.declared.Sections.{Sections}
use Rattle.adjust.specs.Sizes.{highest, most_q, most_r, most_d}

-- ---- in an array

-- zeros: what a place holds in which no section was put
abbrev pub no_section : Section
no_section = record { number = pos 0; height = pos 0; distance = pos 0; discrepancy = pos 0 }

-- the first `count` sections; those for which there is no place are zeros
abbrev pub sections_of : Sections → List Section
sections_of s = filled no_section s.count s.places

-- the array s with the list ss in it in the stead of the sections that it held: a place that is freed is cleared (document 02, W-210)
unfoldable pub holding : Sections → List Section → Sections
holding s ss = record { count = length ss; places = over ss (over (replicate s.count no_section) s.places) }

-- ---- ranges

-- document 01's range of Q and R in the adjustment call (refusal 12)
abbrev pub leg_in_range : Section → Bool
leg_in_range x = within x.height 2500000 && between (pos 1) x.distance (pos most_r)

-- A wider range, in which all figures of up to 64 sections fit 64 bits. No section of a book made by calls is outside it.
abbrev pub leg_fits : Section → Bool
leg_fits x = within x.height most_q && between (pos 1) x.distance (pos most_r)

abbrev pub section_fits : Section → Bool
section_fits x = leg_fits x && within x.discrepancy most_d

-- a section outside one of these
abbrev pub any_outside : (Section → Bool) → List Section → Bool
any_outside range ss = any_of (λ (x : Section). not (range x)) ss

-- more than 64 sections, or one outside the wider range
abbrev pub misfit : List Section → Bool
misfit ss = not (leb (length ss) 64) || any_outside section_fits ss

abbrev pub height_in_range : ℤ → Bool
height_in_range h = between (neg_ℤ (pos 999999)) h (pos highest)
