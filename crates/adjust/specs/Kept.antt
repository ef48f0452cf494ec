-- The sums that a line keeps of its sections, ΣQ, L and T: they are changed by a section that is finished or lifted, and are those of the standing list (document 02, W-210). n is the count of
-- the sections.
use Rattle.std.specs.Prelude.{Bool, not, ◌&&◌, ◌||◌, List, ℤ, pos, ◌+ℤ◌, ◌-ℤ◌}
use Rattle.numbers.specs.Numbers.{within, eq_z}
use Rattle.adjust.specs.declared.Opening.{Opening}
use Rattle.adjust.specs.declared.Section.{Section}
use Rattle.adjust.specs.declared.SectionSums.{SectionSums}
use Rattle.adjust.specs.declared.Totals.{Totals}
use Rattle.adjust.specs.Sizes.{most_sum_q, most_l, most_sum_t}
use Rattle.adjust.specs.Sections.{misfit}
use Rattle.adjust.specs.Terms.{squared_of, terms_of}
use Rattle.adjust.specs.Line.{line_height, line_length, closure_by, section_error, accidental_sum}

-- of no section
abbrev pub no_sums : SectionSums
no_sums = record { height = pos 0; distance = pos 0; accidental = pos 0 }

-- of the sections of a line that is opened as o
abbrev pub sums_of : Opening → List Section → SectionSums
sums_of o ss = record { height = line_height ss; distance = line_length ss; accidental = accidental_sum (terms_of o.class) (squared_of o.staffs) ss }

-- t of one of them
abbrev pub error_of : Opening → Section → ℤ
error_of o x = section_error (terms_of o.class) (squared_of o.staffs) x

-- with the section x, and without it
abbrev pub sums_plus : Opening → SectionSums → Section → SectionSums
sums_plus o s x = record { height = s.height +ℤ x.height; distance = s.distance +ℤ x.distance; accidental = s.accidental +ℤ error_of o x }

abbrev pub sums_minus : Opening → SectionSums → Section → SectionSums
sums_minus o s x = record { height = s.height -ℤ x.height; distance = s.distance -ℤ x.distance; accidental = s.accidental -ℤ error_of o x }

-- W and L by them
abbrev pub totals_from : ℤ → ℤ → ℤ → SectionSums → Totals
totals_from units start end s = record { closure = closure_by units start end s.height; distance = s.distance }

-- ---- for refusal 20

-- none is more than 64 sections in the wider range have
abbrev pub sums_fit : SectionSums → Bool
sums_fit s = within s.height most_sum_q && within s.distance most_l && within s.accidental most_sum_t

abbrev pub same_sums : SectionSums → SectionSums → Bool
same_sums s t = eq_z s.height t.height && eq_z s.distance t.distance && eq_z s.accidental t.accidental

-- sections outside the wider range, or beside sums that are not theirs
abbrev pub unsummed : Opening → SectionSums → List Section → Bool
unsummed o s ss = misfit ss || not (same_sums s (sums_of o ss))
