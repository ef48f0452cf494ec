-- Case A of document 01 and its section 1 by measured constants, worked from the bytes of the text to the bytes of the profile; whole numbers at the ends of what a book can hold.
use Rattle.std.specs.Prelude.{◌≡◌, refl, take, [], ◌∷◌, pos, neg_ℤ}
use lib.Ieee.{round, of_int, to_bits}
use Rattle.numbers.specs.Numbers.{put_at}
use Rattle.columns.specs.Decimals.{blanks, digits_by, digits, decimal, fits_in, pad, same, value_of, has_minus, candidate, field_of}
use Rattle.columns.specs.Lines.{line_end, line_with, heading}
use Rattle.columns.specs.Records.{tag_among, all_numbers, numbers_in, lacks_print_unit, with_print_unit, numbers_line, record_in, line_in}
use Rattle.columns.specs.Texts.{lines_by, lines, joined}
use Rattle.roots.specs.Round.{round_even}
use Rattle.roots.specs.Limit.{is_within}
use Rattle.collimation.specs.Collimation.{within_angle}
use Rattle.columns.specs.Ascii.{bytes_of}
use Rattle.fieldbook.specs.Worked.{book_a, book_measured}
use Rattle.plotter.specs.Floats.{float_of, float_bytes}
use Rattle.plotter.specs.Profile.{profile}
use Rattle.plotter.specs.Text.{text_profile, text_refusal}

-- ---- a float's bytes

pub zero_bytes : float_bytes (float_of (pos 0)) ≡ 0 ∷ 0 ∷ 0 ∷ 0 ∷ 0 ∷ 0 ∷ 0 ∷ 0 ∷ []
unfolding float_bytes to_bits of_int round
zero_bytes = refl

-- the lowest start, −999,999 mm, in fortieths of a millimetre
pub low_bytes : float_bytes (float_of (neg_ℤ (pos 39999960))) ≡ 0 ∷ 0 ∷ 0 ∷ 192 ∷ 206 ∷ 18 ∷ 131 ∷ 193 ∷ []
unfolding float_bytes to_bits of_int round
low_bytes = refl

pub high_bytes : float_bytes (float_of (pos 3559999960)) ≡ 0 ∷ 0 ∷ 0 ∷ 59 ∷ 41 ∷ 134 ∷ 234 ∷ 65 ∷ []
unfolding float_bytes to_bits of_int round
high_bytes = refl

-- ---- texts

pub case_a : text_profile (bytes_of book_a)
    ≡ 0 ∷ 0 ∷ 0 ∷ 0 ∷ 0 ∷ 0 ∷ 0 ∷ 0 ∷ 0 ∷ 0 ∷ 0 ∷ 0 ∷ 0 ∷ 136 ∷ 227 ∷ 64
    ∷ 0 ∷ 0 ∷ 0 ∷ 0 ∷ 0 ∷ 8 ∷ 164 ∷ 64 ∷ 0 ∷ 0 ∷ 0 ∷ 0 ∷ 0 ∷ 209 ∷ 228 ∷ 64
    ∷ 0 ∷ 0 ∷ 0 ∷ 0 ∷ 0 ∷ 68 ∷ 176 ∷ 64 ∷ 0 ∷ 0 ∷ 0 ∷ 0 ∷ 0 ∷ 228 ∷ 229 ∷ 64 ∷ []
unfolding profile float_bytes to_bits of_int round put_at lines_by lines joined line_in record_in with_print_unit lacks_print_unit numbers_line tag_among all_numbers numbers_in heading line_with line_end field_of candidate has_minus value_of same pad decimal digits digits_by blanks fits_in round_even is_within within_angle
case_a = refl

pub case_measured : text_profile (bytes_of book_measured)
    ≡ 0 ∷ 0 ∷ 0 ∷ 0 ∷ 0 ∷ 0 ∷ 0 ∷ 0 ∷ 0 ∷ 0 ∷ 0 ∷ 0 ∷ 0 ∷ 106 ∷ 24 ∷ 65
    ∷ 0 ∷ 0 ∷ 0 ∷ 0 ∷ 0 ∷ 8 ∷ 164 ∷ 64 ∷ 0 ∷ 0 ∷ 0 ∷ 0 ∷ 64 ∷ 5 ∷ 26 ∷ 65 ∷ []
unfolding profile float_bytes to_bits of_int round put_at lines_by lines joined line_in record_in with_print_unit lacks_print_unit numbers_line tag_among all_numbers numbers_in heading line_with line_end field_of candidate has_minus value_of same pad decimal digits digits_by blanks fits_in round_even is_within within_angle
case_measured = refl

-- 47 bytes are too few for three pairs; without its last line the line is not closed
pub case_a_refused : (text_refusal (bytes_of book_a) 47 ≡ 56) × ((text_refusal (bytes_of book_a) 48 ≡ 0) × (text_refusal (take 756 (bytes_of book_a)) 48 ≡ 56))
unfolding text_refusal put_at lines_by lines joined line_in record_in with_print_unit lacks_print_unit numbers_line tag_among all_numbers numbers_in heading line_with line_end field_of candidate has_minus value_of same pad decimal digits digits_by blanks fits_in round_even is_within within_angle
case_a_refused = (refl, (refl, refl))
