-- Case A of document 01, with the collimation test and the print unit of document 02, W-204 and W-214, in whole millimetres and in tenths, and its section 1 alone by measured constants
-- (document 02, W-203), worked: the bytes of a text give the bytes of its report, both written out as they stand in a file.
use Rattle.std.specs.Prelude.{◌≡◌, refl, pos}
use Prim.Native.String.{String, ◌++◌}
use Rattle.numbers.specs.Numbers.{put_at}
use Rattle.roots.specs.Round.{round_even}
use Rattle.roots.specs.Limit.{is_within}
use Rattle.collimation.specs.Collimation.{within_angle}
use Rattle.columns.specs.Ascii.{bytes_of}
use Rattle.columns.specs.Decimals.{blanks, digits_by, digits, decimal, fits_in, pad, same, value_of, has_minus, candidate, field_of}
use Rattle.columns.specs.Lines.{line_end, line_with, width_of, fields, all_fit, columns_of, line_fits, tag_line, is_wide, heading, title}
use Rattle.columns.specs.Records.{tag_among, all_numbers, numbers_in, lacks_print_unit, with_print_unit, numbers_line, record_in, line_in}
use Rattle.columns.specs.Texts.{lines_by, lines, joined}
use Rattle.textbook.specs.Text.{refusals_from}
use Rattle.fieldbook.specs.Report.{report, shown_t}

abbrev pub book_a : String
book_a =
    "LEVEL BOOK                                                                         \n"
    ++ "LIN       4       3       1   10000       1                                        \n"
    ++ "ANG    5937    5951    6043    6067    6800   40300                                \n"
    ++ "STA    4787    1571    1197    1384    6171    4687     739     363     551    5239\n"
    ++ "STA    4687    1965    1700    1832    6519    4787    2141    1874    2007    6793\n"
    ++ "RUN       2                                                                        \n"
    ++ "STA    4787    1300    1100    1200    5987    4687    1000     800     900    5587\n"
    ++ "STA    4687    1500    1300    1400    6087    4787    1250    1050    1150    5937\n"
    ++ "RUN       3                                                                        \n"
    ++ "END       3   11206                                                                \n"

abbrev pub report_a : String
report_a =
    "REDUCED LEVELS                                                                     \n"
    ++ "CLO       8    4164       2       0       0                                        \n"
    ++ "PNT       1       0       0   10000                                                \n"
    ++ "PNT       2    2564      -4   10657                                                \n"
    ++ "PNT       3    4164      -4   11206                                                \n"

pub case_a : report (bytes_of book_a) ≡ bytes_of report_a
unfolding report lines_by lines joined line_in record_in numbers_line lacks_print_unit with_print_unit tag_among all_numbers numbers_in put_at heading title line_with line_end field_of candidate has_minus value_of same pad decimal digits digits_by blanks tag_line line_fits columns_of all_fit width_of fits_in fields is_wide refusals_from round_even is_within within_angle
case_a = refl

-- the same with a blank print unit: in tenths
abbrev pub book_tenths : String
book_tenths =
    "LEVEL BOOK                                                                         \n"
    ++ "LIN       4       3       1   10000                                                \n"
    ++ "ANG    5937    5951    6043    6067    6800   40300                                \n"
    ++ "STA    4787    1571    1197    1384    6171    4687     739     363     551    5239\n"
    ++ "STA    4687    1965    1700    1832    6519    4787    2141    1874    2007    6793\n"
    ++ "RUN       2                                                                        \n"
    ++ "STA    4787    1300    1100    1200    5987    4687    1000     800     900    5587\n"
    ++ "STA    4687    1500    1300    1400    6087    4787    1250    1050    1150    5937\n"
    ++ "RUN       3                                                                        \n"
    ++ "END       3   11206                                                                \n"

abbrev pub report_tenths : String
report_tenths =
    "REDUCED LEVELS                                                                     \n"
    ++ "CLO      80    4164       2       0       0                                        \n"
    ++ "PNT       1       0       0          100000                                        \n"
    ++ "PNT       2    2564     -48          106568                                        \n"
    ++ "PNT       3    4164     -32          112060                                        \n"

pub case_tenths : report (bytes_of book_tenths) ≡ bytes_of report_tenths
unfolding report lines_by lines joined line_in record_in numbers_line lacks_print_unit with_print_unit tag_among all_numbers numbers_in put_at heading title line_with line_end field_of candidate has_minus value_of same pad decimal digits digits_by blanks tag_line line_fits columns_of all_fit width_of fits_in fields is_wide refusals_from round_even is_within within_angle
case_tenths = refl

-- W and the corrections in a tenth of the unit, heights in mm
abbrev pub book_measured : String
book_measured =
    "LEVEL BOOK                                                                         \n"
    ++ "LIN       4       3       1   10000       1                                        \n"
    ++ "KON   46850   47870                                                                \n"
    ++ "ANG    5937    5951    6043    6067    6800   40300                                \n"
    ++ "STA    4787    1571    1197    1384    6171    4687     739     363     551    5239\n"
    ++ "STA    4687    1965    1700    1832    6519    4787    2141    1874    2007    6793\n"
    ++ "RUN       2                                                                        \n"
    ++ "KON   46850   47870                                                                \n"
    ++ "KON   46769   47870                                                                \n"
    ++ "END       2   10651                                                                \n"

abbrev pub report_measured : String
report_measured =
    "REDUCED LEVELS                                                                     \n"
    ++ "REF       8      43                                                                \n"
    ++ "REF       9      42                                                                \n"
    ++ "CLO     280    2564       1       0       0                                        \n"
    ++ "PNT       1       0       0   10000                                                \n"
    ++ "PNT       2    2564    -280   10651                                                \n"

pub case_measured : report (bytes_of book_measured) ≡ bytes_of report_measured
unfolding report lines_by lines joined line_in record_in numbers_line lacks_print_unit with_print_unit tag_among all_numbers numbers_in put_at heading title line_with line_end field_of candidate has_minus value_of same pad decimal digits digits_by blanks tag_line line_fits columns_of all_fit width_of fits_in fields is_wide refusals_from round_even is_within within_angle
case_measured = refl

-- T in CLO, up to eight digits and beyond
pub shown_99999999 : shown_t (pos 99999999) ≡ pos 99999999
shown_99999999 = refl

pub shown_100000000 : shown_t (pos 100000000) ≡ pos 99999999
shown_100000000 = refl
