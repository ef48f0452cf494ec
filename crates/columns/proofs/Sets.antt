-- For each function that a search alone does not prove, the lemmas that its proof cites.
use lib.ListN.{drop_of_length-le, length-take, length-drop}
use Rattle.std.proofs.lemmas.Int.{to_z_pos, to_z-of_z}
use Rattle.numbers.proofs.Arrays.{put_none}
use Rattle.columns.proofs.Lists.{part_rest, put_part}
use Rattle.columns.proofs.Digits.{digits_log, digits_zero}
use Rattle.columns.proofs.Put.{placed_room, placed_none, placed_empty}
use Rattle.columns.proofs.Fields.{eight_fit, eight_low, eight_high, decimal_minus, decimal_plain, digits_room, minus_room, plain_put, minus_put}
use Rattle.columns.proofs.FieldParts.{natural_empty, natural_one, natural_zero, natural_more, field_skip, field_none, field_first_minus, field_first_other}
use Rattle.columns.proofs.Runs.{all_next, all_low, all_high, value_next, run_bad, run_number, power_next, power_17, power_18, minus_above, minus_none, minus_fits}
use Rattle.columns.proofs.Lines.{columns_narrow, columns_wide, columns_none, columns_range, columns_turn, width_before, fit_turn, end_part, line_room, line_each, fits_not, fits_room, line_is, line_none, length_line}
use Rattle.std.proofs.lemmas.Bool.Decides.{nat_tests}
use Rattle.columns.proofs.Tags.{tag_three, tag_shorter, tag_longer}
use Rattle.columns.proofs.Records.{numbers_next, numbers_stop, numbers_end, values_put, values_end, line_refused, line_taken}

-- ---- the parser

pub ruleset digit_run = (all_next, all_low, all_high, value_next, run_bad, run_number, power_next, power_17, power_18, to_z_pos)

pub ruleset natural = (natural_empty, natural_one, natural_zero, natural_more)

pub ruleset negate = (minus_above, minus_none, minus_fits, to_z-of_z)

pub ruleset read_field = (field_skip, field_none, field_first_minus, field_first_other, length-take, length-drop)

pub ruleset read_numbers = (numbers_next, numbers_stop, numbers_end, values_put, values_end, line_refused, line_taken, put_none, length-take)

pub ruleset find_tag = (tag_three, tag_shorter, tag_longer, nat_tests)

pub ruleset ends_from = (part_rest, end_part)

-- ---- the writer

pub ruleset count_digits = (digits_log, digits_zero)

pub ruleset fits = (eight_fit, eight_low, eight_high, decimal_minus, decimal_plain, to_z-of_z)

pub ruleset put_number = (digits_room, minus_room, plain_put, minus_put, to_z-of_z)

pub ruleset width_of = (width_before)

pub ruleset columns_of = (columns_narrow, columns_wide, columns_none)

pub ruleset line_fits = (columns_range, fits_not, fits_room)

pub ruleset put_fields = (columns_turn, put_none, drop_of_length-le)

pub ruleset write_line = (columns_range, line_room, line_each, length-take, length-drop)

pub ruleset put_line = (put_part, line_is, line_none, length_line, placed_room, placed_none, placed_empty)
