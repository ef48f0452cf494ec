-- Fields and lines of document 01, computed.
use mathlib.Core.Path.{◌≡◌, refl}
use mathlib.Core.Bool.{false}
use mathlib.Core.List.{List, [], ◌∷◌, ◌++◌}
use Prim.Native.Nat.{ℕ}
use lib.IntN.{pos, negsuc}
use lib.ListN.{length, take}
use Rattle.numbers.specs.Numbers.{put_at}
use Rattle.std.specs.Prelude.{Some, None}
use Rattle.std.specs.Prelude.{Err}
use Rattle.records.specs.declared.Tag.TheVariants.{Lin, Spr, Run}
use Rattle.records.specs.declared.Refusal.TheVariants.{NotARecord, BadField}
use Rattle.columns.specs.Decimals.{blanks, digits_by, digits, decimal, fits_in, pad, same, value_of, has_minus, candidate, field_of}
use Rattle.columns.specs.Lines.{line_end, line_with, width_of, fields, all_fit, columns_of, line_fits, tag_line, is_wide, heading}
use Rattle.columns.specs.Records.{letters, tag_among, all_numbers, numbers_in, lacks_print_unit, with_print_unit, record_line, numbers_line, record_in, line_in}

-- "      -4" is a number; "      +4", "     007", "      -0", "    -  4", "      4 " and blanks are none
field_examples :
    (field_of (blanks 6 ++ (45 ∷ 52 ∷ [])) ≡ Some (negsuc 3))
    × (field_of (blanks 6 ++ (43 ∷ 52 ∷ [])) ≡ None)
    × (field_of (blanks 5 ++ (48 ∷ 48 ∷ 55 ∷ [])) ≡ None)
    × (field_of (blanks 6 ++ (45 ∷ 48 ∷ [])) ≡ None)
    × (field_of (blanks 4 ++ (45 ∷ 32 ∷ 32 ∷ 52 ∷ [])) ≡ None)
    × (field_of (blanks 6 ++ (52 ∷ 32 ∷ [])) ≡ None)
    × (field_of (blanks 8) ≡ None)
    × (field_of (blanks 7 ++ (48 ∷ [])) ≡ Some (pos 0))
unfolding field_of candidate has_minus value_of same pad decimal digits digits_by blanks
field_examples = (refl, refl, refl, refl, refl, refl, refl, refl)

-- "PNT       2    2564      -4   10657", case A's line of benchmark 2
point_example :
    take 35 (tag_line (80 ∷ 78 ∷ 84 ∷ []) (pos 2 ∷ pos 2564 ∷ negsuc 3 ∷ pos 10657 ∷ []) (is_wide (pos 10657)))
    ≡ (80 ∷ 78 ∷ 84 ∷ []) ++ blanks 7 ++ (50 ∷ []) ++ blanks 4 ++ (50 ∷ 53 ∷ 54 ∷ 52 ∷ []) ++ blanks 6 ++ (45 ∷ 52 ∷ []) ++ blanks 3 ++ (49 ∷ 48 ∷ 54 ∷ 53 ∷ 55 ∷ [])
unfolding tag_line line_fits columns_of all_fit width_of fits_in line_with line_end fields is_wide pad decimal digits digits_by blanks
point_example = refl

-- a height below −9,999,999 takes sixteen columns
wide_example :
    (length (fields (is_wide (negsuc 9999998)) (pos 2 ∷ negsuc 9999998 ∷ [])) ≡ 16)
    × (length (fields (is_wide (negsuc 9999999)) (pos 2 ∷ negsuc 9999999 ∷ [])) ≡ 24)
unfolding is_wide fields width_of pad decimal digits digits_by blanks
wide_example = (refl, refl)

-- RUN 2 is a record; with a bad field it is 2, with anything after its field 1, also where its field is bad; a second heading is 1
line_examples :
    (line_in (line_with (letters Run ++ pad 8 (pos 2))) ≡ record_line Run (pos 2 ∷ []))
    × (line_in (line_with (letters Run ++ blanks 8)) ≡ Err BadField)
    × (line_in (line_with (letters Run ++ pad 8 (pos 2) ++ (46 ∷ []))) ≡ Err NotARecord)
    × (line_in (line_with (letters Run ++ blanks 8 ++ (46 ∷ []))) ≡ Err NotARecord)
    × (line_in heading ≡ Err NotARecord)
unfolding line_in record_in numbers_line lacks_print_unit with_print_unit tag_among all_numbers numbers_in put_at heading line_with line_end field_of candidate has_minus value_of same pad decimal digits digits_by blanks
line_examples = (refl, refl, refl, refl, refl)

-- "LIN       4       3       1   10000" and a fifth field
abbrev opening_line : List ℕ → List ℕ
opening_line unit = line_with (letters Lin ++ fields false (pos 4 ∷ pos 3 ∷ pos 1 ∷ pos 10000 ∷ []) ++ unit)

-- a blank print unit is 10, of LIN and of SPR; another number is read as it is, for the rules to refuse; what is no number is 2, and a blank field before it too
print_unit_examples :
    (line_in (opening_line (blanks 8)) ≡ record_line Lin (pos 4 ∷ pos 3 ∷ pos 1 ∷ pos 10000 ∷ pos 10 ∷ []))
    × (line_in (opening_line (pad 8 (pos 1))) ≡ record_line Lin (pos 4 ∷ pos 3 ∷ pos 1 ∷ pos 10000 ∷ pos 1 ∷ []))
    × (line_in (opening_line (pad 8 (pos 0))) ≡ record_line Lin (pos 4 ∷ pos 3 ∷ pos 1 ∷ pos 10000 ∷ pos 0 ∷ []))
    × (line_in (opening_line (blanks 7 ++ (46 ∷ []))) ≡ Err BadField)
    × (line_in (opening_line (blanks 8 ++ (49 ∷ []))) ≡ Err NotARecord)
    × (line_in (line_with (letters Spr ++ fields false (pos 4 ∷ pos 3 ∷ pos 1 ∷ pos 10000 ∷ []))) ≡ record_line Spr (pos 4 ∷ pos 3 ∷ pos 1 ∷ pos 10000 ∷ pos 10 ∷ []))
    × (line_in (line_with (letters Lin ++ fields false (pos 4 ∷ pos 3 ∷ pos 1 ∷ []))) ≡ Err BadField)
unfolding line_in record_in numbers_line lacks_print_unit with_print_unit tag_among all_numbers numbers_in put_at fields width_of line_with line_end field_of candidate has_minus value_of same pad decimal digits digits_by blanks
print_unit_examples = (refl, refl, refl, refl, refl, refl, refl)
