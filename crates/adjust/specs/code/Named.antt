-- What a number names, or that it names none, as the code answers it. No rule of the documents.
use Rattle.std.specs.Prelude.{cond, ℤ, pos, Some, None}
use Rattle.std.specs.declared.option.Option.{Option}
use Rattle.numbers.specs.Numbers.{eq_z}
use Rattle.adjust.specs.declared.prints.PrintUnit.{PrintUnit}
use Rattle.adjust.specs.declared.prints.PrintUnit.TheVariants.{Millimetres, Tenths}

-- a print unit; none where the number is refused with 57
abbrev pub print_unit_named : ℤ → Option PrintUnit
print_unit_named n = cond (eq_z n (pos 1)) (Some Millimetres) (cond (eq_z n (pos 10)) (Some Tenths) None)
