-- The print unit, in which heights are printed, and W and corrections with them (document 02, W-214).
use Rattle.std.specs.Prelude.{Bool, true, false, cond, ◌||◌, ℕ, ℤ, pos}
use Rattle.numbers.specs.Numbers.{eq_z}
use Rattle.adjust.specs.declared.prints.PrintUnit.{PrintUnit}
use Rattle.adjust.specs.declared.prints.PrintUnit.TheVariants.{Millimetres, Tenths}

-- how many of it are a millimetre
abbrev pub prints_of : PrintUnit → ℕ
prints_of Millimetres = 1
prints_of Tenths = 10

abbrev pub is_tenths : PrintUnit → Bool
is_tenths Millimetres = false
is_tenths Tenths = true

-- the numbers by which a print unit is asked for; another is refused with 57
abbrev pub prints_allowed : ℤ → Bool
prints_allowed n = eq_z n (pos 1) || eq_z n (pos 10)

-- and the print unit that one of the two names
abbrev pub print_unit_of : ℤ → PrintUnit
print_unit_of n = cond (eq_z n (pos 1)) Millimetres Tenths
