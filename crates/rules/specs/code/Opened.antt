-- Opening, a line or a spur: what the two have in common. No rule of document 01.
use Rattle.std.specs.Prelude.{Bool, true, false, cond, ◌&&◌, List, ◌∷◌, ◌++◌, ℕ, ℤ, pos, Some, None, is_some}
use Rattle.std.specs.declared.option.Option.{Option}
use Rattle.numbers.specs.Numbers.{eq_z}
use Rattle.numbers.specs.Tables.{first_of}
use Rattle.station.specs.declared.Instrument.{Instrument}
use Rattle.station.specs.declared.Instrument.TheVariants.{Ds3, Ds1}
use Rattle.adjust.specs.declared.terms.Class.{Class}
use Rattle.adjust.specs.declared.terms.Class.TheVariants.{Third, Fourth, Spur}
use Rattle.rules.specs.LineState.{LineState}
use Rattle.rules.specs.Rules.{open_tests, open_state, broken_in}

-- what the numbers of an opening name: a class, of a line or of a spur, and an instrument; none where they are refused with 3
abbrev pub class_named : ℤ → Option Class
class_named n = cond (eq_z n (pos 3)) (Some Third) (cond (eq_z n (pos 4)) (Some Fourth) None)

abbrev pub spur_named : ℤ → Option Class
spur_named n = cond (eq_z n (pos 4)) (Some Spur) None

abbrev pub instrument_named : ℤ → Option Instrument
instrument_named n = cond (eq_z n (pos 3)) (Some Ds3) (cond (eq_z n (pos 1)) (Some Ds1) None)

-- of the book
abbrev pub fresh_tests : LineState → List (ℕ × Bool)
fresh_tests v = (20, broken_in false v) ∷ open_state v

-- of the start's number and height, the print unit, and of the book: with an order and an instrument that may be opened with
abbrev pub start_refusal : LineState → ℤ → ℤ → ℤ → ℕ
start_refusal v number height prints = first_of (open_tests true (pos 3) number height prints ++ fresh_tests v)

-- and of what the other numbers name
abbrev pub named_refusal : LineState → Option Class → Option Instrument → ℤ → ℤ → ℤ → ℕ
named_refusal v class instrument number height prints = cond (is_some class && is_some instrument) (start_refusal v number height prints) 3
