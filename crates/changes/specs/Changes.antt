-- How the code makes a call of a book: what it changes, before it touches the array of the sections. No rule of document 01.
use Rattle.std.specs.Prelude.{◌≡◌, cond, ◌&&◌, List, [], ◌∷◌, ◌+◌, ◌-◌, leb, ltb, set, ℤ, IfOk}
use Rattle.std.specs.declared.result.Result.{Result}
use Rattle.records.specs.declared.Refusal.{Refusal}
use Rattle.records.specs.Refusals.{number_of}
use Rattle.station.specs.declared.Instrument.{Instrument}
use Rattle.adjust.specs.declared.terms.Class.{Class}
use Rattle.adjust.specs.Prints.{print_unit_of}
use Rattle.adjust.specs.declared.Section.{Section}
use Rattle.adjust.specs.declared.Sections.{Sections}
use Rattle.adjust.specs.Sections.{no_section}
use Rattle.rules.specs.declared.Line.{Line}
use Rattle.rules.specs.declared.Book.{Book}
use Rattle.rules.specs.LineState.{LineState, state_of}
use Rattle.rules.specs.declared.call.Call.{Call}
use Rattle.rules.specs.Rules.{is_lift, begun, opening_with, book_refusal, lifted, taken}
use Rattle.changes.specs.declared.Change.{Change}
use Rattle.changes.specs.declared.Shift.{Shift}
use Rattle.changes.specs.declared.Shift.TheVariants.{Same, Finished, Lifted}

-- a section that stands beside no others was finished
abbrev pub finishing : List Section → Shift
finishing [] = Same
finishing (x ∷ xs) = Finished x

-- what a call that is taken changes but a lift, told by the rules of the line beside no sections: a section that it finishes is then the only one
abbrev pub change_of : Line → Call → Change
change_of l c =
    let v : LineState = taken (record { line = l; sections = [] }) c in
    record { line = v.line; shift = finishing v.sections }

unfoldable pub effect_of : LineState → Call → Change
effect_of v c = cond (is_lift c) (record { line = (lifted v).line; shift = Lifted }) (change_of v.line c)

-- of a line or a spur that is opened
abbrev pub opened : Class → Instrument → ℤ → ℤ → ℤ → Change
opened class instrument number height prints =
    record { line = begun (opening_with class instrument number height (print_unit_of prints)); shift = Same }

-- r is what a call makes of a book: its refusal, or what it changes
pub record Decides (b : Book) (c : Call) (r : Result Change Refusal) : Type 0 where
  pub number : number_of r ≡ book_refusal (state_of b) c
  pub change : IfOk r (λ x. x ≡ effect_of (state_of b) c)

-- ---- a change that is made

-- one section more, or one fewer, whose place is cleared; one for which there is no place is left out
abbrev pub shifted : Sections → Shift → Sections
shifted s Same = s
shifted s (Finished x) = cond (ltb s.count 64) (record { count = s.count + 1; places = set s.places s.count x }) s
shifted s Lifted = cond (ltb 0 s.count && leb s.count 64) (record { count = s.count - 1; places = set s.places (s.count - 1) no_section }) s

abbrev pub changed : Book → Change → Book
changed b x = record { line = x.line; sections = shifted b.sections x.shift }
