-- A line and its finished sections as the code lends them: the state that they are. No rule of document 01.
use Rattle.std.specs.Prelude.{List, [], ◌∷◌, Some, None}
use Rattle.std.specs.declared.option.Option.{Option}
use Rattle.numbers.specs.Numbers.{last_of}
use Rattle.adjust.specs.declared.Section.{Section}
use Rattle.rules.specs.declared.standing.Standing.{Standing}
use Rattle.rules.specs.LineState.{LineState}

abbrev pub standing_of : Standing → LineState
standing_of s = record { line = s.line.now; sections = s.sections.now }

-- the last section, where there is one
abbrev pub last_in : List Section → Option Section
last_in [] = None
last_in (x ∷ xs) = Some (last_of x xs)
