-- Legs, the sections of the adjustment call as they are lent: a list of records with Q and R (document 01, 'Closure, corrections, heights').
use Rattle.std.specs.Prelude.{List, map, pos}
use Rattle.adjust.specs.declared.Section.{Section}
use Rattle.adjust.specs.declared.entry.Leg.{Leg}

-- a leg is a section under no number and with no discrepancy
abbrev pub leg_section : Leg → Section
leg_section x = record { number = pos 0; height = x.height; distance = x.distance; discrepancy = pos 0 }

abbrev pub leg_sections : List Leg → List Section
leg_sections xs = map leg_section xs
