-- Bounds of the figures of readings in their ranges, wider than they need be: what keeps the code's sums small. No rule of the station.
use Rattle.std.specs.Prelude.{◌≤◌, nat_abs}
use Rattle.station.specs.declared.Sighting.{Sighting}
use Rattle.station.specs.declared.Figures.{Figures}

pub record SmallSighting (g : Sighting) : Type 0 where
  pub sight : nat_abs g.sight ≤ 6000
  pub face : nat_abs g.face ≤ 175525

pub record Small (f : Figures) : Type 0 where
  pub back : SmallSighting f.back
  pub fore : SmallSighting f.fore
  pub difference : nat_abs f.difference ≤ 12000
  pub height : nat_abs f.height ≤ 351050
