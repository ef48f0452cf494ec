-- What every row of the table of classes keeps, by the staffs: the sizes by which T and D fit.
use Prim.Native.Nat.{◌*◌, ◌≤◌, ◌<◌}
use native.Mathlib.Omega.{arith}
use lib.IntN.{nat_abs}
use Rattle.station.specs.declared.Staffs.{Staffs}
use Rattle.station.specs.declared.Staffs.TheVariants.{Nominal, Measured}
use Rattle.adjust.specs.declared.terms.Class.{Class}
use Rattle.adjust.specs.declared.terms.Class.TheVariants.{Third, Fourth, Spur}
use Rattle.adjust.specs.declared.terms.Terms.{Terms}
use Rattle.adjust.specs.Sizes.{most_r, most_d, most_allowed}
use Rattle.adjust.specs.Terms.{terms_by}

pub record Row (t : Terms) : Type 0 where
  -- D within its root of a section's R is one that fits
  pub some : 0 < t.apart.a
  pub apart : t.apart.b * most_r ≤ most_d * most_d
  pub accidental : nat_abs t.accidental ≤ most_allowed

pub row : (c : Staffs) (o : Class) → Row (terms_by c o)
row Nominal Third = record { some = omega arith; apart = omega arith; accidental = omega arith }
row Nominal Fourth = record { some = omega arith; apart = omega arith; accidental = omega arith }
row Nominal Spur = record { some = omega arith; apart = omega arith; accidental = omega arith }
row (Measured first second) Third = record { some = omega arith; apart = omega arith; accidental = omega arith }
row (Measured first second) Fourth = record { some = omega arith; apart = omega arith; accidental = omega arith }
row (Measured first second) Spur = record { some = omega arith; apart = omega arith; accidental = omega arith }
