-- What a class of line sets (document 01, 'Runs, sections and the standing list' and 'Closure, corrections, heights'; for spurs document 02, W-202): a row for each class. `Terms` in the code
-- says what each field is, and its unit; 20,000 half dm are a kilometre. Nothing else in the rules goes by the class, but a station's limits (`limits_of`), by its order.
use Rattle.std.specs.Prelude.{true, false, ℕ, ◌*◌, pos}
use Rattle.station.specs.declared.Order.{Order}
use Rattle.station.specs.declared.Staffs.{Staffs}
use Rattle.station.specs.Station.{scale_of}
use Rattle.adjust.specs.declared.terms.Class.{Class}
use Rattle.adjust.specs.declared.terms.Class.TheVariants.{Third, Fourth, Spur}
use Rattle.adjust.specs.declared.terms.Root.{Root}
use Rattle.adjust.specs.declared.terms.Terms.{Terms}

abbrev pub order_of : Class → Order
order_of Third = Order.Third
order_of Fourth = Order.Fourth
order_of Spur = Order.Fourth

abbrev pub terms_of : Class → Terms
-- levelled out and back; D and W within 12 √km; L at most 150 km, for a loop 200 km; T at most 3,600 × n
terms_of Third =
    record {
      double = true;
      tied = true;
      apart = record { a = 625; b = 18 };
      closing = record { a = 625; b = 72 };
      longest = pos 3000000;
      circuit = pos 4000000;
      accidental = pos 3600;
    }
-- levelled one way; W within 20 √km; L at most 80 km, for a loop 100 km. Sections of one run have no D and no T: `apart` decides nothing, and there is no verdict
terms_of Fourth =
    record {
      double = false;
      tied = true;
      apart = record { a = 625; b = 18 };
      closing = record { a = 25; b = 8 };
      longest = pos 1600000;
      circuit = pos 2000000;
      accidental = pos 0;
    }
-- levelled out and back to an end that is not known; D within 20 √km; T at most 10,000 × n. There is no closure and no limit of length: `closing`, `longest` and `circuit` decide nothing, since END on a spur is refused with 41 before 35 and 36
terms_of Spur =
    record {
      double = true;
      tied = false;
      apart = record { a = 25; b = 2 };
      closing = record { a = 25; b = 8 };
      longest = pos 1600000;
      circuit = pos 2000000;
      accidental = pos 10000;
    }

-- ---- by the staffs

-- the square of the parts in which the staffs' constants are given, and so also D and W: 1, or 100 where they were measured (document 02, W-203)
abbrev pub squared_of : Staffs → ℕ
squared_of c = scale_of c * scale_of c

-- a limit of D or W stays in millimetres: a × x² is as many times as large, and so is b × l
abbrev pub scaled : Staffs → Root → Root
scaled c r = record { a = r.a; b = r.b * squared_of c }

-- the row of a class for these staffs
abbrev pub terms_by : Staffs → Class → Terms
terms_by c k = record (terms_of k) { apart = scaled c (terms_of k).apart; closing = scaled c (terms_of k).closing }
