-- A station: its readings, what is computed of them, and the limits of GB 12898-91, Tables 6 and 8 (document 01, 'The station').
use Rattle.std.specs.Prelude.{◌≡◌, Bool, not, cond, ◌&&◌, ◌||◌, List, [], ◌∷◌, ℕ, ◌*◌, get_or, ℤ, pos, ◌+ℤ◌, ◌-ℤ◌, ◌*ℤ◌, IfOk}
use Rattle.std.specs.declared.result.Result.{Result}
use Rattle.std.specs.Int.Signed.{lt_z}
use Rattle.numbers.specs.Numbers.{within, between, eq_z}
use Rattle.numbers.specs.Tables.{first_of}
use Rattle.records.specs.declared.Refusal.{Refusal}
use Rattle.records.specs.Refusals.{number_of}
use Rattle.station.specs.declared.Order.{Order}
use Rattle.station.specs.declared.Order.TheVariants.{Third, Fourth}
use Rattle.station.specs.declared.Instrument.{Instrument}
use Rattle.station.specs.declared.Instrument.TheVariants.{Ds3, Ds1}
use Rattle.station.specs.declared.Staffs.{Staffs}
use Rattle.station.specs.declared.Staffs.TheVariants.{Nominal, Measured}
use Rattle.station.specs.declared.Limits.{Limits}
use Rattle.station.specs.declared.Sighting.{Sighting}
use Rattle.station.specs.declared.Figures.{Figures}
pub use Rattle.station.specs.declared.Staff.{Staff}
pub use Rattle.station.specs.declared.Station.{Station}

-- the parts of a millimetre in which the staffs' constants are given
abbrev pub scale_of : Staffs → ℕ
scale_of Nominal = 1
scale_of (Measured first second) = 10

-- the constant of the staff that a station names by its nominal one, in these parts
abbrev pub constant_of : Staffs → ℤ → ℤ
constant_of Nominal k = k
constant_of (Measured first second) k = cond (eq_z k (pos 4687)) (pos first) (pos second)

-- millimetres in these parts
abbrev pub in_parts : Staffs → ℤ → ℤ
in_parts c x = pos (scale_of c) *ℤ x

-- readings come as upper thread, lower thread, black middle, red middle
abbrev pub staff_of : ℤ → List ℤ → Staff
staff_of k t = record { constant = k; upper = get_or t 0 (pos 0); lower = get_or t 1 (pos 0); black = get_or t 2 (pos 0); red = get_or t 3 (pos 0) }

-- of the two constants and the readings, back and fore
abbrev pub station_of : ℤ → ℤ → List (List ℤ) → Station
station_of kb kf readings = record { back = staff_of kb (get_or readings 0 []); fore = staff_of kf (get_or readings 1 []) }

-- ---- figures

-- dm
abbrev pub sight : Staff → ℤ
sight s = s.upper -ℤ s.lower

-- d, dm
abbrev pub sight_difference : Station → ℤ
sight_difference x = sight x.back -ℤ sight x.fore

-- both sights, dm
abbrev pub sights : Station → ℤ
sights x = sight x.back +ℤ sight x.fore

-- e, mm, or the part of it in which the constants are given
abbrev pub face_difference : Staffs → Staff → ℤ
face_difference c s = constant_of c s.constant +ℤ in_parts c s.black -ℤ in_parts c s.red

-- twice the station height ('twice-height'), half mm, or half of that part
abbrev pub twice_height : Staffs → Station → ℤ
twice_height c x =
    (in_parts c x.back.black -ℤ in_parts c x.fore.black) +ℤ (in_parts c x.back.red -ℤ in_parts c x.fore.red)
    -ℤ (constant_of c x.back.constant -ℤ constant_of c x.fore.constant)

-- ---- what the input alone causes

abbrev pub readings_in_range : Staff → Bool
readings_in_range s =
    between (pos 0) s.upper (pos 3000) && between (pos 0) s.lower (pos 3000) && between (pos 0) s.black (pos 3000)
    && between (pos 0) s.red (pos 7999)

abbrev pub constants_paired : Station → Bool
constants_paired x =
    (eq_z x.back.constant (pos 4687) && eq_z x.fore.constant (pos 4787))
    || (eq_z x.back.constant (pos 4787) && eq_z x.fore.constant (pos 4687))

abbrev pub threads_in_order : Staff → Bool
threads_in_order s = lt_z s.lower s.black && lt_z s.black s.upper

abbrev pub reading_tests : Station → List (ℕ × Bool)
reading_tests x =
    (6, not (readings_in_range x.back && readings_in_range x.fore))
    ∷ (7, not (constants_paired x))
    ∷ (8, not (threads_in_order x.back && threads_in_order x.fore)) ∷ []

-- ---- what the limits cause

abbrev pub sight_limit : Order → Instrument → ℕ
sight_limit Third Ds3 = 750
sight_limit Third Ds1 = 1000
sight_limit Fourth Ds3 = 1000
sight_limit Fourth Ds1 = 1500

abbrev pub limits_of : Order → Instrument → Staffs → Limits
limits_of Third instrument c = record { sight = sight_limit Third instrument; difference = 20; accumulated = 50; face = 2 * scale_of c; faces = 3 * scale_of c }
limits_of Fourth instrument c = record { sight = sight_limit Fourth instrument; difference = 30; accumulated = 100; face = 3 * scale_of c; faces = 5 * scale_of c }

abbrev pub sighting_of : Staffs → Staff → Sighting
sighting_of c s = record { sight = sight s; face = face_difference c s }

abbrev pub figures_of : Staffs → Station → Figures
figures_of c x =
    record { back = sighting_of c x.back; fore = sighting_of c x.fore; difference = sight_difference x; height = twice_height c x }

-- all inclusive, on absolute values; `accumulated` is the sum of d before this station
abbrev pub limit_tests : Limits → ℤ → Figures → List (ℕ × Bool)
limit_tests l accumulated f =
    (24, not (within f.back.sight l.sight && within f.fore.sight l.sight))
    ∷ (25, not (within f.difference l.difference))
    ∷ (26, not (within (accumulated +ℤ f.difference) l.accumulated))
    ∷ (27, not (within f.back.face l.face && within f.fore.face l.face))
    ∷ (28, not (within (f.back.face -ℤ f.fore.face) l.faces)) ∷ []

-- ---- what is answered of readings

-- 6, 7, 8, or 0
unfoldable pub reading_refusal : ℤ → ℤ → List (List ℤ) → ℕ
reading_refusal kb kf readings = first_of (reading_tests (station_of kb kf readings))

-- r has that number, and where it is 0 the station's figures
abbrev pub Reads : Staffs → ℤ → ℤ → List (List ℤ) → Result Figures Refusal → Type 0
Reads c kb kf readings r = (number_of r ≡ reading_refusal kb kf readings) × IfOk r (λ f. f ≡ figures_of c (station_of kb kf readings))
