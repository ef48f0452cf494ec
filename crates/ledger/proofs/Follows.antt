-- The counts and sums of the plain reading's lists follow the calls as the rules say.
use mathlib.Core.Path.{◌≡◌, refl, ap, ◌∙◌}
use mathlib.Core.List.{List, [], ◌∷◌, ◌++◌, map}
use Rattle.std.specs.declared.option.Option.{Option}
use Rattle.std.specs.Prelude.{Some, None}
use lib.ListN.{length-append}
use lib.IntN.{ℤ, pos}
use Rattle.numbers.specs.Numbers.{last_of}
use Rattle.numbers.proofs.Last.{but_last_map, sum_more}
use Rattle.adjust.specs.declared.terms.Class.{Class}
use Rattle.adjust.specs.declared.terms.Class.TheVariants.{Third, Fourth, Spur}
use Rattle.station.specs.declared.Staffs.{Staffs}
use Rattle.station.specs.declared.Station.{Station}
use Rattle.station.specs.Station.{station_of, figures_of, sights, sight_difference, twice_height}
use Rattle.adjust.specs.declared.Section.{Section}
use Rattle.adjust.specs.Kept.{sums_of}
use Rattle.adjust.proofs.Kept.{sums_more, sums_less}
use Rattle.rules.specs.LineState.{LineState, no_run, with_station}
use Rattle.rules.specs.Rules as Rules
use Rattle.rules.specs.declared.call.Call.{Call}
use Rattle.rules.specs.declared.call.Call.TheVariants.{Station as station, EndRun as end_run, LiftSection as lift_section}
use Rattle.rules.specs.Rules.{with_runs, with_sums, with_section}
use Rattle.ledger.specs.Plain as Plain
use Rattle.ledger.specs.Plain.{Reading, Levelled, Awaited, run_of, section_of, plain_state, with_lists}

-- a reading with the class and the waiting list given: the end of a run goes by these two, so a proof goes by their cases and is then used
-- at `recast r r.opening.class r.waiting`, which is r
abbrev pub recast : Reading → Class → Option Awaited → Reading
recast r class waiting = record r { opening = record r.opening { class = class }; waiting = waiting }

-- ---- one station more

last_append : (f : Station → ℤ) (a : ℤ) (xs : List Station) (x : Station) → last_of a (map f (xs ++ (x ∷ []))) ≡ f x
last_append f a [] x = refl
last_append f a (y ∷ ys) x = last_append f (f y) ys x

pub run_append : (c : Staffs) (xs : List Station) (x : Station) → run_of c (xs ++ (x ∷ [])) ≡ with_station (run_of c xs) (figures_of c x) x.fore.constant
run_append c xs x = λ i.
    record {
      count = length-append xs (x ∷ []) i;
      height = sum_more (twice_height c) xs x i;
      sights = sum_more sights xs x i;
      difference = sum_more sight_difference xs x i;
      last = last_append (λ (y : Station). y.fore.constant) (pos 0) xs x i;
    }

-- ---- one section more

pub section_append : (c : Staffs) (xs : List Levelled) (x : Levelled) → map (section_of c) (xs ++ (x ∷ [])) ≡ map (section_of c) xs ++ (section_of c x ∷ [])
section_append c [] x = refl
section_append c (y ∷ ys) x = ap (λ (l : List Section). section_of c y ∷ l) (section_append c ys x)

-- whose sums are added
finished : (r : Reading) (x : Levelled) → plain_state (with_lists r (r.sections ++ (x ∷ [])) None []) ≡ with_section (plain_state r) (section_of r.opening.staffs x)
finished r x =
    let v : LineState = plain_state r in
    let more = section_append r.opening.staffs r.sections x in
    let sums = ap (sums_of r.opening) more ∙ sums_more r.opening v.sections (section_of r.opening.staffs x) in
    λ i. record { line = with_sums (with_runs v.line None no_run) (sums i); sections = more i }

ended : (r : Reading) (class : Class) (waiting : Option Awaited) (n : ℤ)
    → plain_state (Plain.run_ended (recast r class waiting) n) ≡ Rules.run_ended (plain_state (recast r class waiting)) n
ended r Third None n = refl
ended r Spur None n = refl
ended r Fourth None n = finished (recast r Fourth None) (record { number = n; outward = r.present; back = None })
ended r class (Some w) n = finished (recast r class (Some w)) (record { number = w.number; outward = w.outward; back = Some r.present })

-- for every reading and every call, whether a list of calls leads there or not
pub follows : (r : Reading) (c : Call) → plain_state (Plain.taken r c) ≡ Rules.taken (plain_state r) c
follows r (station kb kf readings) =
    let v : LineState = plain_state r in
    λ i. record { line = with_runs v.line v.line.waiting (run_append r.opening.staffs r.present (station_of kb kf readings) i); sections = v.sections }
follows r (end_run number) = ended r r.opening.class r.waiting number
follows r lift_section =
    let v : LineState = plain_state r in
    let fewer = but_last_map (section_of r.opening.staffs) r.sections in
    let sums = ap (sums_of r.opening) fewer ∙ sums_less r.opening v.sections in
    λ i. record { line = with_sums (with_runs v.line v.line.waiting v.line.present) (sums i); sections = fewer i }
follows r c = refl
