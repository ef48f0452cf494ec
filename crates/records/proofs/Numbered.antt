-- From a number back to the refusal that has it: no two refusals have one number and none has 0, and an answer can be given under each.
use mathlib.Core.Path.{◌≡◌, refl, sym, ap, subst, ◌∙◌}
use mathlib.Core.Bool.{Bool, true, false, cond}
use mathlib.Core.List.{List, [], ◌∷◌}
use Prim.Native.Nat.{ℕ}
use native.Mathlib.Omega.{arith}
use lib.Dec.{T, eqb, eqb→eq}
use Rattle.std.specs.Prelude.{Ok, Err, IfOk}
use Rattle.std.specs.declared.result.Result.{Result}
use Rattle.records.specs.declared.Refusal.{Refusal}
use Rattle.records.specs.declared.Refusal.TheVariants.{NotARecord, BadField, OrderOrInstrument, BenchmarkNumber, KnownHeight, Reading, Constants, ThreadOrder, TextTooLong, ReportRoom, SectionCount, SectionRange, HeightRoom, Broken, Stage, RunFull, StaffTurn, Sight, SightDifference, AccumulatedDifference, FaceDifference, HeightByFaces, StationCount, BenchmarkPlace, BookFull, Discrepancy, Unfinished, ClosingBenchmark, LineLength, Closure, ClosingKind, ConstantsRange, ConstantsPlace, CollimationRange, Collimation, NotCollimated, DriftWindow, RepeatedRun, LiftPlace, Profile, PrintUnit}
use Rattle.records.specs.Refusals.{refusal_number, number_of, NumbersApart, NoneIsZero}

-- all refusals
abbrev every_refusal : List Refusal
every_refusal =
    NotARecord
    ∷ BadField
    ∷ OrderOrInstrument
    ∷ BenchmarkNumber
    ∷ KnownHeight
    ∷ Reading
    ∷ Constants
    ∷ ThreadOrder
    ∷ TextTooLong
    ∷ ReportRoom
    ∷ SectionCount
    ∷ SectionRange
    ∷ HeightRoom
    ∷ Broken
    ∷ Stage
    ∷ RunFull
    ∷ StaffTurn
    ∷ Sight
    ∷ SightDifference
    ∷ AccumulatedDifference
    ∷ FaceDifference
    ∷ HeightByFaces
    ∷ StationCount
    ∷ BenchmarkPlace
    ∷ BookFull
    ∷ Discrepancy
    ∷ Unfinished
    ∷ ClosingBenchmark
    ∷ LineLength
    ∷ Closure
    ∷ ClosingKind
    ∷ ConstantsRange
    ∷ ConstantsPlace
    ∷ CollimationRange
    ∷ Collimation
    ∷ NotCollimated
    ∷ DriftWindow
    ∷ RepeatedRun
    ∷ LiftPlace
    ∷ Profile
    ∷ PrintUnit ∷ []

-- the first of them with the number n
abbrev found : ℕ → List Refusal → Refusal
found n [] = NotARecord
found n (e ∷ es) = cond (eqb (refusal_number e) n) e (found n es)

abbrev pub refusal_of : ℕ → Refusal
refusal_of n = found n every_refusal

pub read_back : (e : Refusal) → refusal_of (refusal_number e) ≡ e
read_back NotARecord = refl
read_back BadField = refl
read_back OrderOrInstrument = refl
read_back BenchmarkNumber = refl
read_back KnownHeight = refl
read_back Reading = refl
read_back Constants = refl
read_back ThreadOrder = refl
read_back TextTooLong = refl
read_back ReportRoom = refl
read_back SectionCount = refl
read_back SectionRange = refl
read_back HeightRoom = refl
read_back Broken = refl
read_back Stage = refl
read_back RunFull = refl
read_back StaffTurn = refl
read_back Sight = refl
read_back SightDifference = refl
read_back AccumulatedDifference = refl
read_back FaceDifference = refl
read_back HeightByFaces = refl
read_back StationCount = refl
read_back BenchmarkPlace = refl
read_back BookFull = refl
read_back Discrepancy = refl
read_back Unfinished = refl
read_back ClosingBenchmark = refl
read_back LineLength = refl
read_back Closure = refl
read_back ClosingKind = refl
read_back ConstantsRange = refl
read_back ConstantsPlace = refl
read_back CollimationRange = refl
read_back Collimation = refl
read_back NotCollimated = refl
read_back DriftWindow = refl
read_back RepeatedRun = refl
read_back LiftPlace = refl
read_back Profile = refl
read_back PrintUnit = refl

pub numbers_apart : NumbersApart
numbers_apart d e h = sym (read_back d) ∙ ap refusal_of h ∙ read_back e

pub not_zero : NoneIsZero
not_zero e z = let r : NotARecord ≡ e = sym (ap refusal_of z) ∙ read_back e in omega (arith, ap refusal_number r)

-- ---- an answer under a number

-- a where the number is 0
abbrev pub answered : {A : Type 0} → ℕ → A → Result A Refusal
answered n a = cond (eqb n 0) (Ok a) (Err (refusal_of n))

-- n is 0 or a refusal's number
abbrev pub is_answer : ℕ → Bool
is_answer n = eqb (cond (eqb n 0) 0 (refusal_number (refusal_of n))) n

pub number_answered : {A : Type 0} (n : ℕ) (a : A) → is_answer n ≡ true → number_of (answered n a) ≡ n
number_answered n a e = go (eqb n 0) ∙ eqb→eq (cond (eqb n 0) 0 (refusal_number (refusal_of n))) n (subst T (sym e) tt)
  where
    go : (t : Bool) → number_of (cond t (Ok a) (Err (refusal_of n))) ≡ cond t 0 (refusal_number (refusal_of n))
    go true = refl
    go false = refl

-- no other value is given
pub value_answered : {A : Type 0} (n : ℕ) (a : A) → IfOk (answered n a) (λ (x : A). x ≡ a)
value_answered {A} n a = go (eqb n 0)
  where
    go : (t : Bool) → IfOk (cond t (Ok a) (Err (refusal_of n))) (λ (x : A). x ≡ a)
    go true = refl
    go false = tt
