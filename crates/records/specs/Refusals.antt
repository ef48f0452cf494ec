-- The refusals and their numbers (documents 01 and 02), and the number of an answer.
use Rattle.std.specs.Prelude.{◌≡◌, ℕ, Ok, Err}
use Rattle.std.specs.declared.result.Result.{Result}
use Rattle.records.specs.declared.Refusal.{Refusal}
use Rattle.records.specs.declared.Refusal.TheVariants.{NotARecord, BadField, OrderOrInstrument, BenchmarkNumber, KnownHeight, Reading, Constants, ThreadOrder, TextTooLong, ReportRoom, SectionCount, SectionRange, HeightRoom, Broken, Stage, RunFull, StaffTurn, Sight, SightDifference, AccumulatedDifference, FaceDifference, HeightByFaces, StationCount, BenchmarkPlace, BookFull, Discrepancy, Unfinished, ClosingBenchmark, LineLength, Closure, ClosingKind, ConstantsRange, ConstantsPlace, CollimationRange, Collimation, NotCollimated, DriftWindow, RepeatedRun, LiftPlace, Profile, PrintUnit}

abbrev pub refusal_number : Refusal → ℕ
refusal_number NotARecord = 1
refusal_number BadField = 2
refusal_number OrderOrInstrument = 3
refusal_number BenchmarkNumber = 4
refusal_number KnownHeight = 5
refusal_number Reading = 6
refusal_number Constants = 7
refusal_number ThreadOrder = 8
refusal_number TextTooLong = 9
refusal_number ReportRoom = 10
refusal_number SectionCount = 11
refusal_number SectionRange = 12
refusal_number HeightRoom = 13
refusal_number Broken = 20
refusal_number Stage = 21
refusal_number RunFull = 22
refusal_number StaffTurn = 23
refusal_number Sight = 24
refusal_number SightDifference = 25
refusal_number AccumulatedDifference = 26
refusal_number FaceDifference = 27
refusal_number HeightByFaces = 28
refusal_number StationCount = 29
refusal_number BenchmarkPlace = 30
refusal_number BookFull = 31
refusal_number Discrepancy = 32
refusal_number Unfinished = 33
refusal_number ClosingBenchmark = 34
refusal_number LineLength = 35
refusal_number Closure = 36
refusal_number ClosingKind = 41
refusal_number ConstantsRange = 42
refusal_number ConstantsPlace = 43
refusal_number CollimationRange = 44
refusal_number Collimation = 45
refusal_number NotCollimated = 46
refusal_number DriftWindow = 51
refusal_number RepeatedRun = 52
refusal_number LiftPlace = 53
refusal_number Profile = 56
refusal_number PrintUnit = 57

-- no two refusals have one number
abbrev pub NumbersApart : Type 0
NumbersApart = (d e : Refusal) → refusal_number d ≡ refusal_number e → d ≡ e

-- no refusal has the number of a call that is taken
abbrev pub NoneIsZero : Type 0
NoneIsZero = (e : Refusal) → refusal_number e ≡ 0 → ⊥

-- the number of an answer, 0 for a call that is taken
abbrev pub number_of : {A : Type 0} → Result A Refusal → ℕ
number_of (Ok a) = 0
number_of (Err e) = refusal_number e
