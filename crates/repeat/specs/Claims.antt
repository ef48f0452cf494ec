-- The judgement in the words of source document 003, 6.11.2 a to c: five cases, of which one holds and no other; and how much of a text need be read.
use Rattle.std.specs.Prelude.{◌≡◌, false, List, ℕ, ◌<◌, length, take, ℤ, pos, ◌+ℤ◌, ◌-ℤ◌, ◌*ℤ◌, ◌≤ℤ◌, ◌<ℤ◌}
use Rattle.station.specs.declared.Instrument.{Instrument}
use Rattle.adjust.specs.declared.terms.Class.{Class}
use Rattle.adjust.specs.declared.terms.Root.{Root}
use Rattle.adjust.specs.Terms.{terms_of}
use Rattle.rules.specs.declared.Run.{Run}
use Rattle.rules.specs.Rules.{counted_length}
use Rattle.repeat.specs.declared.Judgement.{Judgement}
use Rattle.repeat.specs.declared.Judgement.TheVariants.{New, Mean, Opposite}
use Rattle.repeat.specs.Repeat.{run_in, is_run, judgement, printed_of}

-- ---- what is compared

-- G of the old run, of the new one in the same direction and of the opposite one, half mm, and R of the section's first two runs, half dm
pub record Runs : Type 0 where
  pub old : ℤ
  pub new : ℤ
  pub opposite : ℤ
  pub distance : ℤ

-- a × x² and b × R, over whole numbers
abbrev pub square : Root → ℤ → ℤ
square root x = pos root.a *ℤ (x *ℤ x)

abbrev pub limit : Root → Runs → ℤ
limit root r = pos root.b *ℤ counted_length r.distance

-- the mean of the old and the new run against the opposite one: twice the discrepancy, so four times its square
abbrev pub twice_mean : Runs → ℤ
twice_mean r = (r.old +ℤ r.new) +ℤ pos 2 *ℤ r.opposite

abbrev pub NewNearOld : Root → Runs → Type 0
NewNearOld root r = square root (r.new -ℤ r.old) ≤ℤ limit root r

abbrev pub NewFarFromOld : Root → Runs → Type 0
NewFarFromOld root r = limit root r <ℤ square root (r.new -ℤ r.old)

abbrev pub NewNearOpposite : Root → Runs → Type 0
NewNearOpposite root r = square root (r.new +ℤ r.opposite) ≤ℤ limit root r

abbrev pub NewFarFromOpposite : Root → Runs → Type 0
NewFarFromOpposite root r = limit root r <ℤ square root (r.new +ℤ r.opposite)

abbrev pub MeanNearOpposite : Root → Runs → Type 0
MeanNearOpposite root r = square root (twice_mean r) ≤ℤ (pos 4 *ℤ limit root r)

abbrev pub MeanFarFromOpposite : Root → Runs → Type 0
MeanFarFromOpposite root r = (pos 4 *ℤ limit root r) <ℤ square root (twice_mean r)

-- ---- the five cases

pub data Case : Type 0 where
  -- a: the new run is beyond the limit against the old one and within it against the opposite one
  new_alone : Case
  -- b: the new run is within it against the old one, and so is their mean against the opposite one
  mean_good : Case
  -- b: their mean is beyond it there, and the new run within
  mean_bad : Case
  -- c: the new run is beyond it against both
  both_bad : Case
  -- c: it is within against the old one, and beyond against the opposite one, as their mean is
  all_bad : Case

abbrev pub Holds : Root → Runs → Case → Type 0
Holds root r new_alone = NewFarFromOld root r × NewNearOpposite root r
Holds root r mean_good = NewNearOld root r × MeanNearOpposite root r
Holds root r mean_bad = NewNearOld root r × (MeanFarFromOpposite root r × NewNearOpposite root r)
Holds root r both_bad = NewFarFromOld root r × NewFarFromOpposite root r
Holds root r all_bad = NewNearOld root r × (MeanFarFromOpposite root r × NewFarFromOpposite root r)

-- what is done in each
abbrev pub outcome : Case → Judgement
outcome new_alone = New
outcome mean_good = Mean
outcome mean_bad = New
outcome both_bad = Opposite
outcome all_bad = Opposite

-- one of the cases holds and no other, and j is what is done in it
pub record OneCase (root : Root) (r : Runs) (j : Judgement) : Type 0 where
  pub kind : Case
  pub holds : Holds root r kind
  pub alone : (c : Case) → Holds root r c → c ≡ kind
  pub done : j ≡ outcome kind

-- of two texts
abbrev pub runs_of : Class → Instrument → List ℕ → List ℕ → ℤ → ℤ → Runs
runs_of k i first second g s =
    let old : Run = run_in k i first in record { old = old.height; new = (run_in k i second).height; opposite = g; distance = old.sights +ℤ s }

abbrev pub EveryJudgement : Type 0
EveryJudgement =
    (k : Class) (i : Instrument) (first second : List ℕ) (g s : ℤ)
    → OneCase (terms_of k).apart (runs_of k i first second g s) (judgement k i first second g s)

-- ---- how much of a text is read

-- a text of more than 200 lines is no run
abbrev pub LongRefused : Type 0
LongRefused = (k : Class) (i : Instrument) (text : List ℕ) → 16800 < length text → is_run k i text ≡ false

-- so that a part of each text that has more lines gets the answer of the whole
abbrev pub ReadEnough : Type 0
ReadEnough =
    (first second : List ℕ) (n m : ℕ) (order instrument g s : ℤ) → 16800 < n → 16800 < m
    → printed_of (take n first) (take m second) order instrument g s ≡ printed_of first second order instrument g s
