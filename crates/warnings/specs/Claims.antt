-- What is claimed of warnings of drift (document 02, W-208): which numbers are listed, and in what order; and what is answered of every book that calls made from a fresh one.
use Rattle.std.specs.Prelude.{◌≡◌, Bool, true, List, [], ◌∷◌, ◌&&◌, ℕ, suc, ◌<◌, drop, eqb, ltb, ℤ, IfOk}
use Rattle.std.specs.declared.result.Result.{Result}
use Rattle.numbers.specs.Numbers.{any_of}
use Rattle.numbers.specs.Tables.{first_of}
use Rattle.records.specs.declared.Refusal.{Refusal}
use Rattle.records.specs.Refusals.{number_of}
use Rattle.adjust.specs.declared.Section.{Section}
use Rattle.adjust.specs.Line.{Closing}
use Rattle.adjust.specs.declared.terms.Root.{Root}
use Rattle.rules.specs.declared.Book.{Book}
use Rattle.rules.specs.declared.call.Call.{Call}
use Rattle.rules.specs.LineState.{LineState, state_of}
use Rattle.ledger.specs.Plain.{fresh_reading, after, plain_state}
use Rattle.ledger.specs.Trace.{FreshEnsures, Trace}
use Rattle.warnings.specs.declared.Drift.{Drift}
use Rattle.warnings.specs.Drift.{begins, firsts_from, firsts, warning_tests, drift_of, Warns}

-- ---- the numbers

-- a section is listed exactly where a window begins with it; sections are counted from 1, and suc j is behind j others
abbrev pub EveryWindow : Type 0
EveryWindow = (apart : Root) (w : ℕ) (ss : List Section) (j : ℕ) → 0 < w → any_of (eqb (suc j)) (firsts_from apart w 1 ss) ≡ begins apart w (drop j ss)

-- each number is above the one before it
abbrev pub rising : ℕ → List ℕ → Bool
rising m [] = true
rising m (k ∷ ks) = ltb m k && rising k ks

-- so they are in line order, none twice, and none is 0
abbrev pub InLineOrder : Type 0
InLineOrder = (apart : Root) (w : ℕ) (ss : List Section) → rising 0 (firsts_from apart w 1 ss) ≡ true

-- ---- books made by calls

-- what is answered of the standing list; 20 is not among the tests
pub record WarnsOf (v : LineState) (w : ℤ) (r : Result Drift Refusal) : Type 0 where
  pub number : number_of r ≡ first_of (warning_tests v w)
  pub firsts : IfOk r (λ d. d ≡ drift_of (firsts v w))

-- of every book that calls made, refused ones among them
abbrev pub EveryWarning : Type 0
EveryWarning =
    (b e : Book) (calls : List Call) (ns : List ℕ) (gs : List Closing) → FreshEnsures b → Trace b calls ns gs e
    → (w : ℤ) (r : Result Drift Refusal) → Warns (state_of e) w r → WarnsOf (plain_state (after fresh_reading calls)) w r
