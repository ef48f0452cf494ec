-- Warnings of drift: where the D of several sections in a row keep one sign and exceed a fifth of the limit (document 02, W-208).
use Rattle.std.specs.Prelude.{◌≡◌, Bool, not, cond, ◌&&◌, ◌||◌, List, [], ◌∷◌, ◌++◌, ℕ, suc, ◌*◌, take, length, leb, ℤ, pos, nat_abs, IfOk}
use Rattle.std.specs.declared.result.Result.{Result}
use Rattle.std.specs.List.{list_all}
use Rattle.std.specs.Int.Signed.{lt_z}
use Rattle.numbers.specs.Numbers.{between, filled}
use Rattle.numbers.specs.Tables.{first_of}
use Rattle.records.specs.declared.Refusal.{Refusal}
use Rattle.records.specs.Refusals.{number_of}
use Rattle.adjust.specs.declared.Section.{Section}
use Rattle.adjust.specs.declared.terms.Root.{Root}
use Rattle.adjust.specs.Terms.{terms_of, terms_by}
use Rattle.rules.specs.LineState.{LineState, is_fresh}
use Rattle.rules.specs.Rules.{discrepancy_within, all_broken, broken_in}
use Rattle.warnings.specs.declared.Drift.{Drift}

-- ---- a window of sections

-- a fifth of a root limit: 25 times the left side, so that the limit of D, 625 × D² ≤ 18 × R, becomes 15,625 × D² ≤ 18 × R, and a spur's, 25 × D² ≤ 2 × R, becomes 625 × D² ≤ 2 × R
abbrev pub fifth : Root → Root
fifth r = record { a = 25 * r.a; b = r.b }

-- D exceeds a fifth of its limit, R below 2,000 as 2,000
abbrev pub is_large : Root → Section → Bool
is_large apart x = not (discrepancy_within (fifth apart) x)

abbrev pub is_above : Section → Bool
is_above x = lt_z (pos 0) x.discrepancy

abbrev pub is_below : Section → Bool
is_below x = lt_z x.discrepancy (pos 0)

-- all D have one sign and exceed a fifth of the limit
abbrev pub drifts : Root → List Section → Bool
drifts apart xs = list_all (is_large apart) xs && (list_all is_above xs || list_all is_below xs)

-- ---- the windows of a line

-- such a window of w sections begins with the first of these
abbrev pub begins : Root → ℕ → List Section → Bool
begins apart w xs = leb w (length xs) && drifts apart (take w xs)

-- the first sections of all such windows, in line order, where the first of these has the number k
abbrev pub firsts_from : Root → ℕ → ℕ → List Section → List ℕ
firsts_from apart w k [] = []
firsts_from apart w k (x ∷ xs) = cond (begins apart w (x ∷ xs)) (k ∷ []) [] ++ firsts_from apart w (suc k) xs

-- of a line, counted from 1. By measured constants D is ten times as large, and the right side of its limit is multiplied by 100 (`terms_by`)
abbrev pub firsts : LineState → ℤ → List ℕ
firsts v w = firsts_from (terms_by v.line.opening.staffs v.line.opening.class).apart (nat_abs w) 1 v.sections

-- ---- the tests

abbrev pub window_out : ℤ → Bool
window_out w = not (between (pos 3) w (pos 10))

-- a line, open or closed, whose sections are levelled one way
abbrev pub levelled_one_way : LineState → Bool
levelled_one_way v = not (is_fresh v.line.stage) && not (terms_of v.line.opening.class).double

-- of a line
abbrev pub warning_tests : LineState → ℤ → List (ℕ × Bool)
warning_tests v w = (51, window_out w) ∷ (51, levelled_one_way v) ∷ []

-- of a book that is handed in, which is also tested for 20: behind what the input alone causes, and before what the line does
abbrev pub drift_tests : LineState → ℤ → List (ℕ × Bool)
drift_tests v w = (51, window_out w) ∷ (20, broken_in (all_broken v) v) ∷ (51, levelled_one_way v) ∷ []

abbrev pub drift_refusal : LineState → ℤ → ℕ
drift_refusal v w = first_of (drift_tests v w)

-- ---- what is answered

-- the numbers in an array, and zeros behind them: a line of 64 sections has 62 windows of 3
abbrev pub drift_of : List ℕ → Drift
drift_of ks = record { count = length ks; firsts = filled 0 62 ks }

-- r is what is answered of a book: the refusal, or the numbers
pub record Warns (v : LineState) (w : ℤ) (r : Result Drift Refusal) : Type 0 where
  pub number : number_of r ≡ drift_refusal v w
  pub firsts : IfOk r (λ d. d ≡ drift_of (firsts v w))
