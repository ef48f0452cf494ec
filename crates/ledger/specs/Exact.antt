-- What T and the verdict on it are worth, since T sums rounded terms (document 02, W-212): how far T is from the exact sum of the fractions, and when the verdict is that of the
-- exact sum. Over whole numbers: a sum of fractions is a numerator over the product of all divisors. Of every line levelled out and back, and of every net of third-order lines.
use Rattle.std.specs.Prelude.{◌≡◌, refl, true, false, not, cond, ◌||◌, List, [], ◌∷◌, ◌++◌, map, replicate, ℕ, ◌+◌, ◌*◌, ◌<◌, ◌≤◌, leb, ltb, length, ℤ, pos, nat_abs, ◌+ℤ◌, ◌-ℤ◌, ◌*ℤ◌}
use Rattle.std.specs.Int.Signed.{le_z}
use Rattle.numbers.specs.Numbers.{sum}
use Rattle.roots.specs.Round.{round_even}
use Rattle.adjust.specs.declared.Section.{Section}
use Rattle.adjust.specs.declared.Summary.{Summary}
use Rattle.adjust.specs.declared.Verdict.{Verdict}
use Rattle.adjust.specs.declared.Verdict.TheVariants.{NotGiven, Within, Above}
use Rattle.adjust.specs.declared.terms.Class.TheVariants.{Third}
use Rattle.adjust.specs.declared.terms.Terms.{Terms}
use Rattle.adjust.specs.Terms.{terms_of, squared_of}
use Rattle.adjust.specs.Line.{accidental, verdict}
use Rattle.rules.specs.declared.call.Call.{Call}
use Rattle.ledger.specs.Plain.{Reading, fresh_reading, after, plain_state, figures_of}

-- ---- exact sums

pub record Fraction : Type 0 where
  pub top : ℤ
  pub bottom : ℕ

-- the exact sum of the fractions is top_of / bottom_of
abbrev pub bottom_of : List Fraction → ℕ
bottom_of [] = 1
bottom_of (x ∷ xs) = x.bottom * bottom_of xs

abbrev pub top_of : List Fraction → ℤ
top_of [] = pos 0
top_of (x ∷ xs) = x.top *ℤ pos (bottom_of xs) +ℤ pos x.bottom *ℤ top_of xs

-- t before it is rounded: 500,000 × D² / R, with measured constants 500,000 × D² / (100 × R)
abbrev pub fraction : ℕ → Section → Fraction
fraction squared x = record { top = pos 500000 *ℤ (x.discrepancy *ℤ x.discrepancy); bottom = squared * nat_abs x.distance }

-- ---- what is claimed of T

-- T is as far as n half units from the exact sum, and no further. That there is a common divisor to speak of makes this bind
abbrev pub NearExact : List Fraction → ℤ → Type 0
NearExact xs t = 2 * nat_abs (pos (bottom_of xs) *ℤ t -ℤ top_of xs) ≤ length xs * bottom_of xs

-- the limit of T: so much a section
abbrev pub limit_of : Terms → ℕ → ℤ
limit_of terms n = terms.accidental *ℤ pos n

-- T is further than n / 2 from its limit
abbrev pub FarFromLimit : Terms → ℕ → ℤ → Type 0
FarFromLimit terms n t = n < 2 * nat_abs (t -ℤ limit_of terms n)

-- the verdict on the exact sum, which `verdict` says of T: none below 20 sections
abbrev pub exact_verdict : Terms → List Fraction → Verdict
exact_verdict terms xs =
    cond (not terms.double || ltb (length xs) 20) NotGiven (cond (le_z (top_of xs) (limit_of terms (length xs) *ℤ pos (bottom_of xs))) Within Above)

-- of n sections with these fractions, their T and what was said of it
pub record TrueVerdict (terms : Terms) (xs : List Fraction) (n : ℕ) (t : ℤ) (said : Verdict) : Type 0 where
  pub sections : n ≡ length xs
  pub divisor : 1 ≤ bottom_of xs
  pub near : NearExact xs t
  pub verdict : FarFromLimit terms n t → said ≡ exact_verdict terms xs

-- ---- lines and spurs

abbrev pub fractions : Reading → List Fraction
fractions r = map (fraction (squared_of r.opening.staffs)) (plain_state r).sections

-- whatever the calls: of the line that they leave, n, T and the verdict that closing it gives
abbrev pub EveryVerdict : Type 0
EveryVerdict =
    (calls : List Call)
    → let r : Reading = after fresh_reading calls in
    let s : Summary = (figures_of r).summary in
    (terms_of r.opening.class).double ≡ true → TrueVerdict (terms_of r.opening.class) (fractions r) s.count s.accidental s.verdict

-- ---- nets

-- each list of calls leaves a line of third order
abbrev pub AllThird : List (List Call) → Type 0
AllThird [] = Unit {0}
AllThird (calls ∷ lists) = ((after fresh_reading calls).opening.class ≡ Third) × AllThird lists

abbrev pub pooled_fractions : List (List Call) → List Fraction
pooled_fractions [] = []
pooled_fractions (calls ∷ lists) = fractions (after fresh_reading calls) ++ pooled_fractions lists

-- n and T of all lines together
abbrev pub pooled_count : List (List Call) → ℕ
pooled_count [] = 0
pooled_count (calls ∷ lists) = (figures_of (after fresh_reading calls)).summary.count + pooled_count lists

abbrev pub pooled_t : List (List Call) → ℤ
pooled_t [] = pos 0
pooled_t (calls ∷ lists) = (figures_of (after fresh_reading calls)).summary.accidental +ℤ pooled_t lists

-- whatever the lists of calls, one a line, and however many: the verdict on their pooled n and T
abbrev pub EveryNetVerdict : Type 0
EveryNetVerdict =
    (lists : List (List Call)) → AllThird lists
    → TrueVerdict (terms_of Third) (pooled_fractions lists) (pooled_count lists) (pooled_t lists) (verdict (terms_of Third) (pooled_count lists) (pooled_t lists))

-- ---- a half is no slack: numbers at which a quarter would be false

abbrev apart : ℕ → ℕ → Section
apart d r = record { number = pos 0; height = pos 0; distance = pos r; discrepancy = pos d }

-- t is 12.5, and is rounded to 12
abbrev tie : List Section
tie = apart 1 40000 ∷ []

-- twenty sections whose t is a little above a half, 14 of 3600.5 and 6 of 3598.5. T is 72,008, the exact sum is below the limit of 72,000
abbrev twenty : List Section
twenty = replicate 14 (apart 23 73462) ++ replicate 6 (apart 13 23482)

abbrev t_of : List Section → ℤ
t_of ss = sum (map (accidental 1) ss)

abbrev exact : List Section → List Fraction
exact ss = map (fraction 1) ss

pub record NoSlack : Type 0 where
  pub tie_t : t_of tie ≡ pos 12
  -- n halves away, so not within n quarters
  pub tie_half : 2 * nat_abs (pos (bottom_of (exact tie)) *ℤ t_of tie -ℤ top_of (exact tie)) ≡ length tie * bottom_of (exact tie)
  pub tie_quarter : leb (4 * nat_abs (pos (bottom_of (exact tie)) *ℤ t_of tie -ℤ top_of (exact tie))) (length tie * bottom_of (exact tie)) ≡ false
  pub twenty_t : t_of twenty ≡ pos 72008
  -- further than n / 4 from the limit, not further than n / 2, and the two verdicts differ
  pub twenty_quarter : ltb (length twenty) (4 * nat_abs (t_of twenty -ℤ limit_of (terms_of Third) (length twenty))) ≡ true
  pub twenty_half : ltb (length twenty) (2 * nat_abs (t_of twenty -ℤ limit_of (terms_of Third) (length twenty))) ≡ false
  pub twenty_said : verdict (terms_of Third) (length twenty) (t_of twenty) ≡ Above
  pub twenty_true : exact_verdict (terms_of Third) (exact twenty) ≡ Within

pub no_slack : NoSlack
unfolding round_even
no_slack =
    record {
      tie_t = refl;
      tie_half = refl;
      tie_quarter = refl;
      twenty_t = refl;
      twenty_quarter = refl;
      twenty_half = refl;
      twenty_said = refl;
      twenty_true = refl;
    }
