-- Warnings on both sides of each limit, computed by the rules.
use Rattle.std.specs.Prelude.{◌≡◌, refl, Bool, true, false, List, [], ◌∷◌, map, replicate, ℕ, ℤ, pos, neg_ℤ}
use Rattle.roots.specs.Round.{round_even}
use Rattle.roots.specs.Limit.{is_within}
use Rattle.station.specs.declared.Staffs.{Staffs}
use Rattle.station.specs.declared.Staffs.TheVariants.{Nominal, Measured}
use Rattle.adjust.specs.declared.Section.{Section}
use Rattle.adjust.specs.declared.terms.Class.{Class}
use Rattle.adjust.specs.declared.terms.Class.TheVariants.{Third, Fourth, Spur}
use Rattle.adjust.specs.declared.Opening.{Opening}
use Rattle.adjust.specs.Terms.{terms_by}
use Rattle.rules.specs.LineState.{LineState, line_broken}
use Rattle.adjust.specs.Kept.{sums_of}
use Rattle.rules.specs.Rules.{opening_of, touched, begun, with_sums}
use Rattle.ledger.specs.Plain.{fresh_reading, plain_state}
use Rattle.warnings.specs.Drift.{fifth, is_large, firsts, drift_refusal}

abbrev section : ℕ → ℤ → Section
section r d = record { number = pos 0; height = pos 0; distance = pos r; discrepancy = d }

abbrev opened : Class → Opening
opened k = touched (opening_of k (pos 3) (pos 1) (pos 10000) (pos 1))

-- an open line, on which calls were taken, of sections with these D, each 2 km long
abbrev line : Opening → List ℤ → LineState
line o ds = let ss : List Section = map (section 40000) ds in record { line = with_sums (begun o) (sums_of o ss); sections = ss }

abbrev large : Staffs → Class → ℕ → ℤ → Bool
large c k r d = is_large (terms_by c k).apart (section r d)

-- D by a fifth of its limit: of 2 km 6.8 half mm at third order and 11.3 on a spur
abbrev three : List ℤ
three = pos 7 ∷ pos 7 ∷ pos 7 ∷ []

pub record DriftWorked : Type 0 where
  -- the coefficients of document 02
  pub line_root : fifth (terms_by Nominal Third).apart ≡ record { a = 15625; b = 18 }
  pub spur_root : fifth (terms_by Nominal Spur).apart ≡ record { a = 625; b = 2 }
  pub measured_root : fifth (terms_by (Measured 46870 47870) Third).apart ≡ record { a = 15625; b = 1800 }
  -- the limit is no excess of it: R 20,000 has 8 on a spur, by measured constants 48 tenths at third order
  pub spur_8 : large Nominal Spur 20000 (pos 8) ≡ false
  pub spur_9 : large Nominal Spur 20000 (pos 9) ≡ true
  pub below_9 : large Nominal Spur 20000 (neg_ℤ (pos 9)) ≡ true
  pub tenths_48 : large (Measured 46870 47870) Third 20000 (pos 48) ≡ false
  pub tenths_49 : large (Measured 46870 47870) Third 20000 (pos 49) ≡ true
  pub line_4 : large Nominal Third 20000 (pos 4) ≡ false
  pub line_5 : large Nominal Third 20000 (pos 5) ≡ true
  -- R below 2,000 as 2,000: D 1 is within, D 2 is not
  pub short : map (λ r. large Nominal Third r (pos 1)) (16 ∷ 1999 ∷ 2000 ∷ []) ≡ false ∷ false ∷ false ∷ []
  pub short_large : map (λ r. large Nominal Third r (pos 2)) (16 ∷ 1999 ∷ 2000 ∷ []) ≡ true ∷ true ∷ true ∷ []
  -- windows
  pub none : firsts (line (opened Third) (pos 7 ∷ pos 7 ∷ [])) (pos 3) ≡ []
  pub one : firsts (line (opened Third) three) (pos 3) ≡ 1 ∷ []
  pub overlapping : firsts (line (opened Third) (pos 7 ∷ three)) (pos 3) ≡ 1 ∷ 2 ∷ []
  pub signs : firsts (line (opened Third) (pos 7 ∷ neg_ℤ (pos 7) ∷ neg_ℤ (pos 7) ∷ neg_ℤ (pos 7) ∷ three)) (pos 3) ≡ 2 ∷ 5 ∷ []
  pub zero : firsts (line (opened Third) (pos 7 ∷ pos 7 ∷ pos 0 ∷ three)) (pos 3) ≡ 4 ∷ []
  pub small : firsts (line (opened Third) (pos 7 ∷ pos 6 ∷ three)) (pos 3) ≡ 3 ∷ []
  pub ten : firsts (line (opened Third) (replicate 11 (pos 7))) (pos 10) ≡ 1 ∷ 2 ∷ []
  pub nine : firsts (line (opened Third) (replicate 9 (pos 7))) (pos 10) ≡ []
  pub most : firsts (line (opened Third) (replicate 5 (neg_ℤ (pos 7)))) (pos 3) ≡ 1 ∷ 2 ∷ 3 ∷ []
  -- refusals
  pub window : map (drift_refusal (line (opened Third) three)) (pos 2 ∷ pos 3 ∷ pos 10 ∷ pos 11 ∷ neg_ℤ (pos 3) ∷ []) ≡ 51 ∷ 0 ∷ 0 ∷ 51 ∷ 51 ∷ []
  pub classes : map (λ k. drift_refusal (line (opened k) []) (pos 3)) (Third ∷ Fourth ∷ Spur ∷ []) ≡ 0 ∷ 51 ∷ 0 ∷ []
  pub fresh : map (drift_refusal (plain_state fresh_reading)) (pos 2 ∷ pos 3 ∷ []) ≡ 51 ∷ 0 ∷ []
  pub fresh_none : firsts (plain_state fresh_reading) (pos 3) ≡ []

pub drift_worked : DriftWorked
unfolding round_even is_within line_broken
drift_worked =
    record {
      line_root = refl;
      spur_root = refl;
      measured_root = refl;
      spur_8 = refl;
      spur_9 = refl;
      below_9 = refl;
      tenths_48 = refl;
      tenths_49 = refl;
      line_4 = refl;
      line_5 = refl;
      short = refl;
      short_large = refl;
      none = refl;
      one = refl;
      overlapping = refl;
      signs = refl;
      zero = refl;
      small = refl;
      ten = refl;
      nine = refl;
      most = refl;
      window = refl;
      classes = refl;
      fresh = refl;
      fresh_none = refl;
    }
