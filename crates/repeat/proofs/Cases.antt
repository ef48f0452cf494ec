-- One of the five cases holds and no other, and the judgement is what is done in it.
use mathlib.Core.Path.{◌≡◌, refl, sym, subst}
use mathlib.Core.Bool.{Bool, true, false, cond}
use Prim.Native.Nat.{◌*◌}
use lib.IntN.{ℤ, pos, ◌+ℤ◌, ◌-ℤ◌, ◌*ℤ◌}
use lib.Signed.{◌≤ℤ◌, ◌<ℤ◌}
use Rattle.numbers.proofs.Ring.{ringℤ}
use Rattle.roots.proofs.LimitLaws.{within_le, beyond_lt, le_within, lt_beyond}
use Rattle.adjust.specs.declared.terms.Root.{Root}
use Rattle.adjust.specs.Terms.{terms_of}
use Rattle.rules.specs.Rules.{counted_length}
use Rattle.repeat.specs.Repeat.{near, doubled, chosen, judgement}
use Rattle.repeat.specs.Claims.{Runs, square, limit, twice_mean, Case, new_alone, mean_good, mean_bad, both_bad, all_bad, Holds, outcome, OneCase, runs_of, EveryJudgement}

-- the case by three tests: the new run against the old one, the mean and the new run against the opposite one
abbrev case_by : Bool → Bool → Bool → Case
case_by a b c = cond a (cond b mean_good (cond c mean_bad all_bad)) (cond c new_alone both_bad)

outcome_by : (a b c : Bool) → outcome (case_by a b c) ≡ chosen a b c
outcome_by true true c = refl
outcome_by true false true = refl
outcome_by true false false = refl
outcome_by false b true = refl
outcome_by false b false = refl

module _ (root : Root) (r : Runs) where
  abbrev against_old : ℤ
  against_old = r.new -ℤ r.old

  abbrev against_opposite : ℤ
  against_opposite = r.new +ℤ r.opposite

  abbrev length : ℤ
  length = counted_length r.distance

  abbrev new_old : Bool
  new_old = near root r.distance against_old

  abbrev mean_opposite : Bool
  mean_opposite = near (doubled root) r.distance (twice_mean r)

  abbrev new_opposite : Bool
  new_opposite = near root r.distance against_opposite

  four : (b l : ℤ) → (pos 4 *ℤ b) *ℤ l ≡ pos 4 *ℤ (b *ℤ l)
  four b l = simp ringℤ

  -- four times the limit, as the doubled root has it
  limit_4 : pos (4 * root.b) *ℤ length ≡ pos 4 *ℤ limit root r
  limit_4 = four (pos root.b) length

  holds_by : (a b c : Bool) → new_old ≡ a → mean_opposite ≡ b → new_opposite ≡ c → Holds root r (case_by a b c)
  holds_by true true c e f g =
      (within_le root.a against_old root.b length e, subst (λ (z : ℤ). square root (twice_mean r) ≤ℤ z) limit_4 (within_le root.a (twice_mean r) (4 * root.b) length f))
  holds_by true false true e f g = (
    within_le root.a against_old root.b length e,
    (subst (λ (z : ℤ). z <ℤ square root (twice_mean r)) limit_4 (beyond_lt root.a (twice_mean r) (4 * root.b) length f), within_le root.a against_opposite root.b length g),
  )
  holds_by true false false e f g = (
    within_le root.a against_old root.b length e,
    (subst (λ (z : ℤ). z <ℤ square root (twice_mean r)) limit_4 (beyond_lt root.a (twice_mean r) (4 * root.b) length f), beyond_lt root.a against_opposite root.b length g),
  )
  holds_by false b true e f g = (beyond_lt root.a against_old root.b length e, within_le root.a against_opposite root.b length g)
  holds_by false b false e f g = (beyond_lt root.a against_old root.b length e, beyond_lt root.a against_opposite root.b length g)

  mean_near : square root (twice_mean r) ≤ℤ (pos 4 *ℤ limit root r) → mean_opposite ≡ true
  mean_near h = le_within root.a (twice_mean r) (4 * root.b) length (subst (λ (z : ℤ). square root (twice_mean r) ≤ℤ z) (sym limit_4) h)

  mean_far : (pos 4 *ℤ limit root r) <ℤ square root (twice_mean r) → mean_opposite ≡ false
  mean_far h = lt_beyond root.a (twice_mean r) (4 * root.b) length (subst (λ (z : ℤ). z <ℤ square root (twice_mean r)) (sym limit_4) h)

  -- a case that holds is the one by the tests
  told : (c : Case) → Holds root r c → case_by new_old mean_opposite new_opposite ≡ c
  told new_alone h = λ j. case_by (lt_beyond root.a against_old root.b length h.0 j) mean_opposite (le_within root.a against_opposite root.b length h.1 j)
  told mean_good h = λ j. case_by (le_within root.a against_old root.b length h.0 j) (mean_near h.1 j) new_opposite
  told mean_bad h = λ j. case_by (le_within root.a against_old root.b length h.0 j) (mean_far h.1.0 j) (le_within root.a against_opposite root.b length h.1.1 j)
  told both_bad h = λ j. case_by (lt_beyond root.a against_old root.b length h.0 j) mean_opposite (lt_beyond root.a against_opposite root.b length h.1 j)
  told all_bad h = λ j. case_by (le_within root.a against_old root.b length h.0 j) (mean_far h.1.0 j) (lt_beyond root.a against_opposite root.b length h.1.1 j)

  one_case : OneCase root r (chosen new_old mean_opposite new_opposite)
  one_case =
      record {
        kind = case_by new_old mean_opposite new_opposite;
        holds = holds_by new_old mean_opposite new_opposite refl refl refl;
        alone = λ c h. sym (told c h);
        done = sym (outcome_by new_old mean_opposite new_opposite);
      }

pub every_judgement : EveryJudgement
unfolding judgement
every_judgement k i first second g s = one_case (terms_of k).apart (runs_of k i first second g s)
