-- What is answered, by the tests in their order: the window's 51, 20, the line's 51, or the numbers; and of a text.
use mathlib.Core.Path.{◌≡◌, refl, sym, ap, ◌∙◌}
use mathlib.Core.Bool.{Bool, true, false, cond}
use Prim.Native.Nat.{ℕ, ◌≤◌}
use native.Mathlib.Omega.{arith}
use lib.IntN.{ℤ, pos, nat_abs}
use lib.Signed.{◌≤ℤ◌, le_z}
use mir.Syntax.{w64}
use mir.Val.{SFits}
use Rattle.std.specs.Prelude.{Ok, Err}
use Rattle.numbers.specs.Numbers.{between}
use Rattle.numbers.proofs.Tests.{by_test, and_l, not-false}
use Rattle.numbers.proofs.Parts.{ints, parts_abs, test_le}
use Rattle.numbers.proofs.Machine.{stored, stored_id}
use Rattle.records.specs.declared.Refusal.{Refusal}
use Rattle.records.specs.declared.Refusal.TheVariants.{DriftWindow}
use Rattle.records.specs.Refusals.{refusal_number}
use Rattle.records.proofs.Numbered.{not_zero}
use Rattle.rules.specs.LineState.{LineState}
use Rattle.rules.specs.Rules.{all_broken, broken_in}
use Rattle.warnings.specs.declared.Drift.{Drift}
use Rattle.warnings.specs.Drift.{window_out, levelled_one_way, firsts, drift_refusal, drift_of, Warns}

-- the window as it is read back
pub window_read : (w : ℤ) {t : Bool} → SFits w64 w → t ≡ window_out (stored w) → t ≡ window_out w
window_read w f e = e ∙ ap window_out (stored_id f)

pub least_window : (w : ℤ) → window_out w ≡ false → 3 ≤ nat_abs w
least_window w e =
    let low : pos 3 ≤ℤ w = test_le (and_l (le_z (pos 3) w) (le_z w (pos 10)) (not-false (between (pos 3) w (pos 10)) e)) in
    omega (ints, low, parts_abs w)

module _ (v : LineState) (w : ℤ) where
  pub window_warned : window_out w ≡ true → Warns v w (Err DriftWindow)
  window_warned e = record { number = λ i. cond (sym e i) 51 (cond (broken_in (all_broken v) v) 20 (cond (levelled_one_way v) 51 0)); firsts = tt }

  pub broken_warned : (x : Refusal) → window_out w ≡ false → refusal_number x ≡ cond (broken_in (all_broken v) v) 20 0 → Warns v w (Err x)
  broken_warned x e h =
      record {
        number =
            by_test (broken_in (all_broken v) v) (λ b. refusal_number x ≡ cond b 20 0 → refusal_number x ≡ cond b 20 (cond (levelled_one_way v) 51 0)) (λ b k. k) (λ b k. absurd (not_zero x k)) h
            ∙ (λ i. cond (sym e i) 51 (cond (broken_in (all_broken v) v) 20 (cond (levelled_one_way v) 51 0)));
        firsts = tt;
      }

  module _ (e : window_out w ≡ false) (h : ◌≡◌ {A = ℕ} 0 (cond (broken_in (all_broken v) v) 20 0)) where
    passed : drift_refusal v w ≡ cond (levelled_one_way v) 51 0
    passed =
        (λ i. cond (e i) 51 (cond (broken_in (all_broken v) v) 20 (cond (levelled_one_way v) 51 0)))
        ∙ by_test (broken_in (all_broken v) v) (λ b. ◌≡◌ {A = ℕ} 0 (cond b 20 0) → ◌≡◌ {A = ℕ} (cond b 20 (cond (levelled_one_way v) 51 0)) (cond (levelled_one_way v) 51 0)) (λ b k. absurd (omega (arith, k))) (λ b k. refl) h

    pub line_warned : levelled_one_way v ≡ true → Warns v w (Err DriftWindow)
    line_warned l = record { number = sym (passed ∙ (λ i. cond (l i) 51 0)); firsts = tt }

    pub warned : levelled_one_way v ≡ false → {d : Drift} → d ≡ drift_of (firsts v w) → Warns v w (Ok d)
    warned l p = record { number = sym (passed ∙ (λ i. cond (l i) 51 0)); firsts = p }
