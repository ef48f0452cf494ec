-- What the tests of a profile leave to know: which of 0, 20 and 56 is given, and that the sections of a book that is not refused are small.
use mathlib.Core.Path.{◌≡◌, refl, sym, ap, ◌∙◌}
use mathlib.Core.Bool.{Bool, true, false, not, cond, ◌||◌}
use mathlib.Core.List.{List, ◌∷◌, map}
use Prim.Native.Nat.{ℕ, ◌+◌, ◌*◌, ◌/◌, ◌≤◌, ◌<◌}
use native.Mathlib.Omega.{arith}
use borrow.Author.Tests.{lt-ltb, le-ltb, ltb-false}
use lib.Dec.{leb, ltb}
use lib.ListN.{length}
use lib.IntN.{nat_abs}
use Rattle.std.specs.Prelude.{Ok}
use Rattle.numbers.specs.Numbers.{put_at}
use Rattle.numbers.specs.Tables.{first_of}
use Rattle.numbers.proofs.Tests.{or_l, or_r}
use Rattle.numbers.proofs.Tables.{test_of, failed}
use Rattle.records.specs.declared.Refusal.{Refusal}
use Rattle.records.specs.Refusals.{refusal_number}
use Rattle.records.proofs.Numbered.{not_zero}
use Rattle.adjust.specs.declared.Section.{Section}
use Rattle.adjust.specs.Sizes.{highest}
use Rattle.adjust.specs.Sections.{misfit, any_outside, section_fits}
use Rattle.adjust.proofs.Kept.{summed_fit}
use Rattle.adjust.specs.code.Bounds.{Fits}
use Rattle.adjust.proofs.Lists.{fitted_legs}
use Rattle.adjust.proofs.Sized.{in_range_lem}
use Rattle.rules.specs.LineState.{LineState, is_closed, line_broken}
use Rattle.rules.specs.Rules.{all_broken, broken_in, figures_tests}
use Rattle.rules.proofs.Unbroken.{Unbroken, unbroken}
use Rattle.columns.specs.Texts.{joined}
use Rattle.fieldbook.specs.code.Printed.{Puts}
use Rattle.plotter.specs.declared.Mark.{Mark}
use Rattle.plotter.specs.Profile.{start_mark, marks_after, mark_bytes, profile, profile_tests, profile_refusal, Profiles, buffer_after}

-- ---- by what asking for the figures would give

module _ (v : LineState) (room : ℕ) {n : ℕ} (e : n ≡ first_of (figures_tests v)) where
  abbrev short : Bool
  short = ltb room (16 * (length v.sections + 1))

  -- whether the book is broken, and whether it is closed
  abbrev answer : Bool → Bool → ℕ
  answer b c = cond b 20 (cond (not c || short) 56 0)

  by : (b c : Bool) → n ≡ cond b 20 (cond (not c) 21 0) → (n ≡ 20 → 20 ≡ answer b c) × (((n ≡ 20 → ⊥) → (n ≡ 0 → ⊥) → 56 ≡ answer b c) × (n ≡ 0 → cond short 56 0 ≡ answer b c))
  by true c h = (λ z. refl, (λ f g. absurd (f h), λ z. absurd (omega (arith, h, z))))
  by false false h = (λ z. absurd (omega (arith, h, z)), (λ f g. refl, λ z. absurd (omega (arith, h, z))))
  by false true h = (λ z. absurd (omega (arith, h, z)), (λ f g. absurd (g h), λ z. refl))

  pub given_broken : n ≡ 20 → 20 ≡ profile_refusal v room
  unfolding profile_refusal
  given_broken = (by (broken_in (all_broken v) v) (is_closed v.line.stage) e).0

  pub given_open : (n ≡ 20 → ⊥) → (n ≡ 0 → ⊥) → 56 ≡ profile_refusal v room
  unfolding profile_refusal
  given_open = (by (broken_in (all_broken v) v) (is_closed v.line.stage) e).1.0

  by_room : n ≡ 0 → cond short 56 0 ≡ profile_refusal v room
  unfolding profile_refusal
  by_room = (by (broken_in (all_broken v) v) (is_closed v.line.stage) e).1.1

  pub given_short : n ≡ 0 → room / 16 ≤ length v.sections → 56 ≡ profile_refusal v room
  given_short z h = ap (λ (t : Bool). cond t 56 0) (sym (lt-ltb room (16 * (length v.sections + 1)) (omega arith))) ∙ by_room z

  pub given_none : n ≡ 0 → length v.sections < room / 16 → 0 ≡ profile_refusal v room
  given_none z h = ap (λ (t : Bool). cond t 56 0) (sym (le-ltb room (16 * (length v.sections + 1)) (omega arith))) ∙ by_room z

-- ---- a refusal leaves the buffer

pub buffer_kept : (v : LineState) (d : List ℕ) (x : Refusal) → refusal_number x ≡ profile_refusal v (length d) → d ≡ buffer_after v d
unfolding buffer_after
buffer_kept v d x e =
    let some : 0 < profile_refusal v (length d) = omega (arith, e, not_zero x) in
    sym (ap (λ (b : Bool). cond b d (put_at d 0 (profile v))) (lt-ltb 0 (profile_refusal v (length d)) some))

-- ---- a book that is not refused

module _ (v : LineState) (room : ℕ) (e : 0 ≡ profile_refusal v room) where
  passed : (n : ℕ) → test_of n (profile_tests v room) ≡ false
  unfolding profile_refusal
  passed = failed (profile_tests v room) refl (sym e)

  sections_fit : misfit v.sections ≡ false
  sections_fit = summed_fit v.line.opening v.line.sums v.sections (or_l (all_broken v) (line_broken v.line (length v.sections)) (passed 20))

  line_unbroken : Unbroken v.line (length v.sections)
  line_unbroken = unbroken v.line (length v.sections) (or_r (all_broken v) (line_broken v.line (length v.sections)) (passed 20))

  pub fits : Fits v.sections
  fits =
      record {
        few = line_unbroken.few;
        legs = fitted_legs v.sections (or_r (not (leb (length v.sections) 64)) (any_outside section_fits v.sections) sections_fit);
      }

  pub start_size : nat_abs v.line.opening.start.height ≤ highest
  start_size = in_range_lem v.line.opening.start.height line_unbroken.start

  pub long_enough : 16 * (length v.sections + 1) ≤ room
  long_enough = ltb-false room (16 * (length v.sections + 1)) (or_r (not (is_closed v.line.stage)) (ltb room (16 * (length v.sections + 1))) (passed 56))

-- and then the profile is written
pub done : (v : LineState) (d : List ℕ) {m : Mark} {ss : List Section} {r : List ℕ} {n : ℕ} → 0 ≡ profile_refusal v (length d) → m ≡ start_mark v.line.opening → ss ≡ v.sections
    → Puts (joined (map mark_bytes (m ∷ marks_after m ss))) d r n → Profiles v (length d) (Ok n) × (r ≡ buffer_after v d)
unfolding profile buffer_after
done v d {m} {ss} e p q puts =
    let same : joined (map mark_bytes (m ∷ marks_after m ss)) ≡ profile v = λ i. joined (map mark_bytes (p i ∷ marks_after (p i) (q i))) in (
      record { number = e; written = puts.value ∙ ap length same },
      puts.buf_after ∙ ap (put_at d 0) same ∙ sym (ap (λ (n : ℕ). cond (ltb 0 n) d (put_at d 0 (profile v))) (sym e)),
    )
