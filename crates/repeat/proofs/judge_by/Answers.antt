-- `judge_by`: both texts are runs, and the sum of the sights fits, so that it is read back as it is.
use Rattle.std.proofs.Common.{◌≡◌, refl, sym, subst, ◌∙◌, Bool, true, false, cond, ◌&&◌, ℕ, ◌≤◌, ℤ, pos, nat_abs, ◌+ℤ◌, arith, rules}
use Rattle.numbers.specs.Numbers.{within, between}
use Rattle.numbers.proofs.Tests.{and_r}
use Rattle.numbers.proofs.Sizes.{between_size}
use mir.Syntax.{w64}
use mir.Val.{SFits}
use Rattle.numbers.proofs.Machine.{stored, stored_id}
use Rattle.numbers.proofs.Chain.{known, add, kept, fits}
use Rattle.records.specs.Refusals.{refusal_number, number_of}
use Rattle.records.proofs.Numbered.{not_zero}
use Rattle.adjust.specs.declared.terms.Terms.{Terms}
use Rattle.adjust.specs.Terms.{terms_of}
use Rattle.repeat.specs.Repeat.{is_run, opposite_in_range, judged, judgement}
use Rattle.repeat.proofs.Named.{small_root}
use Rattle.repeat.proofs.judge_by.Goals as goal

-- ---- the first text is a run, the second is one, and the figures are in their ranges: a, b and o

second_refused : (a b o : Bool) (n : ℕ) → ◌≡◌ {A = ℕ} 0 (cond a 0 52) → n ≡ cond b 0 52 → (n ≡ 0 → ⊥) → n ≡ cond (a && b && o) 0 52
second_refused true true o n e f some = absurd (some f)
second_refused true false o n e f some = f
second_refused false b o n e f some = absurd (omega (arith, e))

range_refused : (a b o : Bool) → o ≡ false → ◌≡◌ {A = ℕ} 52 (cond (a && b && o) 0 52)
range_refused true true o e = λ i. cond (sym e i) 0 52
range_refused true false o e = refl
range_refused false b o e = refl

all_taken : (a b o : Bool) → ◌≡◌ {A = ℕ} 0 (cond a 0 52) → ◌≡◌ {A = ℕ} 0 (cond b 0 52) → o ≡ true → ◌≡◌ {A = ℕ} 0 (cond (a && b && o) 0 52)
all_taken true b o e f h = go b f
  where
    go : (b : Bool) → ◌≡◌ {A = ℕ} 0 (cond b 0 52) → ◌≡◌ {A = ℕ} 0 (cond (b && o) 0 52)
    go true f = λ i. cond (sym h i) 0 52
    go false f = absurd (omega (arith, f))
all_taken false b o e f h = absurd (omega (arith, e))

small_s : (g s : ℤ) → opposite_in_range g s ≡ true → nat_abs s ≤ 600000
small_s g s e = between_size 8 s 600000 (and_r (within g 1250000) (between (pos 8) s (pos 600000)) e)

-- of whichever run
sum_fits : (x y : ℤ) → nat_abs x ≤ 600000 → nat_abs y ≤ 600000 → SFits w64 (stored x +ℤ stored y)
sum_fits x y h k = fits (add (known x h tt) (known y k tt)) tt

pub returns-in_err-new-clause-number : goal.returns-in_err-new-clause-number
returns-in_err-new-clause-number c =
    let told : number_of c.from_residual-in_err-new.result ≡ refusal_number c.in_err-new.field-0.0 = search rules in
    told ∙ second_refused _ _ _ _ c.in_ok-old.ensures.number c.in_err-new.ensures.number (not_zero c.in_err-new.field-0.0)

pub returns-then-not-opposite_in_range-clause-number : goal.returns-then-not-opposite_in_range-clause-number
returns-then-not-opposite_in_range-clause-number c =
    let outside : opposite_in_range c.args.g c.args.s ≡ false = search rules in
    range_refused (is_run c.args.class c.args.instrument c.args.first.now) (is_run c.args.class c.args.instrument c.args.second.now) _ outside

pub overflow_add-r : goal.overflow_add-r
overflow_add-r c =
    let inside : opposite_in_range c.args.g c.args.s ≡ true = search rules in
    let small : nat_abs c.args.s ≤ 600000 = small_s c.args.g c.args.s inside in
    search (rules, sum_fits)

pub judged-requires-clause-root : goal.judged-requires-clause-root
judged-requires-clause-root c = subst (λ (t : Terms). t.apart.b ≤ 18) (sym c.terms.ensures) (small_root c.args.class)

pub returns-clause-number : goal.returns-clause-number
returns-clause-number c =
    let inside : opposite_in_range c.args.g c.args.s ≡ true = search rules in all_taken _ _ _ c.in_ok-old.ensures.number c.in_ok-new.ensures.number inside

pub returns-clause-given : goal.returns-clause-given
unfolding judgement
returns-clause-given c =
    let a = c.args in
    let old = c.in_ok-old in
    let new = c.in_ok-new in
    let inside : opposite_in_range a.g a.s ≡ true = search rules in
    let sights = (kept (add (known old.old.sights old.ensures.small.sights tt) (known a.s (small_s a.g a.s inside) tt)) tt).is in
    c.judged.ensures
    ∙ (λ i. judged (c.terms.ensures i).apart (sights i) ((known old.old.height old.ensures.small.height tt).is i) ((known new.new.height new.ensures.small.height tt).is i) (stored_id c.ranges.g i))
    ∙ (λ i. judged (terms_of a.class).apart ((old.ensures.run i).sights +ℤ a.s) (old.ensures.run i).height (new.ensures.run i).height a.g)
