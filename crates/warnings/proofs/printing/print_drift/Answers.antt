-- Nothing is printed where a read failed; of a text the title and its warnings, or the refusal.
use Rattle.std.proofs.Common.{◌≡◌, sym, ap, ◌∙◌, List, ◌∷◌, map, ℕ, ℤ, length, arith}
use Rattle.std.specs.declared.option.Option.{Option}
use mathlib.Core.Path.{subst}
use Rattle.numbers.specs.Numbers.{put_at}
use Rattle.numbers.proofs.Arrays.{put_none}
use Rattle.numbers.proofs.Machine.{stored_id}
use Rattle.columns.specs.Texts.{joined}
use Rattle.fieldbook.specs.Report.{ref_line}
use Rattle.warnings.specs.declared.Drift.{Drift}
use Rattle.warnings.specs.Drift.{drift_of}
use Rattle.warnings.specs.Text.{text_refusal, text_firsts, drift_title, drift_line, printed_of}
use Rattle.warnings.specs.code.Listed.{numbers_small}
use Rattle.warnings.proofs.Texts.{text_few, taken_back, text_small, printed, refused, of_read}
use Rattle.warnings.proofs.printing.print_drift.Goals as goal

pub returns-in_default-clause-out_after : goal.returns-in_default-clause-out_after
returns-in_default-clause-out_after c =
    let d = c.args.out.now in
    sym (ap (λ (r : Option ℕ). put_at d 0 (printed_of c.args.input.now r c.args.window)) c.in_default.is ∙ put_none d 0)

-- where warnings are found, by the text and the window as they were given
taken : (t : List ℕ) (w : ℤ) {z : ℤ} → z ≡ w → ◌≡◌ {A = ℕ} 0 (text_refusal t z) → text_refusal t w ≡ 0
taken t w e n = sym (n ∙ ap (text_refusal t) e)

found : (t : List ℕ) (w : ℤ) {z : ℤ} {d : Drift} → z ≡ w → d ≡ drift_of (text_firsts t z) → d ≡ drift_of (text_firsts t w)
found t w e h = h ∙ ap (λ (x : ℤ). drift_of (text_firsts t x)) e

pub put_warnings-requires : goal.put_warnings-requires
put_warnings-requires c =
    let t = c.front.result.now in
    let w = c.args.window in
    let e = taken t w (stored_id c.ranges.window) c.in-Ok.ensures.number in
    let all = c.listed.ensures ∙ taken_back t w e (found t w (stored_id c.ranges.window) c.in-Ok.ensures.drift) in
    (omega (arith, c.told-out), (omega (arith, ap length all, text_few t w e), subst numbers_small (sym all) (text_small t w e)))

module _ (c : goal.After-put_warnings) where
  shown : joined (drift_title ∷ map drift_line c.listed.result.now) ≡ printed_of c.args.input.now c.args.read c.args.window
  shown =
      let t = c.front.result.now in
      let w = c.args.window in
      printed t w (taken t w (stored_id c.ranges.window) c.in-Ok.ensures.number) (found t w (stored_id c.ranges.window) c.in-Ok.ensures.drift) c.listed.ensures
      ∙ of_read c.args.input.now w c.in-Some.is c.front.ensures

pub returns-in-Ok-clause-value : goal.returns-in-Ok-clause-value
returns-in-Ok-clause-value c = c.put_warnings.ensures.value ∙ ap length (shown c)

pub returns-in-Ok-clause-out_after : goal.returns-in-Ok-clause-out_after
returns-in-Ok-clause-out_after c = c.put_warnings.ensures.buf_after ∙ ap (put_at c.args.out.now 0) (shown c)

module _ (c : goal.After-put_refusal) where
  line : ref_line (record { line = 0; number = c.number.result }) ≡ printed_of c.args.input.now c.args.read c.args.window
  line =
      let t = c.front.result.now in
      let w = c.args.window in
      refused t w c.in-Err.refusal c.number.ensures (c.in-Err.ensures.number ∙ ap (text_refusal t) (stored_id c.ranges.window)) ∙ of_read c.args.input.now w c.in-Some.is c.front.ensures

pub returns-in-Err-clause-value : goal.returns-in-Err-clause-value
returns-in-Err-clause-value c = c.put_refusal.ensures.value ∙ ap length (line c)

pub returns-in-Err-clause-out_after : goal.returns-in-Err-clause-out_after
returns-in-Err-clause-out_after c = c.put_refusal.ensures.buf_after ∙ ap (put_at c.args.out.now 0) (line c)
