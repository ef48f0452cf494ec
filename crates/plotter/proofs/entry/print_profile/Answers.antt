-- Nothing is printed where a read failed; of a text its profile, or its refusal.
use Rattle.std.proofs.Common.{◌≡◌, sym, ap, ◌∙◌, List, ℕ, min, length, take}
use Rattle.std.proofs.lemmas.List.{take_min}
use Rattle.std.specs.Prelude.{Some}
use Rattle.std.specs.declared.option.Option.{Option}
use Rattle.numbers.specs.Numbers.{put_at}
use Rattle.numbers.proofs.Arrays.{put_none}
use Rattle.records.specs.declared.Refusal.{Refusal}
use Rattle.records.specs.Refusals.{refusal_number}
use Rattle.fieldbook.specs.Report.{ref_line}
use Rattle.plotter.specs.Text.{most_profile, text_refusal, printed_for, printed_of}
use Rattle.plotter.proofs.Calls.{refused, profiled, prints_profile, prints_refusal}
use Rattle.plotter.proofs.entry.print_profile.Goals as goal

pub returns-in_default-clause-out_after : goal.returns-in_default-clause-out_after
returns-in_default-clause-out_after c =
    let d = c.args.out.now in
    sym (ap (λ (r : Option ℕ). put_at d 0 (printed_of c.args.input.now r)) c.in_default.is ∙ put_none d 0)

-- what was read is the text
of_read : (input : List ℕ) {r : Option ℕ} {n k : ℕ} → length input ≡ 65269 → r ≡ Some k → n ≡ min k 65269 → printed_for (take n input) ≡ printed_of input r
of_read input {k = k} long e p =
    ap printed_for (ap (λ (n : ℕ). take n input) p ∙ ap (λ (m : ℕ). take (min k m) input) (sym long) ∙ take_min k input) ∙ ap (printed_of input) (sym e)

pub returns-in-Ok-clause-out_after : goal.returns-in-Ok-clause-out_after
returns-in-Ok-clause-out_after c =
    let t = take c.min.result c.args.input.now in
    let d = c.args.out.now in
    let e = c.in-Ok.ensures.profiles.number in
    c.in-Ok.ensures.buf_after ∙ profiled t d e ∙ ap (put_at d 0) (prints_profile t d (sym c.told-out) e ∙ of_read c.args.input.now c.told-input c.in-Some.is c.min.ensures)

-- the line of a refusal under its number is the line that is printed
line_printed : (t d : List ℕ) {m : ℕ} (x : Refusal) → most_profile ≡ length d → m ≡ refusal_number x → refusal_number x ≡ text_refusal t (length d)
    → ref_line (record { line = 0; number = m }) ≡ printed_for t
line_printed t d x is number e = ap (λ (k : ℕ). ref_line (record { line = 0; number = k })) number ∙ prints_refusal t d is x e

pub returns-in-Err-clause-value : goal.returns-in-Err-clause-value
returns-in-Err-clause-value c =
    let t = take c.min.result c.args.input.now in
    c.put_refusal.ensures.value
    ∙ ap length (line_printed t c.args.out.now c.in-Err.refusal (sym c.told-out) c.number.ensures c.in-Err.ensures.profiles.number ∙ of_read c.args.input.now c.told-input c.in-Some.is c.min.ensures)

pub returns-in-Err-clause-out_after : goal.returns-in-Err-clause-out_after
returns-in-Err-clause-out_after c =
    let t = take c.min.result c.args.input.now in
    let d = c.args.out.now in
    let e = c.in-Err.ensures.profiles.number in
    let left = c.in-Err.ensures.buf_after ∙ sym (refused t d c.in-Err.refusal (sym e)).1 in
    let line = line_printed t d c.in-Err.refusal (sym c.told-out) c.number.ensures e ∙ of_read c.args.input.now c.told-input c.in-Some.is c.min.ensures in
    c.put_refusal.ensures.buf_after ∙ (λ i. put_at (left i) 0 (line i))
