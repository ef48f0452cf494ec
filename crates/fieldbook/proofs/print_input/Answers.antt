-- Nothing is printed where a read failed; of a text the report, or that it is too long.
use Rattle.std.proofs.Common.{◌≡◌, refl, sym, ap, ◌∙◌, List, ℕ, ◌≤◌, length, take, arith}
use Rattle.std.specs.Prelude.{Some}
use Rattle.std.specs.declared.option.Option.{Option}
use Rattle.numbers.specs.Numbers.{put_at}
use Rattle.numbers.proofs.Arrays.{put_none}
use Rattle.records.specs.declared.Refusal.{Refusal}
use Rattle.records.specs.Refusals.{refusal_number}
use Rattle.fieldbook.specs.Report.{ref_line, text_refusal, printed_for, printed_of}
use Rattle.fieldbook.proofs.Reports.{refused, reported, prints_report, prints_refusal}
use Rattle.fieldbook.proofs.print_input.Goals as goal

pub returns-in_default-clause-out_after : goal.returns-in_default-clause-out_after
returns-in_default-clause-out_after c =
    let d = c.args.out.now in
    sym (ap (λ (r : Option ℕ). put_at d 0 (printed_of c.args.input.now r)) c.in_default.is ∙ put_none d 0)

of_read : (input : List ℕ) {r : Option ℕ} {n : ℕ} → r ≡ Some n → printed_for (take n input) ≡ printed_of input r
of_read input e = ap (printed_of input) (sym e)

pub returns-in-Ok-clause-value : goal.returns-in-Ok-clause-value
returns-in-Ok-clause-value c =
    let r = c.in-Ok.ensures.reduces in
    r.written ∙ ap length (prints_report (take c.in-Some.count c.args.input.now) c.args.out.now r.number ∙ of_read c.args.input.now c.in-Some.is)

pub returns-in-Ok-clause-out_after : goal.returns-in-Ok-clause-out_after
returns-in-Ok-clause-out_after c =
    let t = (take c.in-Some.count c.args.input.now) in
    let d = c.args.out.now in
    let r = c.in-Ok.ensures.reduces in
    c.in-Ok.ensures.report_after ∙ sym (reported t d (sym r.number) r.written refl).1 ∙ ap (put_at d 0) (prints_report t d r.number ∙ of_read c.args.input.now c.in-Some.is)

-- the line of a refusal under its number is the line that is printed
line_printed : (input d : List ℕ) {r : Option ℕ} {n m : ℕ} (x : Refusal) → 65536 ≤ length d → r ≡ Some n → m ≡ refusal_number x → refusal_number x ≡ text_refusal (take n input) d
    → ref_line (record { line = 0; number = m }) ≡ printed_of input r
line_printed input d {n = n} x room is number e = ap (λ (k : ℕ). ref_line (record { line = 0; number = k })) number ∙ prints_refusal (take n input) d x room e ∙ of_read input is

pub returns-in-Err-clause-value : goal.returns-in-Err-clause-value
returns-in-Err-clause-value c =
    let line = line_printed c.args.input.now c.args.out.now c.in-Err.refusal (omega arith) c.in-Some.is c.number-in-Err.ensures c.in-Err.ensures.reduces.number in
    c.put_refusal-in-Err.ensures.value ∙ ap length line

pub returns-in-Err-clause-out_after : goal.returns-in-Err-clause-out_after
returns-in-Err-clause-out_after c =
    let t = (take c.in-Some.count c.args.input.now) in
    let d = c.args.out.now in
    let x = c.in-Err.refusal in
    let number = c.in-Err.ensures.reduces.number in
    let left = c.in-Err.ensures.report_after ∙ sym (refused t d x (sym number)).1 in
    let line = line_printed c.args.input.now d x (omega arith) c.in-Some.is c.number-in-Err.ensures number in
    c.put_refusal-in-Err.ensures.buf_after ∙ (λ i. put_at (left i) 0 (line i))
