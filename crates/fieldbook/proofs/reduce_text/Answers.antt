-- A text that is too long, a buffer that is too small, and the report.
use Rattle.std.specs.Prelude.{Ok, Err, cond}
use borrow.Author.Tests.{le-ltb}
use Rattle.std.proofs.Common.{Bool, ◌≡◌, sym, ap, subst, ◌∙◌, ℕ, ◌≤◌, ◌<◌, List, length, arith}
use Rattle.std.proofs.lemmas.Result.{err_from_is_err_and}
use Rattle.numbers.specs.Numbers.{put_at}
use Rattle.columns.specs.Texts.{lines, joined}
use Rattle.records.specs.declared.Refusal.{Refusal}
use Rattle.records.specs.declared.Refusal.TheVariants.{ReportRoom}
use Rattle.records.specs.Refusals.{refusal_number}
use Rattle.textbook.specs.declared.text.State.{State}
use Rattle.textbook.specs.Text.{most_text, too_long}
use Rattle.textbook.specs.code.State.{text_state}
use Rattle.fieldbook.specs.Report.{report, buffer_after, Reduces}
use Rattle.fieldbook.specs.code.Printed.{state_lines, Printable}
use Rattle.fieldbook.proofs.Bytes.{report_fits}
use Rattle.fieldbook.proofs.Reports.{report_read, state_printable, refused, reported, unread_text, read_short, too_small_lem, not_refused}
use Rattle.fieldbook.proofs.reduce_text.Goals as goal

-- a text that is not read
unread : (t d : List ℕ) (x : Refusal) → refusal_number x ≡ cond (too_long t) 9 0 → Reduces t d (Err x) × (d ≡ buffer_after t d)
unread t d x e = refused t d x (unread_text t d x e)

pub returns-in_err-read_into-clause-reduces : goal.returns-in_err-read_into-clause-reduces
returns-in_err-read_into-clause-reduces c =
    let p = err_from_is_err_and c.from_residual.result c.from_residual.ensures.1 in
    rw (p.1, p.2) (unread c.args.text.now c.args.report.now c.in_err-read_into.field-0.0 c.in_err-read_into.ensures.number).0

pub returns-in_err-read_into-clause-report_after : goal.returns-in_err-read_into-clause-report_after
returns-in_err-read_into-clause-report_after c =
    (unread c.args.text.now c.args.report.now c.in_err-read_into.field-0.0 c.in_err-read_into.ensures.number).1

-- a buffer that is too small for the report of one that is read
no_room : (t d : List ℕ) → ◌≡◌ {A = ℕ} 0 (cond (too_long t) 9 0) → length d < 65536 → Reduces t d (Err ReportRoom) × (d ≡ buffer_after t d)
no_room t d e g = refused t d ReportRoom (too_small_lem t d (read_short t e) g)

pub returns-then-report-lt65536-clause-reduces : goal.returns-then-report-lt65536-clause-reduces
returns-then-report-lt65536-clause-reduces c =
    (no_room c.args.text.now c.args.report.now c.in_ok-read_into.ensures.number c.if-report-lt65536.true).0

pub returns-then-report-lt65536-clause-report_after : goal.returns-then-report-lt65536-clause-report_after
returns-then-report-lt65536-clause-report_after c =
    (no_room c.args.text.now c.args.report.now c.in_ok-read_into.ensures.number c.if-report-lt65536.true).1

-- a text that is not too long is read, and has its report
read : (t : List ℕ) {s : State} (old : State) → length t ≤ most_text → s ≡ cond (too_long t) old (text_state (lines t)) → s ≡ text_state (lines t)
read t old h e = e ∙ ap (λ (b : Bool). cond b old (text_state (lines t))) (le-ltb most_text (length t) h)

same : (t : List ℕ) (s : State) → s ≡ text_state (lines t) → length t ≤ most_text → joined (state_lines s) ≡ report t
same t s e h = ap (λ (s : State). joined (state_lines s)) e ∙ report_read t h

pub put_state-requires : goal.put_state-requires
put_state-requires c =
    let t = c.args.text.now in
    let s = c.read_into.new.state in
    let h = read_short t c.in_ok-read_into.ensures.number in
    let e = read t _ h c.in_ok-read_into.ensures.state in (
      omega arith,
      (subst (λ (s : State). Printable s.book) (sym e) (state_printable (lines t)), omega (arith, ap length (same t s e h), report_fits t h)),
    )

-- what is written of its state is the report
put : (t d : List ℕ) (old : State) {s : State} {n : ℕ} {r : List ℕ} → ◌≡◌ {A = ℕ} 0 (cond (too_long t) 9 0) → s ≡ cond (too_long t) old (text_state (lines t)) → 65536 ≤ length d
    → n ≡ length (joined (state_lines s)) → r ≡ put_at d 0 (joined (state_lines s)) → Reduces t d (Ok n) × (r ≡ buffer_after t d)
put t d old {s} e state room count bytes =
    let h = read_short t e in
    let p = same t s (read t old h state) h in
    reported t d (not_refused t d h room) (count ∙ ap length p) (bytes ∙ ap (put_at d 0) p)

pub returns-clause-reduces : goal.returns-clause-reduces
returns-clause-reduces c =
    (put c.args.text.now c.args.report.now _ c.in_ok-read_into.ensures.number c.in_ok-read_into.ensures.state (omega arith) c.put_state.ensures.value c.put_state.ensures.buf_after).0

pub returns-clause-report_after : goal.returns-clause-report_after
returns-clause-report_after c =
    (put c.args.text.now c.args.report.now _ c.in_ok-read_into.ensures.number c.in_ok-read_into.ensures.state (omega arith) c.put_state.ensures.value c.put_state.ensures.buf_after).1
