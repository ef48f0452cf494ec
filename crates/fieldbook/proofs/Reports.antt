-- The report of the reader's state is the report of the text.
use mathlib.Core.Path.{◌≡◌, refl, sym, ap, subst, ◌∙◌}
use mathlib.Core.Bool.{Bool, true, not, cond}
use mathlib.Core.List.{List, [], ◌∷◌, ◌++◌, map}
use Prim.Native.Nat.{ℕ, ◌≤◌, ◌<◌}
use native.Mathlib.Omega.{arith}
use borrow.Author.Tests.{lt-ltb, le-ltb, ltb-false}
use lib.Dec.{eqb, ltb}
use lib.ListN.{length, length-map}
use Rattle.std.specs.Prelude.{Ok, Err}
use Rattle.numbers.specs.Numbers.{any_of, put_at}
use Rattle.numbers.specs.Tables.{Lowest, first_of}
use Rattle.numbers.proofs.Tests.{by_test, is_false}
use Rattle.numbers.proofs.Tables.{first_lowest}
use Rattle.records.specs.declared.Refusal.{Refusal}
use Rattle.records.specs.Refusals.{refusal_number}
use Rattle.records.proofs.Numbered.{not_zero}
use Rattle.adjust.specs.declared.Point.{Point}
use Rattle.adjust.specs.Line.{line_frame, Closing}
use Rattle.adjust.specs.Sections.{holding}
use Rattle.adjust.specs.Frames.{adjusted_of}
use Rattle.columns.specs.Decimals.{same}
use Rattle.columns.specs.Lines.{heading, title}
use Rattle.columns.specs.Texts.{lines, joined}
use Rattle.rules.specs.declared.Stage.{Stage}
use Rattle.rules.specs.declared.Stage.TheVariants.{Fresh, Open, Closed}
use Rattle.rules.specs.LineState.{LineState, is_closed}
use Rattle.rules.specs.declared.call.Call.{Call}
use Rattle.book.specs.Calls.{closing_in, closing_of, figures_refusal, told_of}
use Rattle.ledger.specs.Plain as Plain
use Rattle.ledger.specs.Plain.{Reading, fresh_reading, after, plain_state, section_of, book_of}
use Rattle.ledger.proofs.Kept.{Kept, fresh_kept, calls_kept}
use Rattle.ledger.proofs.Again.{held, figures_number, fresh_holds}
use Rattle.ledger.proofs.Traced.{points_back}
use Rattle.ledger.proofs.Entries.{reading_calls, refusals_long}
use Rattle.textbook.specs.Text.{most_text, too_long, line_entry, entries, line_refusals, reading_after, refusals_from, calls_of}
use Rattle.fieldbook.specs.Report.{ref_line, opn_line, closing_lines, result_lines, report_of, without_heading, report_lines, report, too_small, text_tests, text_refusal, buffer_after, Reduces, printed_for}
use Rattle.fieldbook.specs.Fits.{closed_fits, point_fits}
use Rattle.textbook.specs.code.State.{read, unread, text_state}
use Rattle.fieldbook.specs.code.Printed.{book_lines, state_lines, Printable}
use Rattle.fieldbook.proofs.Bytes.{text_lines}
use Rattle.fieldbook.proofs.Widths.{figures_fit_lem}
use Rattle.textbook.proofs.Lines.{refusals_filled}

-- ---- the book of a reading

pub closed_stage : (s : Stage) → is_closed s ≡ true → s ≡ Closed
closed_stage Fresh e = let z : ◌≡◌ {A = ℕ} 0 1 = cc in absurd (omega arith)
closed_stage Open e = let z : ◌≡◌ {A = ℕ} 0 1 = cc in absurd (omega arith)
closed_stage Closed e = refl

module _ (r : Reading) (k : Kept (plain_state r)) where
  -- what it tells is the plain reading's closing, the points read back from their array
  told : closing_in (told_of (book_of r)) ≡ Plain.figures_of r
  told =
      ap (λ (v : LineState). closing_in (adjusted_of (closing_of v))) (held r refl)
      ∙ (λ i. record { summary = (Plain.figures_of r).summary; points = points_back (line_frame r.opening r.end (plain_state r).sections) r.opening.start.number (plain_state r).sections k.few i })

  -- it is asked in vain unless the line is closed
  told_number : figures_refusal (book_of r) ≡ cond (is_closed r.stage) 0 21
  told_number =
      figures_number r k refl
      ∙ by_test (is_closed r.stage) (λ t. ◌≡◌ {A = ℕ} (cond (not t) 21 0) (cond t 0 21)) (λ t. refl) (λ t. refl)

  sections_many : (book_of r).sections.count ≡ length r.sections
  unfolding holding
  sections_many = length-map r.sections (section_of r.opening.staffs)

  book_lines_lem : book_lines (book_of r) ≡ result_lines r
  book_lines_lem =
      (λ i. cond (eqb (told_number i) 0) (closing_lines r.opening.print_unit (told i)) (opn_line (sections_many i) ∷ []))
      ∙ by_test (is_closed r.stage)
      (λ t. cond (eqb (cond t 0 21) 0) (closing_lines r.opening.print_unit (Plain.figures_of r)) (opn_line (length r.sections) ∷ [])
      ≡ cond t (closing_lines r.opening.print_unit (Plain.figures_of r)) (opn_line (length r.sections) ∷ []))
      (λ t. refl) (λ t. refl)

  told_closed : figures_refusal (book_of r) ≡ 0 → r.stage ≡ Closed
  told_closed e =
      closed_stage r.stage (by_test (is_closed r.stage) (λ t. ◌≡◌ {A = ℕ} (cond t 0 21) 0 → t ≡ true) (λ t z. refl) (λ t z. absurd (omega (arith, z))) (sym told_number ∙ e))

-- of the book that a list of calls leaves
calls_printable : (calls : List Call) → Printable (book_of (after fresh_reading calls))
calls_printable calls =
    record {
      few = omega (arith, sections_many r k, sections_kept);
      closing = λ e. let fits = figures_fit_lem calls (told_closed r k e) in
          let same = told r k in
          record {
            few = omega (arith, k.few, ap (λ (c : Closing). c.summary.count) same);
            summary = ap (λ (c : Closing). closed_fits c.summary) same ∙ fits.0;
            points = ap (λ (c : Closing). any_of (λ (p : Point). not (point_fits r.opening.print_unit p)) c.points) same ∙ fits.1;
          };
    }
  where
    r : Reading
    r = after fresh_reading calls

    k : Kept (plain_state r)
    k = calls_kept calls

    sections_kept : length r.sections ≤ 64
    sections_kept = omega (arith, k.few, length-map r.sections (section_of r.opening.staffs))

-- ---- a text

pub numbers_long : (r : Reading) (ls : List (List ℕ)) → length (line_refusals r ls) ≡ length ls
numbers_long r ls = refusals_long r (entries ls) ∙ length-map ls line_entry

module _ (ls : List (List ℕ)) where
  abbrev last : Reading
  last = reading_after fresh_reading ls

  last_kept : Kept (plain_state last)
  last_kept = subst (λ (r : Reading). Kept (plain_state r)) (sym (reading_calls fresh_reading (entries ls))) (calls_kept (calls_of ls))

  read_lines : length ls ≤ 776 → state_lines (read last (line_refusals fresh_reading ls)) ≡ report_of (refusals_from 2 (line_refusals fresh_reading ls)) last
  unfolding state_lines refusals_from
  read_lines h =
      λ i. title ∷ (map ref_line (refusals_filled 2 776 (line_refusals fresh_reading ls) (omega (arith, numbers_long fresh_reading ls)) i) ++ book_lines_lem last last_kept i)

  read_printable : Printable (book_of last)
  read_printable = subst (λ (r : Reading). Printable (book_of r)) (sym (reading_calls fresh_reading (entries ls))) (calls_printable (calls_of ls))

fresh_printable : Printable unread.book
fresh_printable = subst Printable (sym fresh_holds) (calls_printable [])

unread_lines : state_lines unread ≡ without_heading
unfolding state_lines refusals_from
unread_lines =
    (λ i. title ∷ (map ref_line (record { line = 1; number = 1 } ∷ refusals_filled 2 776 [] (omega arith) i) ++ book_lines (fresh_holds i)))
    ∙ ap (λ (ls : List (List ℕ)). title ∷ (ref_line (record { line = 1; number = 1 }) ∷ ls)) (book_lines_lem fresh_reading fresh_kept)

state_lines_lem : (ls : List (List ℕ)) → length ls ≤ 777 → state_lines (text_state ls) ≡ report_lines ls
state_lines_lem [] h = unread_lines
state_lines_lem (l ∷ ls) h =
    by_test (same l heading)
    (λ b. state_lines (cond b (read (last ls) (line_refusals fresh_reading ls)) unread) ≡ cond b (report_of (refusals_from 2 (line_refusals fresh_reading ls)) (last ls)) without_heading)
    (λ b. read_lines ls (omega arith)) (λ b. unread_lines)

pub state_printable : (ls : List (List ℕ)) → Printable (text_state ls).book
state_printable [] = fresh_printable
state_printable (l ∷ ls) =
    by_test (same l heading) (λ b. Printable (cond b (read (last ls) (line_refusals fresh_reading ls)) unread).book) (λ b. read_printable ls) (λ b. fresh_printable)

module _ (t : List ℕ) (h : length t ≤ most_text) where
  pub few_lines : length (lines t) ≤ 777
  unfolding lines
  few_lines = omega (arith, text_lines (length t) t)

  -- what is read of a text is its report
  pub report_read : joined (state_lines (text_state (lines t))) ≡ report t
  unfolding report
  report_read = ap joined (state_lines_lem (lines t) few_lines)

-- ---- the call

module _ (t d : List ℕ) where
  -- 9 before 10
  pub text_lowest : Lowest (λ n. n) (text_tests t d) (text_refusal t d)
  unfolding text_refusal
  text_lowest = first_lowest (λ n. n) (text_tests t d) 0 refl

  -- a refusal is answered, and the buffer is left as it was
  pub refused : (x : Refusal) → text_refusal t d ≡ refusal_number x → Reduces t d (Err x) × (d ≡ buffer_after t d)
  unfolding buffer_after
  refused x e =
      let some : 0 < text_refusal t d = omega (arith, e, not_zero x) in
      (record { number = sym e; written = tt }, sym (ap (λ (b : Bool). cond b d (put_at d 0 (report t))) (lt-ltb 0 (text_refusal t d) some)))

  -- or the report is, and written
  pub reported : {n : ℕ} {r : List ℕ} → text_refusal t d ≡ 0 → n ≡ length (report t) → r ≡ put_at d 0 (report t) → Reduces t d (Ok n) × (r ≡ buffer_after t d)
  unfolding buffer_after
  reported e p q = (record { number = sym e; written = p }, q ∙ sym (ap (λ (n : ℕ). cond (ltb 0 n) d (put_at d 0 (report t))) e))

  -- by what is answered of the text when it is read
  pub unread_text : (x : Refusal) → refusal_number x ≡ cond (too_long t) 9 0 → text_refusal t d ≡ refusal_number x
  unfolding text_refusal
  unread_text x e =
      by_test (too_long t) (λ b. refusal_number x ≡ cond b 9 0 → first_of ((9, b) ∷ (10, too_small d) ∷ []) ≡ refusal_number x) (λ b h. sym h)
      (λ b h. absurd (not_zero x h)) e

  pub too_long_lem : most_text < length t → text_refusal t d ≡ 9
  unfolding text_refusal
  too_long_lem h = rw (lt-ltb most_text (length t) h)

  pub too_small_lem : length t ≤ most_text → length d < 65536 → text_refusal t d ≡ 10
  unfolding text_refusal
  too_small_lem h g = rw (le-ltb most_text (length t) h, lt-ltb (length d) 65536 g)

  pub not_refused : length t ≤ most_text → 65536 ≤ length d → text_refusal t d ≡ 0
  unfolding text_refusal
  not_refused h g = rw (le-ltb most_text (length t) h, le-ltb (length d) 65536 g)

pub read_short : (t : List ℕ) → ◌≡◌ {A = ℕ} 0 (cond (too_long t) 9 0) → length t ≤ most_text
read_short t =
    by_test (too_long t) (λ b. ◌≡◌ {A = ℕ} 0 (cond b 9 0) → length t ≤ most_text) (λ long e. absurd (omega (arith, e)))
    (λ short e. ltb-false most_text (length t) (is_false short))

-- ---- the program

module _ (t d : List ℕ) where
  -- of a text that is taken the report is printed
  pub prints_report : ◌≡◌ {A = ℕ} 0 (text_refusal t d) → report t ≡ printed_for t
  unfolding text_refusal
  prints_report =
      by_test (too_long t) (λ b. ◌≡◌ {A = ℕ} 0 (first_of ((9, b) ∷ (10, too_small d) ∷ [])) → report t ≡ cond b (ref_line (record { line = 0; number = 9 })) (report t))
      (λ b e. absurd (omega (arith, e))) (λ b e. refl)

  -- of one that is refused for its length alone, that refusal
  pub prints_refusal : (x : Refusal) → 65536 ≤ length d → refusal_number x ≡ text_refusal t d → ref_line (record { line = 0; number = refusal_number x }) ≡ printed_for t
  unfolding text_refusal
  prints_refusal x h =
      by_test (too_long t) (λ b. refusal_number x ≡ first_of ((9, b) ∷ (10, too_small d) ∷ []) → ref_line (record { line = 0; number = refusal_number x }) ≡ cond b (ref_line (record { line = 0; number = 9 })) (report t))
      (λ b e. ap (λ (n : ℕ). ref_line (record { line = 0; number = n })) e)
      (λ b e. absurd (not_zero x (e ∙ ap (λ (s : Bool). cond s 10 0) (le-ltb (length d) 65536 h))))
