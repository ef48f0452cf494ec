-- A text is read as the list of its calls is, so what is proved of every list of calls holds of what the report prints.
use mathlib.Core.Path.{◌≡◌, refl, sym, ap, ◌∙◌}
use mathlib.Core.Bool.{Bool, false, cond}
use mathlib.Core.List.{List, [], ◌∷◌, ◌++◌, map}
use Prim.Native.Nat.{ℕ}
use lib.Dec.{ltb}
use lib.ListN.{length, length-map}
use Rattle.numbers.specs.Numbers.{put_at}
use Rattle.columns.specs.Lines.{heading, title}
use Rattle.columns.specs.Texts.{lines, joined}
use Rattle.columns.proofs.Compare.{same_refl}
use Rattle.adjust.specs.declared.prints.PrintUnit.{PrintUnit}
use Rattle.adjust.specs.Line.{Closing}
use Rattle.adjust.specs.Sections.{holding}
use Rattle.rules.specs.declared.Stage.{Stage}
use Rattle.rules.specs.declared.Stage.TheVariants.{Fresh, Open, Closed}
use Rattle.rules.specs.declared.Book.{Book}
use Rattle.rules.specs.declared.call.Call.{Call}
use Rattle.rules.specs.LineState.{LineState, is_closed}
use Rattle.ledger.specs.Plain.{Reading, fresh_reading, after, section_of, figures_of}
use Rattle.ledger.specs.Trace.{SoundTrace}
use Rattle.ledger.proofs.Every.{every_list, same_figures, none_given}
use Rattle.ledger.proofs.Kept.{open_not_closed, fresh_not_closed}
use Rattle.ledger.proofs.Traced.{every_trace}
use Rattle.ledger.proofs.Entries.{reading_calls, numbers_calls}
use Rattle.textbook.specs.Text.{entries, line_refusals, reading_after, calls_of, refusals_from}
use Rattle.fieldbook.specs.Report.{ref_line, closing_lines, opn_line, report_of, without_heading, result_lines, report_lines, report, buffer_after}
use Rattle.fieldbook.specs.Claims.{made_lines, EveryText, TextAsMade, EveryReport}

pub every_text : EveryText
every_text ls e =
    let r : Reading = reading_after fresh_reading ls in
    let same = reading_calls fresh_reading (entries ls) in
    let shut = sym (ap (λ (s : Reading). s.stage) same) ∙ e in
    record {
      closing = every_list (calls_of ls) shut;
      printed =
          ap (λ (s : Stage). cond (is_closed s) (closing_lines r.opening.print_unit (figures_of r)) (opn_line (length r.sections) ∷ [])) e
          ∙ ap (closing_lines r.opening.print_unit) (ap figures_of same ∙ same_figures (every_list (calls_of ls) shut));
    }

pub text_as_made : TextAsMade
unfolding holding
text_as_made ls b e ns gs f t = (numbers_calls fresh_reading (entries ls) ∙ sym sound.numbers, go r.stage refl)
  where
    calls : List Call
    calls = calls_of ls

    r : Reading
    r = reading_after fresh_reading ls

    same : r ≡ after fresh_reading calls
    same = reading_calls fresh_reading (entries ls)

    sound : SoundTrace calls ns gs e
    sound = every_trace b e calls ns gs f t

    -- the book keeps the print unit
    unit : r.opening.print_unit ≡ e.line.opening.print_unit
    unit = ap (λ (s : Reading). s.opening.print_unit) same ∙ ap (λ (v : LineState). v.line.opening.print_unit) (sym sound.holds)

    -- a line that is not closed gave nothing, and the book counts its sections
    open_made : is_closed r.stage ≡ false → (r.stage ≡ Closed → ⊥) → result_lines r ≡ made_lines gs e
    open_made k n =
        ap (λ (x : Bool). cond x (closing_lines r.opening.print_unit (figures_of r)) (opn_line (length r.sections) ∷ [])) k
        ∙ ap (λ (m : ℕ). opn_line m ∷ [])
        (ap (λ (s : Reading). length s.sections) same ∙ sym (length-map (after fresh_reading calls).sections (section_of (after fresh_reading calls).opening.staffs)) ∙ ap (λ (x : Book). x.sections.count) (sym sound.book))
        ∙ ap (λ (l : List Closing). made_lines l e) (sym (sound.given ∙ none_given calls fresh_reading (λ c. n (ap (λ (s : Reading). s.stage) same ∙ c))))

    go : (s : Stage) → r.stage ≡ s → result_lines r ≡ made_lines gs e
    go Closed k =
        let p = every_text ls k in
        p.printed ∙ ap (λ (u : PrintUnit). closing_lines u p.closing.gave) unit ∙ ap (λ (l : List Closing). made_lines l e) (sym (sound.given ∙ p.closing.once))
    go Open k = open_made (ap is_closed k) (λ c. open_not_closed (sym k ∙ c))
    go Fresh k = open_made (ap is_closed k) (λ c. fresh_not_closed (sym k ∙ c))

pub every_report : EveryReport
unfolding buffer_after report
every_report text buffer taken ls e shut =
    let p = every_text ls shut in
    let r : Reading = reading_after fresh_reading ls in
    let refusals = refusals_from 2 (line_refusals fresh_reading ls) in
    record {
      closing = p.closing;
      bytes =
          ap (λ (n : ℕ). cond (ltb 0 n) buffer (put_at buffer 0 (joined (report_lines (lines text))))) taken
          ∙ ap (λ (x : List (List ℕ)). put_at buffer 0 (joined (report_lines x))) e
          ∙ ap (λ (b : Bool). put_at buffer 0 (joined (cond b (report_of refusals r) without_heading))) (same_refl heading)
          ∙ ap (λ (x : List (List ℕ)). put_at buffer 0 (joined (title ∷ (map ref_line refusals ++ x)))) p.printed;
    }
