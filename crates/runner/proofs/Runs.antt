-- The figures of a list of numbers whose entries leave the line closed are those of its sound closing, and running a list is making its calls one by one.
use mathlib.Core.Path.{◌≡◌, sym, ap, ◌∙◌}
use mathlib.Core.List.{◌++◌}
use lib.ListN.{length}
use Rattle.adjust.specs.declared.LineFigures.{LineFigures}
use Rattle.adjust.specs.Frames.{adjusted_of}
use Rattle.adjust.specs.Sections.{holding}
use Rattle.rules.specs.declared.Stage.TheVariants.{Closed}
use Rattle.ledger.specs.Plain.{Reading, fresh_reading, after, book_of}
use Rattle.ledger.specs.Entries.{calls_of}
use Rattle.ledger.proofs.Kept.{calls_kept}
use Rattle.ledger.proofs.Every.{every_list, same_figures}
use Rattle.ledger.proofs.Entries.{reading_calls, numbers_calls}
use Rattle.ledger.proofs.Traced.{every_trace}
use Rattle.runner.specs.Calls.{entries_of}
use Rattle.runner.specs.Figures.{told, head_figures, point_figures}
use Rattle.runner.specs.Claims.{state_after, EveryRun, RunAsMade}
use Rattle.runner.proofs.Laws.{told_closed}

pub every_run : EveryRun
unfolding holding
every_run xs shut =
    let calls = calls_of (entries_of xs) in
    let same = reading_calls fresh_reading (entries_of xs) in
    let closed : (after fresh_reading calls).stage ≡ Closed = ap (λ (r : Reading). r.stage) (sym same) ∙ shut in
    let again = ap (λ (r : Reading). told (book_of r)) same ∙ told_closed (after fresh_reading calls) (calls_kept calls) closed ∙ ap adjusted_of (same_figures (every_list calls closed)) in
    record {
      closing = every_list calls closed;
      figures =
          ap (λ (f : LineFigures). head_figures f.summary (state_after xs).line.present (length (state_after xs).sections) ++ point_figures f.points) again;
    }

pub run_as_made : RunAsMade
run_as_made xs b e ns gs f t =
    let s = every_trace b e (calls_of (entries_of xs)) ns gs f t in
    (numbers_calls fresh_reading (entries_of xs) ∙ sym s.numbers, ap book_of (reading_calls fresh_reading (entries_of xs)) ∙ sym s.book)
