-- The book that holds what the plain reading's lists sum to; of a closed one `figures_of` gives what the closing gave.
use mathlib.Core.Path.{◌≡◌, sym, ap, ◌∙◌}
use mathlib.Core.Bool.{not, cond}
use lib.IntN.{pos}
use Rattle.std.specs.Prelude.{Ok, Err, IfOk}
use Rattle.std.specs.declared.result.Result.{Result}
use Rattle.numbers.specs.Tables.{first_of}
use Rattle.records.specs.declared.Refusal.{Refusal}
use Rattle.records.specs.Refusals.{number_of}
use Rattle.records.proofs.Numbered.{not_zero}
use Rattle.adjust.specs.declared.LineFigures.{LineFigures}
use Rattle.adjust.specs.Frames.{adjusted_of}
use Rattle.adjust.proofs.Holding.{sections_holding, holding_none}
use Rattle.rules.specs.declared.Stage.TheVariants.{Closed}
use Rattle.rules.specs.declared.Book.{Book}
use Rattle.rules.specs.LineState.{LineState, state_of, is_closed}
use Rattle.rules.specs.declared.call.Call.TheVariants.{CloseLine as close_line}
use Rattle.rules.specs.Rules.{figures_tests}
use Rattle.book.specs.Calls.{fresh_book, closing_of, figures_refusal, Tells}
use Rattle.ledger.specs.Plain as Plain
use Rattle.ledger.specs.Plain.{Reading, fresh_reading, plain_state, book_of}
use Rattle.ledger.proofs.Kept.{Kept, kept_unbroken}

pub held : (r : Reading) {b : Book} → b ≡ book_of r → state_of b ≡ plain_state r
held r p = ap state_of p ∙ (λ i. record { line = (plain_state r).line; sections = sections_holding fresh_book.sections (plain_state r).sections i })

pub fresh_holds : fresh_book ≡ book_of fresh_reading
fresh_holds = λ i. record { line = fresh_book.line; sections = sym holding_none i }

-- under the number 0 an answer is the value that is given
pub ok_of : {A : Type 0} {a : A} (r : Result A Refusal) → number_of r ≡ 0 → IfOk r (λ x. x ≡ a) → r ≡ Ok a
ok_of (Ok x) n is = ap Ok is
ok_of (Err e) n is = absurd (not_zero e n)

-- ---- the figures of a closed book

module _ (r : Reading) (k : Kept (plain_state r)) {b : Book} (p : b ≡ book_of r) where
  -- 21 unless the line is closed
  pub figures_number : figures_refusal b ≡ cond (not (is_closed r.stage)) 21 0
  figures_number =
      ap (λ (v : LineState). first_of (figures_tests v)) (held r p)
      ∙ (λ i. cond (kept_unbroken (plain_state r) k (close_line (pos 0) (pos 0)) i) 20 (cond (not (is_closed r.stage)) 21 0))

  pub figures_again : r.stage ≡ Closed → (x : Result LineFigures Refusal) → Tells b x → x ≡ Ok (adjusted_of (Plain.figures_of r))
  figures_again e x t =
      ok_of x (t.number ∙ figures_number ∙ (λ i. cond (not (is_closed (e i))) 21 0)) t.figures ∙ ap (λ (v : LineState). Ok (adjusted_of (closing_of v))) (held r p)
