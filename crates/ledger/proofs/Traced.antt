-- Whatever meets the contracts of the calls answers, gives and leaves what the plain reading does, so what is proved of every list holds of the code.
use mathlib.Core.Path.{◌≡◌, refl, sym, ap, subst, ◌∙◌}
use mathlib.Core.Logic.{◌⊎◌, inl, inr, ⊎_elim}
use mathlib.Core.Bool.{Bool, true, false, not, cond, ◌||◌}
use mathlib.Core.List.{List, [], ◌∷◌, ◌++◌}
use Prim.Native.Nat.{ℕ, ◌+◌, ◌≤◌}
use native.Mathlib.Omega.{arith}
use lib.Dec.{eqb, eqb→eq}
use lib.ListN.{length, take, length-map}
use lib.IntN.{ℤ, pos, ◌*ℤ◌}
use Rattle.std.specs.Prelude.{Ok, Err}
use Rattle.std.specs.declared.result.Result.{Result}
use Rattle.numbers.specs.Numbers.{filled, any_of}
use Rattle.numbers.proofs.Tests.{by_test, not-true}
use Rattle.numbers.proofs.Tables.{first_each, zero_cond}
use Rattle.numbers.proofs.Filled.{filled_take}
use Rattle.records.specs.declared.Refusal.{Refusal}
use Rattle.records.specs.Refusals.{number_of}
use Rattle.adjust.specs.declared.Section.{Section}
use Rattle.adjust.specs.declared.Opening.{Opening}
use Rattle.adjust.specs.declared.Frame.{Frame}
use Rattle.adjust.specs.declared.LineFigures.{LineFigures}
use Rattle.adjust.specs.Line.{points, line_frame, Closing, closing}
use Rattle.adjust.specs.Frames.{no_point, adjusted_of}
use Rattle.adjust.proofs.Lists.{points_length}
use Rattle.adjust.specs.Kept.{sums_of}
use Rattle.adjust.proofs.Holding.{sections_count, holding_again}
use Rattle.rules.specs.declared.Book.{Book}
use Rattle.book.specs.declared.Outcome.{Outcome}
use Rattle.rules.specs.LineState.{LineState, state_of, book_with}
use Rattle.rules.specs.Rules as Rules
use Rattle.rules.specs.declared.call.Call.{Call}
use Rattle.rules.specs.declared.call.Call.TheVariants.{CloseLine as close_line, CloseSpur as close_spur}
use Rattle.rules.specs.Rules.{is_closing, book_refusal}
use Rattle.rules.proofs.Tables.{tests, tables}
use Rattle.book.specs.Calls.{fresh_book, book_after, Answers, closing_of, closed_by, Closes, gave_of}
use Rattle.book.proofs.Joined.{outcome_made, closing_made}
use Rattle.ledger.specs.Plain as Plain
use Rattle.ledger.specs.Plain.{Reading, fresh_reading, next, taken, refusal, after, refusals, given, closings, section_of, plain_state, book_of}
use Rattle.ledger.specs.Claims.{taken_only}
use Rattle.ledger.specs.Trace.{Ensures, CloseEnsures, FiguresEnsures, MadeOf, by_value, in_place, had_of, Trace, done, call, close, made, made_closing, EveryTrace, EveryListMade, StruckOutOfBook}
use Rattle.ledger.proofs.Follows.{follows}
use Rattle.ledger.proofs.Kept.{Kept, next_kept, fresh_kept, calls_kept, same_refusal}
use Rattle.ledger.proofs.Every.{closed_once, same_figures, closes_line, either, none_given, struck_out, all_taken}
use Rattle.ledger.proofs.Again.{held, fresh_holds, ok_of, figures_again}

-- ---- one call of the book of a reading

module _ (r : Reading) (k : Kept (plain_state r)) (c : Call) {b : Book} (p : b ≡ book_of r) where
  pub number : book_refusal (state_of b) c ≡ refusal r c
  number = ap (λ (v : LineState). book_refusal v c) (held r p) ∙ same_refusal (plain_state r) c k

  pub left : book_after b c ≡ book_of (next r c)
  unfolding book_after
  left =
      (λ i. cond (eqb (number i) 0) (book_with (p i) (Rules.taken (held r p i) c)) (p i))
      ∙ by_test (eqb (refusal r c) 0) (λ t. cond t (book_with (book_of r) (Rules.taken (plain_state r) c)) (book_of r) ≡ book_of (cond t (taken r c) r))
      (λ t. again (eqb→eq (refusal r c) 0 t)) (λ t. refl)
    where
      again : refusal r c ≡ 0 → book_with (book_of r) (Rules.taken (plain_state r) c) ≡ book_of (taken r c)
      again e =
          (λ i. record {
            line = (Rules.taken (plain_state r) c).line;
            sections = holding_again (plain_state r).sections (Rules.taken (plain_state r) c).sections k.few i;
          })
          ∙ ap (book_with fresh_book) (sym (follows r c))

-- ---- what a closing gives

module _ (f : Frame) (number : ℤ) (ss : List Section) where
  -- the points, read back from an array with room for 64 sections
  pub points_back : length ss ≤ 64 → take (length ss + 1) (filled no_point 65 (points f number ss)) ≡ points f number ss
  points_back h =
      let ps = points f number ss in
      let n : length ps ≡ length ss + 1 = omega (arith, points_length f (pos 0) (pos 0) (f.prints *ℤ f.start) ss) in
      ap (λ (m : ℕ). take m (filled no_point 65 ps)) (sym n) ∙ filled_take no_point 65 ps (omega (arith, n))

given_back : (o : Opening) (end : ℤ) (ss : List Section) → length ss ≤ 64 → gave_of (Ok (adjusted_of (closing o end ss))) ≡ closing o end ss ∷ []
given_back o end ss h = λ i. record { summary = (closing o end ss).summary; points = points_back (line_frame o end ss) o.start.number ss h i } ∷ []

-- a refused closing gives nothing
only_taken : (a : Result LineFigures Refusal) → gave_of a ≡ cond (eqb (number_of a) 0) (gave_of a) []
only_taken (Ok f) = refl
only_taken (Err e) = sym (either (eqb (number_of {A = LineFigures} (Err e)) 0) refl)

-- what a call that is taken gives, by whether it is a closing
beside : (r : Reading) (c : Call) {t : Bool} → is_closing c ≡ t → given r c ≡ cond t (Plain.figures_of (taken r c) ∷ []) []
beside r c e = ap (λ (k : Bool). cond k (Plain.figures_of (taken r c) ∷ []) []) e

none_beside : (r : Reading) (c : Call) → is_closing c ≡ false → [] ≡ cond (eqb (refusal r c) 0) (given r c) []
none_beside r c e = sym (either (eqb (refusal r c) 0) (beside r c e))

-- a closing of the book of a reading gives the same at once and by the figures of the book that it leaves
module _ (r : Reading) (k : Kept (plain_state r)) (c : Call) (shuts : is_closing c ≡ true) where
  abbrev closed : Reading
  closed = taken r c

  -- where it is taken, the next reading is the closed one
  reached : refusal r c ≡ 0 → next r c ≡ closed
  reached e = zero_cond (refusal r c) closed r e

  closed_kept : refusal r c ≡ 0 → Kept (plain_state closed)
  closed_kept e = subst (λ (q : Reading). Kept (plain_state q)) (reached e) (next_kept r c k)

  -- where it is taken, what the figures give is what the plain reading gives
  pub had_closing : (a : Result LineFigures Refusal) → (refusal r c ≡ 0 → a ≡ Ok (adjusted_of (Plain.figures_of closed))) → refusal r c ≡ 0 → gave_of a ≡ given r c
  had_closing a is e = ap gave_of (is e) ∙ given_back closed.opening closed.end (plain_state closed).sections (closed_kept e).few ∙ sym (beside r c shuts)

  one_given : (a : Result LineFigures Refusal) → (refusal r c ≡ 0 → a ≡ Ok (adjusted_of (Plain.figures_of closed)))
      → cond (eqb (refusal r c) 0) (gave_of a) [] ≡ cond (eqb (refusal r c) 0) (given r c) []
  one_given a is =
      by_test (eqb (refusal r c) 0) (λ t. cond t (gave_of a) [] ≡ cond t (given r c) []) (λ t. had_closing a is (eqb→eq (refusal r c) 0 t)) (λ t. refl)

  closing_gave : {b : Book} → b ≡ book_of r → (o : Outcome LineFigures) → Closes b c o → gave_of o.answer ≡ cond (eqb (refusal r c) 0) (given r c) []
  closing_gave {b} p o h =
      let n = h.number ∙ number r k c p in
      let figures : closed_by b c ≡ Plain.figures_of closed = ap (λ (v : LineState). closing_of (Rules.taken v c)) (held r p) ∙ ap closing_of (sym (follows r c)) in
      only_taken o.answer ∙ (λ i. cond (eqb (n i) 0) (gave_of o.answer) [])
      ∙ one_given o.answer (λ e. ok_of o.answer (n ∙ e) h.figures ∙ ap (λ (g : Closing). Ok (adjusted_of g)) figures)

  had : (x : Result (Unit {0}) Refusal) {m : Book} (a : Result LineFigures Refusal) → number_of x ≡ refusal r c → m ≡ book_of (next r c) → FiguresEnsures m a
      → had_of x a ≡ cond (eqb (refusal r c) 0) (given r c) []
  had x a n s f =
      (λ i. cond (eqb (n i) 0) (gave_of a) [])
      ∙ one_given a (λ e. figures_again closed (closed_kept e) (s ∙ ap book_of (reached e)) (closes_line r c shuts) a f)

-- ---- a list of calls

-- what a call's own function ensures: that it answers or, of a closing, that it closes
record Meant (b : Book) (c : Call) : Type 0 where
  answers : (o : Outcome (Unit {0})) → Ensures b c o → (is_closing c ≡ false) × Answers b c o
  closes : (o : Outcome LineFigures) → CloseEnsures b c o → (is_closing c ≡ true) × Closes b c o
  can_be : ((o : Outcome (Unit {0})) → Answers b c o → Ensures b c o) ⊎ ((o : Outcome LineFigures) → Closes b c o → CloseEnsures b c o)

meant : (b : Book) (c : Call) → Meant b c
meant b (close_line _ _) = record { answers = λ o h. absurd h; closes = λ o h. (refl, h); can_be = inr (λ o h. h) }
meant b (close_spur _) = record { answers = λ o h. absurd h; closes = λ o h. (refl, h); can_be = inr (λ o h. h) }
meant b c = record { answers = λ o h. (refl, h); closes = λ o h. absurd h; can_be = inl (λ o h. h) }

-- and what the functions that make any call ensure
answered : {b m : Book} {c : Call} {a : Result (Unit {0}) Refusal} → MadeOf b c a m → Answers b c (record { answer = a; book = m })
answered (by_value r h) = h
answered (in_place l k b c a m h) = record { number = h.0; book = h.1 }

record Same (r : Reading) (calls : List Call) (ns : List ℕ) (gs : List Closing) (e : Book) : Type 0 where
  numbers : ns ≡ refusals r calls
  gave : gs ≡ closings r calls
  book : e ≡ book_of (after r calls)

-- a call before a list: it answers n and gives g
first : {c : Call} {cs : List Call} {n : ℕ} {ns : List ℕ} {g gs : List Closing} {e : Book} (r : Reading) → n ≡ refusal r c
    → g ≡ cond (eqb (refusal r c) 0) (given r c) [] → Same (next r c) cs ns gs e → Same r (c ∷ cs) (n ∷ ns) (g ++ gs) e
first r n g rest = record { numbers = λ i. n i ∷ rest.numbers i; gave = λ i. g i ++ rest.gave i; book = rest.book }

traced : {b e : Book} {cs : List Call} {ns : List ℕ} {gs : List Closing} (r : Reading) → Kept (plain_state r) → b ≡ book_of r → Trace b cs ns gs e → Same r cs ns gs e
traced r k p done = record { numbers = refl; gave = refl; book = p }
traced r k p (call {b = b} {c = c} o h t) =
    let m = (meant b c).answers o h in
    let rest = traced (next r c) (next_kept r c k) (m.1.book ∙ left r k c p) t in
    first {g = []} r (m.1.number ∙ number r k c p) (none_beside r c m.0) rest
traced r k p (close {b = b} {c = c} o h t) =
    let m = (meant b c).closes o h in
    let rest = traced (next r c) (next_kept r c k) (m.1.book ∙ left r k c p) t in
    first r (m.1.number ∙ number r k c p) (closing_gave r k c m.0 p o m.1) rest
traced r k p (made {c = c} a n h t) =
    let m = answered h in
    let rest = traced (next r c) (next_kept r c k) (m.book ∙ left r k c p) t in
    first {g = []} r (m.number ∙ number r k c p) (none_beside r c n) rest
traced r k p (made_closing {c = c} a f shuts h g t) =
    let m = answered h in
    let number = m.number ∙ number r k c p in
    let book = m.book ∙ left r k c p in
    first r number (had r k c shuts a f number book g) (traced (next r c) (next_kept r c k) book t)

-- ---- 20 is not given

never_20 : (r : Reading) (cs : List Call) → any_of (λ n. eqb n 20) (refusals r cs) ≡ false
never_20 r [] = refl
never_20 r (c ∷ cs) = λ i. not-true (eqb (refusal r c) 20) (first_each (λ n. not (eqb n 20)) (tests (plain_state r) c) (tables (plain_state r) c).no_twenty refl) i || never_20 (next r c) cs i

-- ---- the claim

pub every_trace : EveryTrace
every_trace b e calls ns gs f t =
    let s = traced fresh_reading fresh_kept (f ∙ fresh_holds) t in
    let r : Reading = after fresh_reading calls in
    let h : state_of e ≡ plain_state r = held r s.book in
    let stage : r.stage ≡ e.line.stage = sym (ap (λ (v : LineState). v.line.stage) h) in
    record {
      numbers = s.numbers;
      given = s.gave;
      holds = h;
      book = s.book;
      totals =
          record {
            sums = ap (λ (v : LineState). v.line.sums) h ∙ sym (ap (λ (v : LineState). sums_of v.line.opening v.sections) h);
            count = sym (sections_count e.sections) ∙ ap (λ (v : LineState). length v.sections) h ∙ length-map r.sections (section_of r.opening.staffs);
          };
      never_20 = subst (λ (l : List ℕ). any_of (λ n. eqb n 20) l ≡ false) (sym s.numbers) (never_20 fresh_reading calls);
      closed = λ c. closed_once calls s.gave (stage ∙ c);
      again =
          λ c x given. figures_again r (calls_kept calls) s.book (stage ∙ c) x given
          ∙ ap (λ (g : Closing). Ok (adjusted_of g)) (same_figures (closed_once calls s.gave (stage ∙ c)));
      unclosed = λ n. s.gave ∙ none_given calls fresh_reading (λ c. n (sym stage ∙ c));
    }

-- ---- every list of calls has a trace

abbrev Made : Book → List Call → Type 0
Made b calls = (ns : List ℕ) × ((gs : List Closing) × ((e : Book) × Trace b calls ns gs e))

-- one call more, before a list that can be made of any book
made_first : (b : Book) (c : Call) (cs : List Call) → ((m : Book) → Made m cs) → Made b (c ∷ cs)
made_first b c cs rest = ⊎_elim other closing (meant b c).can_be
  where
    closing : ((o : Outcome LineFigures) → Closes b c o → CloseEnsures b c o) → Made b (c ∷ cs)
    closing k =
        let o = closing_made b c in
        let t = rest o.0.book in
        (number_of o.0.answer ∷ t.0, (gave_of o.0.answer ++ t.1.0, (t.1.1.0, close o.0 (k o.0 o.1) t.1.1.1)))

    other : ((o : Outcome (Unit {0})) → Answers b c o → Ensures b c o) → Made b (c ∷ cs)
    other k =
        let o = outcome_made b c in
        let t = rest o.0.book in
        (number_of o.0.answer ∷ t.0, (t.1.0, (t.1.1.0, call o.0 (k o.0 o.1) t.1.1.1)))

made_list : (calls : List Call) (b : Book) → Made b calls
made_list [] b = ([], ([], (b, done)))
made_list (c ∷ cs) b = made_first b c cs (made_list cs)

pub every_list_made : EveryListMade
every_list_made = ((fresh_book, refl), λ b calls. made_list calls b)

-- ---- refused calls

pub struck_out_of_book : StruckOutOfBook
struck_out_of_book b c d e calls ms ns fs gs f t g u =
    let x = every_trace b d (taken_only fresh_reading calls) ms fs f t in
    let y = every_trace c e calls ns gs g u in
    let same = struck_out calls in
    let none = ap (any_of (λ n. not (eqb n 0))) x.numbers ∙ all_taken calls fresh_reading in
    (none, (x.book ∙ ap book_of same.0 ∙ sym y.book, x.given ∙ same.1 ∙ sym y.given))
