-- Every list of calls: a line that it leaves closed was closed once and soundly, and would be in every print unit; and its refused calls can be struck out.
use mathlib.Core.Path.{◌≡◌, refl, sym, ap, subst, ◌∙◌}
use mathlib.Core.Bool.{Bool, true, false, not, cond}
use mathlib.Core.List.{List, [], ◌∷◌, ◌++◌, map}
use Prim.Native.Nat.{ℕ, ◌*◌, ◌<◌}
use Rattle.std.specs.declared.option.Option.{Option}
use Rattle.std.specs.Prelude.{Some, None}
use native.Mathlib.Omega.{arith}
use lib.Dec.{eqb, eqb→eq}
use lib.IntN.{ℤ, pos, ◌*ℤ◌, +ℤ_idl, *ℤ-zero}
use lib.Signed.{◌≤ℤ◌}
use Rattle.numbers.specs.Numbers.{any_of}
use Rattle.numbers.proofs.Tests.{by_test, holds, no_true, not-false}
use Rattle.numbers.proofs.Tables.{met}
use Rattle.station.specs.declared.Staffs.{Staffs}
use Rattle.station.specs.declared.Staffs.TheVariants.{Nominal, Measured}
use Rattle.station.specs.Station.{scale_of}
use Rattle.adjust.specs.declared.terms.Class.{Class}
use Rattle.adjust.specs.declared.terms.Class.TheVariants.{Third, Fourth, Spur}
use Rattle.adjust.specs.declared.Opening.{Opening}
use Rattle.adjust.specs.declared.Point.{Point}
use Rattle.adjust.specs.declared.Summary.{Summary}
use Rattle.adjust.specs.Terms.{terms_of}
use Rattle.adjust.specs.declared.Frame.{Frame}
use Rattle.adjust.specs.Prints.{prints_of}
use Rattle.adjust.specs.Line.{units_of, frame, closure, points, Closing, closing_by, line_length}
use Rattle.adjust.proofs.Lines.{line_sound, line_near, raw_heights_lem}
use Rattle.rules.specs.declared.Stage.{Stage}
use Rattle.rules.specs.declared.Stage.TheVariants.{Closed}
use Rattle.rules.specs.LineState.{LineState}
use Rattle.rules.specs.declared.call.Call.{Call}
use Rattle.rules.specs.declared.call.Call.TheVariants.{OpenLine as open_line, EndRun as end_run, DropRun as drop_run, DropSection as drop_section, CloseLine as close_line, OpenSpur as open_spur, CloseSpur as close_spur, Constants as constants, LiftSection as lift_section}
use Rattle.rules.specs.Rules.{is_closing, input_tests}
use Rattle.ledger.specs.Plain.{Reading, Awaited, fresh_reading, after, next, taken, refusal, plain_state, run_ended, refusals, figures_of, given, closings}
use Rattle.ledger.specs.Claims.{others, Ends, SoundClosing, EveryUnit, SpurHeights, ClosedBy, by_end, by_fin, ClosedOnce, EveryList, taken_only, StruckOut}
use Rattle.rules.proofs.Tables.{fails}
use Rattle.ledger.proofs.Follows.{recast}
use Rattle.ledger.proofs.Kept.{open_not_closed, fresh_not_closed, closed_long}

-- ---- a line that was closed refuses every call

-- the reading at another stage
abbrev staged : Reading → Stage → Reading
staged r s = record r { stage = s }

module _ (r : Reading) (e : r.stage ≡ Closed) where
  refuses : (c : Call) → eqb (refusal r c) 0 ≡ false
  refuses c = ap (λ (x : Stage). eqb (refusal (staged r x) c) 0) e ∙ go c
    where
      go : (c : Call) → eqb (refusal (staged r Closed) c) 0 ≡ false
      go drop_run = refl
      go drop_section = refl
      go lift_section = refl
      go (constants first second) = met (input_tests (constants first second)) 43 refl refl
      go c = met (input_tests c) 21 refl refl

  shut_stays : (cs : List Call) → after r cs ≡ r
  shut_stays [] = refl
  shut_stays (c ∷ cs) = rw (refuses c) (shut_stays cs)

  shut_gives : (cs : List Call) → closings r cs ≡ []
  shut_gives [] = refl
  shut_gives (c ∷ cs) = rw (refuses c) (shut_gives cs)

-- ---- which calls close a line

-- a closing that is taken leaves it closed
pub closes_line : (r : Reading) (c : Call) → is_closing c ≡ true → (taken r c).stage ≡ Closed
closes_line r (close_line m h) e = refl
closes_line r (close_spur m) e = refl
closes_line r c e = no_true e

-- ---- a line that is closed in the end was closed once

-- the closing taken among the calls cs from r on
record Found (r : Reading) (cs : List Call) : Type 0 where
  before : List Call
  call : Call
  later : List Call
  split : cs ≡ before ++ (call ∷ later)
  closing : is_closing call ≡ true
  accepted : refusal (after r before) call ≡ 0
  once : closings r cs ≡ figures_of (taken (after r before) call) ∷ []
  stays : after r cs ≡ taken (after r before) call

abbrev pub NotClosed : Reading → Type 0
NotClosed r = r.stage ≡ Closed → ⊥

-- calls that leave a line closed that was not
abbrev Finds : List Call → Type 0
Finds cs = (r : Reading) → NotClosed r → (after r cs).stage ≡ Closed → Found r cs

next_open : (r : Reading) (c : Call) → NotClosed r → NotClosed (taken r c) → NotClosed (next r c)
next_open r c n k = by_test (eqb (refusal r c) 0) (λ t. NotClosed (cond t (taken r c) r)) (λ t. k) (λ t. n)

-- behind a call that gives nothing
behind : (c : Call) (cs : List Call) (r : Reading) → cond (eqb (refusal r c) 0) (given r c) [] ≡ [] → Found (next r c) cs → Found r (c ∷ cs)
behind c cs r e f =
    record {
      before = c ∷ f.before;
      call = f.call;
      later = f.later;
      split = ap (λ (l : List Call). c ∷ l) f.split;
      closing = f.closing;
      accepted = f.accepted;
      once = ap (λ (l : List Closing). l ++ closings (next r c) cs) e ∙ f.once;
      stays = f.stays;
    }

ended_stage : (r : Reading) (class : Class) (waiting : Option Awaited) (n : ℤ) → (run_ended (recast r class waiting) n).stage ≡ r.stage
ended_stage r Third None n = refl
ended_stage r Fourth None n = refl
ended_stage r Spur None n = refl
ended_stage r class (Some w) n = refl

-- another call leaves it as far as it was, or open
stays_open : (r : Reading) (c : Call) → is_closing c ≡ false → NotClosed r → NotClosed (taken r c)
stays_open r (open_line o i m h p) e n = open_not_closed
stays_open r (open_spur o i m h p) e n = open_not_closed
stays_open r (constants first second) e n = open_not_closed
stays_open r (end_run m) e n = λ k. n (sym (ended_stage r r.opening.class r.waiting m) ∙ k)
stays_open r (close_line m h) e n = no_true (sym e)
stays_open r (close_spur m) e n = no_true (sym e)
stays_open r c e n = n

pub either : {A : Type 0} (t : Bool) {x y : A} → x ≡ y → cond t x y ≡ y
either true e = e
either false e = refl

-- what a call gives, by whether it is a closing and whether it is taken
abbrev beside : Reading → Call → Bool → Bool → List Closing
beside r c k t = cond t (cond k (figures_of (taken r c) ∷ []) []) []

found : (cs : List Call) → Finds cs
found [] r n e = absurd (n e)
found (c ∷ cs) r n e = go (found cs) (is_closing c) (eqb (refusal r c) 0) refl refl
  where
    go : Finds cs → (k t : Bool) → is_closing c ≡ k → eqb (refusal r c) 0 ≡ t → Found r (c ∷ cs)
    go find true true k t =
        let shut = closes_line r c k in
        record {
          before = [];
          call = c;
          later = cs;
          split = refl;
          closing = k;
          accepted = eqb→eq (refusal r c) 0 (holds t);
          once = rw (k, t) (ap (λ (l : List Closing). figures_of (taken r c) ∷ l) (shut_gives (taken r c) shut cs));
          stays = rw t (shut_stays (taken r c) shut cs);
        }
    go find true false k t = behind c cs r (rw t) (find (next r c) (rw t n) e)
    go find false t k u = behind c cs r (rw k (either (eqb (refusal r c) 0) refl)) (find (next r c) (next_open r c n (stays_open r c k n)) e)

-- ---- a line that is not closed in the end gave no closing

-- what one call gives, where the calls after it leave the line unclosed
gives_none : (c : Call) (cs : List Call) (r : Reading) → NotClosed (after r (c ∷ cs)) → cond (eqb (refusal r c) 0) (given r c) [] ≡ []
gives_none c cs r n = go (is_closing c) (eqb (refusal r c) 0) refl refl
  where
    go : (k t : Bool) → is_closing c ≡ k → eqb (refusal r c) 0 ≡ t → beside r c k t ≡ []
    go true true k t =
        let shut = closes_line r c k in
        let stays : after r (c ∷ cs) ≡ taken r c = rw t (shut_stays (taken r c) shut cs) in
        absurd (n (ap (λ (s : Reading). s.stage) stays ∙ shut))
    go false true k t = refl
    go k false e t = refl

pub none_given : (cs : List Call) (r : Reading) → NotClosed (after r cs) → closings r cs ≡ []
none_given [] r n = refl
none_given (c ∷ cs) r n = λ i. gives_none c cs r n i ++ none_given cs (next r c) n i

-- ---- and soundly

some_units : (c : Staffs) → 0 < 4 * scale_of c
some_units Nominal = omega arith
some_units (Measured first second) = omega arith

-- in any print unit
module _ (prints : ℕ) (v : LineState) where
  abbrev o : Opening
  o = v.line.opening

  -- the line's frame, and its closing, by whether it is tied to a known height
  abbrev framed : Bool → Frame
  framed t = frame (units_of o.staffs) (pos prints) o.start.height (record { closure = cond t (closure (units_of o.staffs) o.start.height v.line.end v.sections) (pos 0); distance = line_length v.sections })

  abbrev closed_with : Bool → Closing
  closed_with t =
      let s : Summary = (closing_by prints o v.line.end v.sections).summary in
      record { summary = record s { closure = pos prints *ℤ (framed t).closure }; points = points (framed t) o.start.number v.sections }

  module _ (h : pos 1 ≤ℤ line_length v.sections) where
    ends : (t : Bool) → Ends t prints v.line.end (closed_with t)
    ends true =
        let s = line_sound (4 * scale_of o.staffs) (some_units o.staffs) (pos prints) v.sections h o.start.height v.line.end in
        record { used_up = +ℤ_idl _ ∙ s.used_up; last = s.last }
    ends false = *ℤ-zero (pos prints)

    sound : SoundClosing prints v (closing_by prints o v.line.end v.sections)
    sound = record { figures = refl; long = h; near = line_near (4 * scale_of o.staffs) (some_units o.staffs) (pos prints) v.sections h o.start.height (framed (terms_of o.class).tied).closure; ends = ends (terms_of o.class).tied }

pub every_unit : EveryUnit
every_unit prints calls some e = sound prints (plain_state (after fresh_reading calls)) (closed_long calls e)

pub spur_heights : SpurHeights
spur_heights prints v gave s e =
    let heights : List Point → List ℤ = λ ps. map (λ (p : Point). p.height) (others ps) in
    let long = subst (λ (c : Closing). pos 1 ≤ℤ c.summary.distance) s.figures s.long in
    ap (λ (c : Closing). heights c.points) s.figures ∙ ap (λ (t : Bool). heights (closed_with prints v t).points) e
    ∙ raw_heights_lem (4 * scale_of v.line.opening.staffs) (some_units v.line.opening.staffs) prints v.line.opening.start.height (line_length v.sections) long v.sections

-- by END or by FIN: 41 tells which of them closes a line
closed_by_lem : (r : Reading) (c : Call) → is_closing c ≡ true → refusal r c ≡ 0 → ClosedBy r c
closed_by_lem r (close_line m h) k e = by_end m h (not-false (terms_of r.opening.class).tied (fails (plain_state r) (close_line m h) e 41))
closed_by_lem r (close_spur m) k e = by_fin m (fails (plain_state r) (close_spur m) e 41)
closed_by_lem r c k e = no_true k

-- told of what a list of calls gave
pub closed_once : (calls : List Call) {all : List Closing} → all ≡ closings fresh_reading calls → (after fresh_reading calls).stage ≡ Closed → ClosedOnce calls all
closed_once calls gave e =
    let f = found calls fresh_reading fresh_not_closed e in
    let r : Reading = taken (after fresh_reading f.before) f.call in
    record {
      before = f.before;
      call = f.call;
      later = f.later;
      split = f.split;
      closes = closed_by_lem (after fresh_reading f.before) f.call f.closing f.accepted;
      accepted = f.accepted;
      gave = figures_of r;
      once = gave ∙ f.once;
      sound = sound (prints_of r.opening.print_unit) (plain_state r) (subst (λ (s : Reading). pos 1 ≤ℤ line_length (plain_state s).sections) f.stays (closed_long calls e));
      stays = f.stays;
    }

pub every_list : EveryList
every_list calls e = closed_once calls refl e

-- the figures of the line are those that its closing gave
pub same_figures : {calls : List Call} {all : List Closing} (x : ClosedOnce calls all) → figures_of (after fresh_reading calls) ≡ x.gave
same_figures x = ap figures_of x.stays ∙ sym x.sound.figures

-- ---- refused calls

-- two lists of calls leave the same reading, and their closings gave the same
abbrev Same : Reading → List Call → List Call → Type 0
Same r xs ys = (after r xs ≡ after r ys) × (closings r xs ≡ closings r ys)

same_taken : (cs : List Call) (r : Reading) → Same r (taken_only r cs) cs
same_taken [] r = (refl, refl)
same_taken (c ∷ cs) r = go (same_taken cs) (eqb (refusal r c) 0) refl
  where
    go : ((s : Reading) → Same s (taken_only s cs) cs) → (b : Bool) → eqb (refusal r c) 0 ≡ b
        → Same r (cond b (c ∷ []) [] ++ taken_only (next r c) cs) (c ∷ cs)
    go g true e = ((g (next r c)).0, ap (λ (l : List Closing). cond (eqb (refusal r c) 0) (given r c) [] ++ l) (g (next r c)).1)
    go g false e = rw e (g r)

pub struck_out : StruckOut
struck_out calls = same_taken calls fresh_reading

-- and each call that is left is taken
pub all_taken : (cs : List Call) (r : Reading) → any_of (λ n. not (eqb n 0)) (refusals r (taken_only r cs)) ≡ false
all_taken [] r = refl
all_taken (c ∷ cs) r = go (all_taken cs) (eqb (refusal r c) 0) refl
  where
    go : ((s : Reading) → any_of (λ n. not (eqb n 0)) (refusals s (taken_only s cs)) ≡ false) → (b : Bool) → eqb (refusal r c) 0 ≡ b
        → any_of (λ n. not (eqb n 0)) (refusals r (cond b (c ∷ []) [] ++ taken_only (cond b (taken r c) r) cs)) ≡ false
    go g true e = rw e (g (taken r c))
    go g false e = g r
