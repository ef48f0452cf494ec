-- Stations that are dropped stand in no list, nor do those of a section that is lifted: after drop run, after drop section and after a lift the lists are those from before.
use mathlib.Core.Path.{◌≡◌, refl, ap, ap₂, ◌∙◌}
use mathlib.Core.Bool.{false, not, cond, ◌||◌}
use mathlib.Core.List.{List, [], ◌∷◌, ◌++◌, map}
use Rattle.std.specs.declared.option.Option.{Option}
use Rattle.std.specs.Prelude.{None}
use Prim.Native.Nat.{ℕ}
use lib.Dec.{eqb}
use lib.ListN.{length}
use Rattle.numbers.specs.Numbers.{but_last}
use Rattle.numbers.proofs.Last.{but_last_more}
use Rattle.numbers.proofs.Tables.{zero_cond}
use Rattle.adjust.specs.declared.Section.{Section}
use Rattle.rules.specs.declared.Stage.{Stage}
use Rattle.rules.specs.declared.Stage.TheVariants.{Open}
use Rattle.rules.specs.LineState.{is_open, is_empty, is_return}
use Rattle.rules.specs.declared.call.Call.{Call}
use Rattle.rules.specs.declared.call.Call.TheVariants.{DropRun as drop_run, DropSection as drop_section, LiftSection as lift_section}
use Rattle.ledger.specs.Plain.{Reading, Levelled, Awaited, section_of, waiting_of, after, next, taken, refusal, with_lists}
use Rattle.ledger.specs.Claims.{RunDropped, SectionDropped, SectionLifted}

pub after_append : (r : Reading) (xs ys : List Call) → after r (xs ++ ys) ≡ after (after r xs) ys
after_append r [] ys = refl
after_append r (x ∷ xs) ys = after_append (next r x) xs ys

-- an open line takes a call whose one test is 21
takes : (c : Call) → ((s : Reading) → refusal s c ≡ cond (not (is_open s.stage)) 21 0) → (s : Reading) → s.stage ≡ Open → next s c ≡ taken s c
takes c only s opened =
    ap (λ (n : ℕ). cond (eqb n 0) (taken s c) s) (only s ∙ ap (λ (x : Stage). cond (not (is_open x)) 21 0) opened)

pub run_dropped : RunDropped
run_dropped r calls opened sections waiting =
    let s : Reading = after r calls in
    after_append r calls (drop_run ∷ []) ∙ takes drop_run (λ x. refl) s opened
    ∙ ap₂ (λ (ss : List Levelled) (w : Option Awaited). with_lists s ss w []) sections waiting

pub section_dropped : SectionDropped
section_dropped r calls opened sections =
    let s : Reading = after r calls in
    after_append r calls (drop_section ∷ []) ∙ takes drop_section (λ x. refl) s opened ∙ ap (λ (ss : List Levelled). with_lists s ss None []) sections

-- ---- a lift, which also asks for a section, and for nothing that is present or waits

lifts : (s : Reading) → s.stage ≡ Open → (xs : List Levelled) (x : Levelled) → s.sections ≡ xs ++ (x ∷ []) → s.waiting ≡ None → s.present ≡ [] → next s lift_section ≡ taken s lift_section
lifts s opened xs x sections waiting present = zero_cond (refusal s lift_section) (taken s lift_section) s taken_so
  where
    f : Levelled → Section
    f = section_of s.opening.staffs

    some : (ys : List Levelled) → is_empty (map f (ys ++ (x ∷ []))) ≡ false
    some [] = refl
    some (y ∷ ys) = refl

    one : is_empty (map f s.sections) ≡ false
    one = ap (λ (l : List Levelled). is_empty (map f l)) sections ∙ some xs

    taken_so : refusal s lift_section ≡ 0
    taken_so = λ i. cond (not (is_open (opened i))) 21 (cond (one i || not (eqb (length (present i)) 0) || is_return (waiting_of s.opening.staffs (waiting i))) 53 0)

pub section_lifted : SectionLifted
section_lifted r calls x opened sections waiting present =
    let s : Reading = after r calls in
    after_append r calls (lift_section ∷ [])
    ∙ lifts s opened r.sections x sections waiting present
    ∙ (λ i. with_lists s ((ap but_last sections ∙ but_last_more r.sections x) i) (waiting i) (present i))
