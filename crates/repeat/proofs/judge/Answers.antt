-- `judge` is refused with 3 where the order or the instrument is none.
use Rattle.std.proofs.Common.{sym, ◌∙◌}
use Rattle.numbers.proofs.Machine.{stored_id}
use Rattle.repeat.proofs.Named.{judges_named, judges_no_order, judges_no_instrument, judges_at}
use Rattle.repeat.proofs.judge.Goals as goal

pub returns-in-Some-Some : goal.returns-in-Some-Some
returns-in-Some-Some c =
    let r = c.ranges in
    judges_at (stored_id r.order) (stored_id r.instrument) (stored_id r.g) (stored_id r.s)
    (judges_named _ _ _ _ _ _ c.in-Some-Some.class c.in-Some-Some.instrument c.judge_by.result c.in-Some-Some.ensures c.in-Some-Some.ensures' c.judge_by.ensures.number
    c.judge_by.ensures.given)

pub returns-in_default : goal.returns-in_default
returns-in_default c =
    let r = c.ranges in judges_at (stored_id r.order) (stored_id r.instrument) (stored_id r.g) (stored_id r.s) (judges_no_instrument _ _ _ _ _ _ c.in_default.ensures')

pub returns-in_default-2 : goal.returns-in_default-2
returns-in_default-2 c =
    let r = c.ranges in
    judges_at (stored_id r.order) (stored_id r.instrument) (stored_id r.g) (stored_id r.s) (judges_no_order _ _ _ _ _ _ (sym c.in_default.is-0 ∙ c.class_named.ensures))
