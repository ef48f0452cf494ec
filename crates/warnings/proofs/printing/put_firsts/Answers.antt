-- A number's line is written, and then no number is left.
use Rattle.std.proofs.Common.{◌≡◌, ◌+◌, ◌≤◌, get_or, arith}
use Rattle.fieldbook.proofs.Written.{part_put, left_turn, left_none}
use Rattle.warnings.specs.Text.{drift_line}
use Rattle.warnings.proofs.Lines.{warnings_left, warnings_turn, no_warning_left, warning_long, first_small, others_small}
use Rattle.warnings.proofs.printing.put_firsts.Goals as goal

pub put_first-at-requires : goal.put_first-at-requires
put_first-at-requires c =
    let small = first_small c.args.firsts.now c.loop-number.number-index c.loop-number-test.true c.loop-number.invariant.fit in
    (omega (arith, c.requires.0, c.loop-number.invariant.room), small)

module _ (c : goal.After-slice_known-in-loop-number-1) where
  small : get_or c.args.firsts.now c.loop-number.number-index 0 ≤ 64
  small = first_small c.args.firsts.now c.loop-number.number-index c.loop-number-test.true c.loop-number.invariant.fit

  long : c.put_first-at.result ≡ 84
  long = omega (arith, c.put_first-at.ensures.value, warning_long (get_or c.args.firsts.now c.loop-number.number-index 0) small)

pub overflow_add-at : goal.overflow_add-at
overflow_add-at c = omega (arith, long c)

pub loop-number-preserved : goal.loop-number-preserved
loop-number-preserved c =
    let ks = c.args.firsts.now in
    let k = c.loop-number.number-index in
    let h = c.loop-number-test.true in
    let p = drift_line (get_or ks k 0) in
    let after = c.put_first-at.ensures in
    let is = long c in
    record {
      room = omega (arith, is, c.loop-number.invariant.room);
      fit = others_small ks k h c.loop-number.invariant.fit;
      left = left_turn c.loop-number.invariant.left p (warnings_left ks (k + 1)) (warnings_turn ks k h) (omega (arith, is, after.value, c.loop-number.invariant.room, c.requires.0))
          (part_put c.loop-number.out c.put_first-at.new.out p c.loop-number.at after.buf_after) (omega (arith, after.value));
    }

pub returns : goal.returns
returns c = left_none c.loop-number.invariant.left (no_warning_left c.args.firsts.now c.loop-number.number-index (omega arith))
