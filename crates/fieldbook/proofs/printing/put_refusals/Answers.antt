-- Line k's refusal is written where there is one, and then no refusal is left.
use Rattle.std.proofs.Common.{◌+◌, ◌∙◌, get_or, arith}
use Rattle.textbook.specs.Text.{RefusedLine}
use Rattle.fieldbook.specs.Report.{ref_line}
use Rattle.fieldbook.proofs.Bytes.{ref_short}
use Rattle.fieldbook.proofs.Written.{part_put, left_turn, left_same, left_none, refusals_left, refused_turn, taken_turn, no_refusal_left}
use Rattle.fieldbook.proofs.printing.put_refusals.Goals as goal
use Rattle.fieldbook.proofs.printing.put_refusals.Goals.{then-number-ne0, else-number-ne0}

pub overflow_add-at : goal.overflow_add-at
overflow_add-at c = omega (arith, ref_short (record { line = c.loop-line.line; number = get_or c.args.numbers.now c.loop-line.line 0 }), c.put_refusal-at.ensures.value)

pub loop-line-preserved : goal.loop-line-preserved
loop-line-preserved c =
    let ns = c.args.numbers.now in
    let k = c.loop-line.line in
    let l = c.loop-line.invariant in
    elim c.if-number-ne0.branch [
      | then-number-ne0 w ↦
          let x : RefusedLine = record { line = k; number = get_or ns k 0 } in
          let short = ref_short x in
          let after = w.put_refusal-at.ensures in
          record {
            room = omega (arith, l.room, short, after.value, w.at-is);
            left = left_turn l.left (ref_line x) (refusals_left ns (k + 1)) (refused_turn ns k (omega arith) w.if-number-ne0.true) (omega (arith, l.room, short))
                (w.buf-is ∙ part_put c.loop-line.buf w.put_refusal-at.new.buf (ref_line x) c.loop-line.at after.buf_after) (omega (arith, after.value, w.at-is));
          }
      | else-number-ne0 w ↦
          record {
            room = omega (arith, l.room, w.at-is);
            left = left_same l.left (taken_turn ns k (omega arith) w.if-number-ne0.false) w.buf-is w.at-is;
          }
    ]

pub returns : goal.returns
returns c = left_none c.loop-line.invariant.left (no_refusal_left c.args.numbers.now c.loop-line.line (omega arith))
