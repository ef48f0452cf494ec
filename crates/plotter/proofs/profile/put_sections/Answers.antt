-- The point at the end of section x is written, and then no section is left.
use Rattle.std.proofs.Common.{arith}
use Rattle.fieldbook.proofs.Written.{part_put, left_none}
use Rattle.plotter.specs.Profile.{mark_bytes}
use Rattle.plotter.proofs.Written.{mark_long, going_next, none_left}
use Rattle.plotter.proofs.profile.put_sections.Goals as goal

pub overflow_add-at : goal.overflow_add-at
overflow_add-at c = omega (arith, c.put_mark-at.ensures.value, mark_long c.next-mark.result)

pub loop-x-preserved : goal.loop-x-preserved
loop-x-preserved c =
    let l = c.loop-x in
    let m = c.next-mark.result in
    let after = c.put_mark-at.ensures in
    let room = c.requires.0 in
    let is = l.invariant.room in
    going_next c.args.sections.now l.x-index c.loop-x-test.true l.invariant (omega (arith, c.loop-x-test.true, l.auto.buf)) c.next-mark.ensures
    (part_put l.buf c.put_mark-at.new.buf (mark_bytes m) l.at after.buf_after) (omega (arith, after.value, mark_long m))

pub returns : goal.returns
returns c = left_none c.loop-x.invariant.left (none_left c.loop-x.mark c.args.sections.now c.loop-x.x-index c.loop-x-test.false)
