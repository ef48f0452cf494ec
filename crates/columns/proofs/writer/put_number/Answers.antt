-- A number with a minus has a blank before its digits, and the minus takes its place.
use Rattle.std.proofs.Common.{◌≡◌, ◌≤◌, length, arith}
use Rattle.std.proofs.lemmas.Int.{to_z-of_z}
use lib.IntN.{nat_abs}
use mir.Syntax.{w64}
use Rattle.numbers.proofs.Parts.{test_lt}
use Rattle.columns.proofs.Fields.{minus_room, whole_length}
use Rattle.columns.proofs.writer.put_number.Goals as goal

module _ (c : goal.Then-x-lt0) where
  is : c.unsigned_abs.result ≡ nat_abs c.args.x
  is = rw (to_z-of_z w64 c.args.x c.ranges.x) at c.unsigned_abs.ensures.value

  room : 1 ≤ c.write_digits-first.result
  room =
      let minus = test_lt (rw (to_z-of_z w64 c.args.x c.ranges.x) at c.if-x-lt0.true) in
      minus_room (length c.args.field.now) c.args.x c.unsigned_abs.result is c.unsigned_abs.type_inv c.write_digits-first.result c.write_digits-first.ensures.start minus c.requires.fit

  long : length c.write_digits-first.new.buf ≡ length c.args.field.now
  long =
      whole_length (length c.args.field.now) c.args.x c.unsigned_abs.result is c.unsigned_abs.type_inv c.write_digits-first.result c.write_digits-first.ensures.start c.args.field.now c.write_digits-first.new.buf
      c.requires.blank c.write_digits-first.ensures.written c.write_digits-first.ensures.before

pub overflow_sub-field : goal.overflow_sub-field
overflow_sub-field c = room c

pub bounds-field-first : goal.bounds-field-first
bounds-field-first c = omega (arith, room c, long c, c.write_digits-first.ensures.start)
