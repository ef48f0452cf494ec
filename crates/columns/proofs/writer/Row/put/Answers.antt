-- A number is written into its field.
use Rattle.std.proofs.Common.{◌≡◌, ◌∙◌, ◌+◌, ◌-◌, ◌≤◌, sym, ap, length, get_or, arith, rules}
use Rattle.std.proofs.lemmas.Int.{to_z-of_z}
use lib.IntN.{pos}
use mir.Syntax.{w64}
use mir.Val.{SFits}
use Rattle.columns.specs.Lines.{columns_of}
use Rattle.columns.proofs.Lists.{put_whole}
use Rattle.columns.proofs.Fields.{length_blanks}
use Rattle.columns.proofs.Lines.{length_fields, columns_turn, fit_rest, part_fits, part_blank, length_put, rest_blank, put_field}
use Rattle.columns.proofs.writer.Row.put.Goals as goal

pub loop-i-init : goal.loop-i-init
loop-i-init c =
    let zs = c.args.self.now.numbers.now in
    let wide = c.args.self.now.wide in
    let all : length zs - 0 ≡ length zs = omega arith in
    let size = ap length c.requires.blank ∙ length_blanks (columns_of wide (length zs)) in
    record {
      fit = c.requires.fit;
      room = rw all (omega (arith, size));
      blank = rw all c.requires.blank;
      written = put_whole c.args.columns.now _ (length_fields wide zs c.requires.fit ∙ sym size);
    }

pub put_number-requires : goal.put_number-requires
put_number-requires c =
    let zs = c.args.self.now.numbers.now in
    let wide = c.args.self.now.wide in
    let i = c.loop-i.i in
    let h = c.loop-i-test.true in
    let fit : SFits w64 (get_or zs i (pos 0)) = search rules in
    let room : c.loop-i.next + c.width.result ≤ length c.loop-i.columns = omega (arith, columns_turn wide zs i h, c.width.ensures, c.loop-i.invariant.room) in
    record {
      fit = rw (to_z-of_z w64 (get_or zs i (pos 0)) fit) (part_fits wide zs i h c.loop-i.columns c.loop-i.next c.width.result c.width.ensures room c.loop-i.invariant.fit);
      blank = part_blank wide zs i h c.loop-i.columns c.loop-i.next c.width.result c.width.ensures room c.loop-i.invariant.blank;
    }

pub loop-i-preserved : goal.loop-i-preserved
loop-i-preserved c =
    let zs = c.args.self.now.numbers.now in
    let wide = c.args.self.now.wide in
    let i = c.loop-i.i in
    let h = c.loop-i-test.true in
    let d = c.loop-i.columns in
    let at = c.loop-i.next in
    let k = c.width.result in
    let fit : SFits w64 (get_or zs i (pos 0)) = search rules in
    let room : at + k ≤ length d = omega (arith, columns_turn wide zs i h, c.width.ensures, c.loop-i.invariant.room) in
    let is = rw (to_z-of_z w64 (get_or zs i (pos 0)) fit) at c.put_number.ensures in
    let size = length_put wide zs i h d at k c.width.ensures room c.put_number.new.field is c.loop-i.invariant.fit in
    record {
      fit = fit_rest wide zs i h c.loop-i.invariant.fit;
      room = omega (arith, columns_turn wide zs i h, c.width.ensures, c.loop-i.invariant.room, size);
      blank = rest_blank wide zs i h d at k c.width.ensures room c.put_number.new.field is c.loop-i.invariant.fit c.loop-i.invariant.blank;
      written = put_field wide zs i h d at k c.width.ensures room c.put_number.new.field is c.loop-i.invariant.fit ∙ c.loop-i.invariant.written;
    }
