-- The tag and the fields, over a blank line.
use Rattle.columns.specs.Decimals.{blanks}
use Rattle.columns.specs.Lines.{line_end}
use Rattle.columns.proofs.Lines.{fields_blank, line_built}
use Rattle.columns.proofs.writer.write_line.Goals as goal

pub put-requires-clause-blank : goal.put-requires-clause-blank
unfolding line_end blanks
put-requires-clause-blank c =
    fields_blank c.args.tag.now c.args.row.now.numbers.now c.args.row.now.wide c.requires.fit c.copy_from_slice.ensures.after c.split_at_mut-front.ensures.back c.columns.result c.columns.ensures

pub returns : goal.returns
unfolding line_end blanks
returns c =
    line_built c.args.tag.now c.args.row.now.numbers.now c.args.row.now.wide c.requires.fit c.copy_from_slice.ensures.after c.split_at_mut-front.ensures.back c.columns.result c.columns.ensures c.copy_from_slice-2.ensures.after c.put.ensures
