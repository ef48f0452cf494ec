-- The numbers left fit, their columns are blank, and with their fields all are written.
use Rattle.std.proofs.Common.{◌≡◌, ◌+◌, ◌-◌, true, length, drop}
use Rattle.numbers.specs.Numbers.{put_at}
use Rattle.columns.specs.Decimals.{blanks}
use Rattle.columns.specs.Lines.{fields, all_fit, columns_of}
use Rattle.columns.proofs.writer.Row.put.Given as goal

abbrev pub invariant-loop-i : goal.invariant-loop-i
invariant-loop-i l = record {
  fit : all_fit l.self.wide (drop l.i l.self.numbers.now) ≡ true;
  room : l.next + columns_of l.self.wide (length l.self.numbers.now - l.i) ≡ length l.columns;
  blank : drop l.next l.columns ≡ blanks (columns_of l.self.wide (length l.self.numbers.now - l.i));
  written : put_at l.columns l.next (fields l.self.wide (drop l.i l.self.numbers.now)) ≡ fields l.self.wide l.self.numbers.now;
}
