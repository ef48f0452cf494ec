-- All fields are numbers exactly if those left are, and with these the values are all numbers.
use Rattle.std.proofs.Common.{◌≡◌, ◌+◌, ◌-◌, ◌*◌, length, drop}
use Rattle.numbers.specs.Numbers.{put_at}
use Rattle.columns.specs.Records.{zeros, all_numbers, numbers_in}
use Rattle.columns.proofs.parser.read_numbers.Given as goal

abbrev pub invariant-loop-i : goal.invariant-loop-i
invariant-loop-i l = record {
  places : length l.values ≡ 10;
  numbers : all_numbers l.n (drop 3 l.line) ≡ all_numbers (l.n - l.i) (drop (3 + 8 * l.i) l.line);
  values : put_at l.values l.i (numbers_in (l.n - l.i) (drop (3 + 8 * l.i) l.line)) ≡ put_at zeros 0 (numbers_in l.n (drop 3 l.line));
}
