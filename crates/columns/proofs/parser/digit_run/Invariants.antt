-- What is left are digits exactly if all are, and makes with n the value of all.
use Rattle.std.proofs.Common.{◌≡◌, ◌<◌, ◌^◌, drop}
use Rattle.columns.specs.Decimals.{value_of}
use Rattle.columns.specs.code.Parser.{all_digits}
use Rattle.columns.proofs.parser.digit_run.Given as goal

abbrev pub invariant-loop-b : goal.invariant-loop-b
invariant-loop-b l = record {
  small : l.n < 10 ^ l.b-index;
  digits : all_digits l.bs ≡ all_digits (drop l.b-index l.bs);
  value : value_of 0 l.bs ≡ value_of l.n (drop l.b-index l.bs);
}
