-- What follows the blanks is the same field.
use Rattle.std.proofs.Common.{◌≡◌, ◌≤◌, length}
use Rattle.columns.specs.Decimals.{field_of}
use Rattle.columns.proofs.parser.read_field.Given as goal

abbrev pub invariant-loop-bs : goal.invariant-loop-bs
invariant-loop-bs l = record {
  short : length l.bs ≤ 18;
  same_field : field_of l.bs ≡ field_of l.field;
}

abbrev pub decreases-loop-bs : goal.decreases-loop-bs
decreases-loop-bs l = length l.bs
