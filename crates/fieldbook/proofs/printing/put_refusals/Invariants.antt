-- Before each line, what is left to write are the refusals from it on.
use Rattle.std.proofs.Common.{◌*◌, ◌≤◌}
use Rattle.fieldbook.proofs.Written.{Left, refusals_left}
use Rattle.fieldbook.proofs.printing.put_refusals.Given as goal

abbrev pub invariant-loop-line : goal.invariant-loop-line
invariant-loop-line l =
    record {
      room : l.at ≤ 84 * l.line;
      left : Left (refusals_left l.numbers 0) l.initial.buf (refusals_left l.numbers l.line) l.buf l.at;
    }
