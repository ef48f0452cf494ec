-- Before each number, what is left to write are the lines from it on.
use Rattle.std.proofs.Common.{◌≡◌, ◌*◌, drop}
use Rattle.fieldbook.proofs.Written.{Left}
use Rattle.warnings.specs.code.Listed.{numbers_small}
use Rattle.warnings.proofs.Lines.{warnings_left}
use Rattle.warnings.proofs.printing.put_firsts.Given as goal

abbrev pub invariant-loop-number : goal.invariant-loop-number
invariant-loop-number l =
    record {
      room : l.at ≡ 84 * l.number-index;
      fit : numbers_small (drop l.number-index l.firsts);
      left : Left (warnings_left l.firsts 0) l.initial.out (warnings_left l.firsts l.number-index) l.out l.at;
    }
