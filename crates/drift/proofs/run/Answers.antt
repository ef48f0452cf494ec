-- What is printed is a part of its buffer: the buffer keeps its length, and `printed_fits` bounds what is printed.
use Rattle.std.proofs.Common.{◌≡◌, ◌≤◌, List, ℕ, ℤ, length, arith, length-take}
use Rattle.std.specs.declared.option.Option.{Option}
use Rattle.warnings.specs.Text.{printed_of}
use Rattle.warnings.proofs.Texts.{printed_fits}
use Rattle.drift.proofs.run.Goals as goal

fits : (input : List ℕ) (read : Option ℕ) (w : ℤ) {n : ℕ} → n ≡ length (printed_of input read w) → n ≤ 5292
fits input read w e = omega (arith, e, printed_fits input read w)

pub slice_bounds-out-end : goal.slice_bounds-out-end
slice_bounds-out-end g c = omega (arith, fits c.read_input.new.buffer c.ok-read.result _ c.print_drift-n.ensures.value, c.print_drift-n.array_long)

pub slice_bounds-write_all-end : goal.slice_bounds-write_all-end
slice_bounds-write_all-end g c =
    omega (
      arith,
      fits c.read_input.new.buffer c.ok-read.result _ c.print_drift-n.ensures.value,
      c.print_drift-n.array_long,
      length-take c.print_drift-n.result c.print_drift-n.new.out,
    )
