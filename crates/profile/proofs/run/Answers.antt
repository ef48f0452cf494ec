-- What is printed is a part of its buffer: the buffer keeps its length, and `printed_fits` bounds what is printed.
use Rattle.std.proofs.Common.{◌≡◌, ◌≤◌, List, ℕ, length, arith, length-take}
use Rattle.std.specs.declared.option.Option.{Option}
use Rattle.plotter.specs.Text.{printed_of}
use Rattle.plotter.proofs.Calls.{printed_fits}
use Rattle.profile.proofs.run.Goals as goal

fits : (input : List ℕ) (read : Option ℕ) {n : ℕ} → n ≡ length (printed_of input read) → n ≤ 1040
fits input read e = omega (arith, e, printed_fits input read)

pub slice_bounds-out-end : goal.slice_bounds-out-end
slice_bounds-out-end g c = omega (arith, fits c.read_input.new.buffer c.ok-read.result c.print_profile-n.ensures.value, c.print_profile-n.array_long)

pub slice_bounds-write_all-end : goal.slice_bounds-write_all-end
slice_bounds-write_all-end g c =
    omega (
      arith,
      fits c.read_input.new.buffer c.ok-read.result c.print_profile-n.ensures.value,
      c.print_profile-n.array_long,
      length-take c.print_profile-n.result c.print_profile-n.new.out,
    )
