-- Before each section, what is left to write are the points from its end on.
use Rattle.plotter.proofs.Written.{Going}
use Rattle.plotter.proofs.profile.put_sections.Given as goal

abbrev pub invariant-loop-x : goal.invariant-loop-x
invariant-loop-x l = Going l.fn.start l.sections l.initial.buf l.buf l.mark l.at l.x-index
