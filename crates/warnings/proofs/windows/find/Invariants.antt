-- Before section k is looked at, the numbers found and those from it on are all.
use Rattle.warnings.proofs.Found.{Found}
use Rattle.warnings.proofs.windows.find.Given as goal

abbrev pub invariant-loop-k : goal.invariant-loop-k
invariant-loop-k l = Found l.apart l.window l.sections l.k l.drift
