-- A call is refused with the lowest number that applies, by its rank, and is taken where none applies.
use mathlib.Core.List.{◌++◌}
use Rattle.numbers.specs.Tables.{Lowest}
use Rattle.numbers.proofs.Tables.{first_lowest}
use Rattle.rules.specs.LineState.{LineState}
use Rattle.rules.specs.declared.call.Call.{Call}
use Rattle.rules.specs.Rules.{input_tests, state_tests, refusal, book_tests, book_refusal, rank}
use Rattle.rules.proofs.Tables.{tests, tables}
use Rattle.ledger.specs.Claims.{LowestGiven}

pub lowest : (v : LineState) (c : Call) → Lowest rank (input_tests c ++ state_tests v c) (refusal v c)
lowest v c = first_lowest rank (tests v c) 0 (tables v c).rising

pub book_lowest : LowestGiven
unfolding book_refusal
book_lowest v c = first_lowest rank (book_tests v c) 0 (tables v c).book_rising
