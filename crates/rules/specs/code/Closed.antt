-- Closing, with or without a known end: what END and FIN have in common. No rule of document 01.
use Rattle.std.specs.Prelude.{Bool, List, ℕ, ℤ, Some, None}
use Rattle.std.specs.declared.option.Option.{Option}
use Rattle.rules.specs.declared.call.Call.{Call}
use Rattle.rules.specs.declared.call.Call.TheVariants.{CloseLine as close_line, CloseSpur as close_spur}
use Rattle.rules.specs.Rules.{input_tests}

-- by END on a known height, by FIN where there is none
abbrev pub closing_on : ℤ → Option ℤ → Call
closing_on number (Some end) = close_line number end
closing_on number None = close_spur number

abbrev pub close_input_tests : ℤ → Option ℤ → List (ℕ × Bool)
close_input_tests number end = input_tests (closing_on number end)
