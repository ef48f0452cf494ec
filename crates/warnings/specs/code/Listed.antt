-- What fits a line of a warning: no section has a number above 64.
use Rattle.std.specs.Prelude.{◌≡◌, false, not, List, ℕ, leb}
use Rattle.numbers.specs.Numbers.{any_of}

abbrev pub numbers_small : List ℕ → Type 0
numbers_small ks = any_of (λ (k : ℕ). not (leb k 64)) ks ≡ false
