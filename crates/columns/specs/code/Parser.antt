-- The parts of a field as its parser reads them, each in one loop or branch; proofs/FieldParts.antt shows how they make up `field_of`.
use Rattle.std.specs.Prelude.{Bool, true, false, cond, Some, None, List, [], ◌∷◌, ℕ, zero, suc, leb, ℤ, pos, negsuc}
use Rattle.std.specs.declared.option.Option.{Option}
use Rattle.columns.specs.Decimals.{value_of, field_of}

abbrev pub is_digit : ℕ → Bool
is_digit b = cond (leb 48 b) (leb b 57) false

unfoldable pub all_digits : List ℕ → Bool
all_digits [] = true
all_digits (b ∷ bs) = cond (is_digit b) (all_digits bs) false

-- the number of a run of digits, leading zeros allowed
unfoldable pub digit_run : List ℕ → Option ℤ
digit_run bs = cond (all_digits bs) (Some (pos (value_of 0 bs))) None

-- a number with neither blanks nor a minus
unfoldable pub natural_of : List ℕ → Option ℤ
natural_of bs = cond (all_digits bs) (field_of bs) None

-- what a minus makes of the number after it: there is no −0
unfoldable pub negated : Option ℤ → Option ℤ
negated (Some (pos zero)) = None
negated (Some (pos (suc n))) = Some (negsuc n)
negated (Some (negsuc n)) = None
negated None = None
