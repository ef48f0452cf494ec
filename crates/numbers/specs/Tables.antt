-- Tables of tests: a call's rules, each with its refusal number, in the order in which they are tested; and what 'the lowest number that applies' means.
use Rattle.std.specs.Prelude.{◌≡◌, ◌⊎◌, Bool, true, cond, List, [], ◌∷◌, ℕ, ◌≤◌}

-- the number of the first test that holds, 0 where none does
abbrev pub first_of : List (ℕ × Bool) → ℕ
first_of [] = 0
first_of (t ∷ ts) = cond t.1 t.0 (first_of ts)

-- a test of the table with the number n holds
abbrev pub Applies : ℕ → List (ℕ × Bool) → Type 0
Applies n [] = ⊥
Applies n (t ∷ ts) = ((t.0 ≡ n) × (t.1 ≡ true)) ⊎ Applies n ts

-- n is 0 where nothing applies; otherwise n applies, and nothing that applies stands lower by `rank`
pub data Lowest (rank : ℕ → ℕ) (ts : List (ℕ × Bool)) : ℕ → Type 0 where
  none_applies : ((m : ℕ) → Applies m ts → ⊥) → Lowest rank ts 0
  applies : {n : ℕ} → Applies n ts → ((m : ℕ) → Applies m ts → rank n ≤ rank m) → Lowest rank ts n
