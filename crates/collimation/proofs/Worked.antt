-- The collimation test at work: Table B7 of GB 12898-91, and both sides of each limit.
use mathlib.Core.Path.{◌≡◌, refl}
use mathlib.Core.List.{List, [], ◌∷◌, map}
use Prim.Native.Nat.{ℕ, suc}
use lib.IntN.{ℤ, pos, neg_ℤ, ◌+ℤ◌}
use Rattle.numbers.specs.Tables.{first_of}
use Rattle.collimation.specs.Collimation.{Collimation, collimation_of, eight_delta, within_angle, angle_tests}

abbrev answer : Collimation → ℕ
answer c = first_of (angle_tests c)

abbrev table_b7 : Collimation
table_b7 = collimation_of (pos 5937 ∷ pos 5951 ∷ pos 6043 ∷ pos 6067 ∷ pos 6800 ∷ pos 40300 ∷ [])

pub table_b7_lem : eight_delta table_b7 ≡ neg_ℤ (pos 10)
table_b7_lem = refl

pub table_b7_taken : answer table_b7 ≡ 0
unfolding within_angle
table_b7_taken = refl

-- ---- 45

-- a U, read on A from I2
abbrev apart : ℕ → ℕ → ℤ → Collimation
apart d1 d2 u = collimation_of (pos 6000 ∷ pos 6000 ∷ (pos 6000 +ℤ u) ∷ pos 6000 ∷ pos d1 ∷ pos d2 ∷ [])

-- of a U below −low, −low, high, and one above
abbrev ends : ℕ → ℕ → ℕ → ℕ → List ℕ
ends d1 d2 low high = map (λ u. answer (apart d1 d2 u)) (neg_ℤ (pos (suc low)) ∷ neg_ℤ (pos low) ∷ pos high ∷ pos (suc high) ∷ [])

-- at the distances of the table, and at the least and the greatest of each
pub passing : ends 6800 40300 25 26 ∷ ends 5000 40000 26 28 ∷ ends 5000 50000 33 36 ∷ ends 7000 40000 24 26 ∷ ends 7000 50000 31 34 ∷ []
    ≡ (45 ∷ 0 ∷ 0 ∷ 45 ∷ []) ∷ (45 ∷ 0 ∷ 0 ∷ 45 ∷ []) ∷ (45 ∷ 0 ∷ 0 ∷ 45 ∷ []) ∷ (45 ∷ 0 ∷ 0 ∷ 45 ∷ []) ∷ (45 ∷ 0 ∷ 0 ∷ 45 ∷ []) ∷ []
unfolding within_angle
passing = refl

-- ---- 44

-- all four sums alike: U is 0
abbrev level : ℤ → ℕ → ℕ → Collimation
level s d1 d2 = collimation_of (s ∷ s ∷ s ∷ s ∷ pos d1 ∷ pos d2 ∷ [])

pub sums : map (λ s. answer (level s 6800 40300)) (neg_ℤ (pos 1) ∷ pos 0 ∷ pos 12000 ∷ pos 12001 ∷ []) ≡ 44 ∷ 0 ∷ 0 ∷ 44 ∷ []
unfolding within_angle
sums = refl

pub near : map (λ d. answer (level (pos 6000) d 40300)) (4999 ∷ 5000 ∷ 7000 ∷ 7001 ∷ []) ≡ 44 ∷ 0 ∷ 0 ∷ 44 ∷ []
unfolding within_angle
near = refl

pub far : map (λ d. answer (level (pos 6000) 6800 d)) (39999 ∷ 40000 ∷ 50000 ∷ 50001 ∷ []) ≡ 44 ∷ 0 ∷ 0 ∷ 44 ∷ []
unfolding within_angle
far = refl
