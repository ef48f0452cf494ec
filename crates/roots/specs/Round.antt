-- Rounding to the nearest whole number, a tie going to the even one.
use Rattle.std.specs.Prelude.{◌≡◌, cond, ℕ, ◌+◌, ◌*◌, ◌/◌, ◌%◌, ◌≤◌, min, max, ltb, ℤ, pos, negsuc, nat_abs, ◌+ℤ◌, ◌-ℤ◌, ◌*ℤ◌}

-- r is the whole number nearest to n / d; where two are nearest, the even one
pub record IsRound (n : ℤ) (d : ℕ) (r : ℤ) : Type 0 where
  pub near : 2 * nat_abs (pos d *ℤ r -ℤ n) ≤ d
  pub even : 2 * nat_abs (pos d *ℤ r -ℤ n) ≡ d → nat_abs r % 2 ≡ 0

-- n / d rounded down, for d from 1 on; negsuc a is −(a + 1)
unfoldable pub floor_div : ℤ → ℕ → ℤ
floor_div (pos a) d = pos (a / d)
floor_div (negsuc a) d = negsuc (a / d)

-- the number that `IsRound`, for d from 1 on: the floor q, or q + 1 where what is left over q is above half of d, or is half of it and q is odd
unfoldable pub round_even : ℤ → ℕ → ℤ
unfolding floor_div
round_even n d =
    let q : ℤ = floor_div n d in
    let left : ℕ = nat_abs (n -ℤ pos d *ℤ q) in
    cond (ltb d (2 * left + nat_abs q % 2)) (q +ℤ pos 1) q

-- twice what is left over a divisor fits 64 bits for divisors up to this one
abbrev pub greatest_divisor : ℕ
greatest_divisor = 4000000000000000000

-- the divisors that `round_half_even` takes are 1 to 4 × 10¹⁸: any other number stands for the nearest of these
abbrev pub divisor : ℤ → ℕ
divisor (pos d) = min greatest_divisor (max 1 d)
divisor (negsuc d) = 1
