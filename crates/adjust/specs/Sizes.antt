-- The most of each figure: document 01's where it has a range, and elsewhere so that all figures of up to 64 sections fit 64 bits.
use Rattle.std.specs.Prelude.{ℕ, ◌+◌, ◌*◌}

-- a known height, in mm
abbrev pub highest : ℕ
highest = 8999999

-- of a section: Q in quarter mm, R in half dm, D in half mm, or Q and D in tenths of these, and t. No section of a book made by calls has more
abbrev pub most_q : ℕ
most_q = 50000000

abbrev pub most_r : ℕ
most_r = 1200000

abbrev pub most_d : ℕ
most_d = 100000

abbrev pub most_t : ℕ
most_t = 500000 * (most_d * most_d) + 1

-- units to a millimetre, of Q and W and of printed heights, and the square of the parts of half a millimetre that D is in: documents 01 and 02 ask for no more
abbrev pub most_units : ℕ
most_units = 40

abbrev pub most_prints : ℕ
most_prints = 10

abbrev pub most_squared : ℕ
most_squared = 100

-- what a class of line allows of T for each section: none allows as much
abbrev pub most_allowed : ℕ
most_allowed = 1000000

-- of a line: T, ΣQ, L, W and a printed height
abbrev pub most_sum_t : ℕ
most_sum_t = most_t * 64

abbrev pub most_sum_q : ℕ
most_sum_q = most_q * 64

abbrev pub most_l : ℕ
most_l = most_r * 64

abbrev pub most_w : ℕ
most_w = most_units * highest + most_sum_q + most_units * highest

abbrev pub most_printed : ℕ
most_printed = most_prints * (most_units * highest + most_sum_q + most_w)
