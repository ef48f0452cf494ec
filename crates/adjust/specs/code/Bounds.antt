-- What keeps the figures of a line in 64 bits: bounds that the code's private functions ask for. No rule of document 01.
use Rattle.std.specs.Prelude.{◌≡◌, false, List, length, ℕ, ◌*◌, ◌≤◌, ℤ, pos, nat_abs, ◌≤ℤ◌}
use Rattle.adjust.specs.declared.Section.{Section}
use Rattle.adjust.specs.declared.Point.{Point}
use Rattle.adjust.specs.declared.Frame.{Frame}
use Rattle.adjust.specs.Sizes.{highest, most_q, most_r, most_units, most_prints, most_l, most_w, most_printed}
use Rattle.adjust.specs.Sections.{leg_fits, section_fits, any_outside}

-- from 1 to k
pub record OneTo (k : ℕ) (n : ℤ) : Type 0 where
  pub least : pos 1 ≤ℤ n
  pub most : nat_abs n ≤ k

-- at most 64 sections, Q and R of each in the wider range
pub record Fits (ss : List Section) : Type 0 where
  pub few : length ss ≤ 64
  pub legs : any_outside leg_fits ss ≡ false

-- and D too
pub record Fitted (ss : List Section) : Type 0 where
  pub few : length ss ≤ 64
  pub sections : any_outside section_fits ss ≡ false

-- at least one section, and both heights of at most 8,999,999 either way
pub record Between (start end : ℤ) (ss : List Section) : Type 0 where
  pub some : 1 ≤ length ss
  pub fits : Fits ss
  pub start_size : nat_abs start ≤ highest
  pub end_size : nat_abs end ≤ highest

pub record LegBounds (x : Section) : Type 0 where
  pub height : nat_abs x.height ≤ most_q
  pub long : pos 1 ≤ℤ x.distance
  pub distance : nat_abs x.distance ≤ most_r

-- a frame of up to 64 sections
pub record Framed (f : Frame) : Type 0 where
  pub units : OneTo most_units f.units
  pub prints : OneTo most_prints f.prints
  pub start : nat_abs f.start ≤ highest
  pub closure : nat_abs f.closure ≤ most_w
  pub total : OneTo most_l f.total

-- a distance that is on the line
pub record Along (f : Frame) (s : ℤ) : Type 0 where
  pub begun : pos 0 ≤ℤ s
  pub within : s ≤ℤ f.total

-- the running sum of Q and the last point after k of up to 64 sections
pub record Reached (f : Frame) (k : ℕ) (q : ℤ) (p : Point) : Type 0 where
  pub height : nat_abs q ≤ most_q * k
  pub along : Along f p.distance
  pub printed : nat_abs p.height ≤ most_printed
