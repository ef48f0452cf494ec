-- What is promised of the points of a line: between two known heights (demand 3 of document 01), in any units, and of a spur (document 02, W-202).
-- The adjustment call's heights are those of such points (`adjusted_heights`).
use Rattle.std.specs.Prelude.{◌≡◌, List, [], ◌∷◌, map, ℕ, ◌*◌, ◌≤◌, ℤ, pos, neg_ℤ, nat_abs, ◌+ℤ◌, ◌-ℤ◌, ◌*ℤ◌}
use Rattle.numbers.specs.Numbers.{sum, last_of}
use Rattle.roots.specs.Round.{round_even}
use Rattle.adjust.specs.declared.Section.{Section}
use Rattle.adjust.specs.declared.Point.{Point}
use Rattle.adjust.specs.declared.Frame.{Frame}
use Rattle.adjust.specs.Line.{quarters, frame_of, exact_top, section_points}
use Rattle.adjust.specs.Call.{adjust_refusal}

-- each printed height lies within half a print unit of the exact one, and each correction within one print unit of the exact share,
-- −W × R / L: point by point with the sections, at running sums q and s
pub data Near (f : Frame) : ℤ → ℤ → List Section → List Point → Type 0 where
  no_section : {q s : ℤ} → Near f q s [] []
  next_section : {q s : ℤ} {x : Section} {p : Point} {xs : List Section} {ps : List Point}
      → 2 * nat_abs (f.units *ℤ f.total *ℤ p.height -ℤ exact_top f (q +ℤ x.height) (s +ℤ x.distance)) ≤ nat_abs (f.units *ℤ f.total)
      → nat_abs (p.correction *ℤ f.total +ℤ f.prints *ℤ f.closure *ℤ x.distance) ≤ nat_abs (f.units *ℤ f.total)
      → Near f (q +ℤ x.height) (s +ℤ x.distance) xs ps
      → Near f q s (x ∷ xs) (p ∷ ps)

abbrev pub corrections : List Point → ℤ
corrections ps = sum (map (λ (p : Point). p.correction) ps)

abbrev pub last_height : ℤ → List Point → ℤ
last_height h ps = last_of h (map (λ (p : Point). p.height) ps)

-- a spur's heights, 'start plus running Q, rounded to even': after the running sum q in these units to a millimetre, the start's height in it, printed in so many units to a millimetre
abbrev pub raw_heights : ℕ → ℕ → ℤ → List Section → List ℤ
raw_heights units prints q [] = []
raw_heights units prints q (x ∷ xs) = round_even (pos prints *ℤ (q +ℤ x.height)) units ∷ raw_heights units prints (q +ℤ x.height) xs

-- the points after the start, of the sections ss up to the known height `end`
pub record Sound (f : Frame) (end : ℤ) (ss : List Section) (ps : List Point) : Type 0 where
  -- the corrections use up the closure
  pub used_up : corrections ps ≡ neg_ℤ (f.prints *ℤ f.closure)
  -- the last height is the known one, in print units
  pub last : last_height (f.prints *ℤ f.start) ps ≡ f.prints *ℤ end
  pub near : Near f (pos 0) (pos 0) ss ps

-- document 02, W-214: of an adjustment that is taken, whatever print unit was asked for, the points are sound in every one; in the one asked for they have the heights that are given
abbrev pub EveryAdjustment : Type 0
EveryAdjustment =
    (prints : ℕ) (start end asked : ℤ) (ss : List Section) (places : ℕ) → 1 ≤ prints → adjust_refusal start end asked ss places ≡ 0
    → let f : Frame = frame_of quarters (pos prints) start end ss in Sound f end ss (section_points f ss)
