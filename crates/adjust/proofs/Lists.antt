-- Sections in the wider range, one and all, and a point for each.
use mathlib.Core.Path.{◌≡◌, refl, ap}
use mathlib.Core.Bool.{true, ◌&&◌}
use mathlib.Core.List.{List, [], ◌∷◌}
use Prim.Native.Nat.{suc, ◌≤◌}
use native.Mathlib.Omega.{arith}
use lib.ListN.{length}
use lib.IntN.{ℤ, pos, nat_abs, ◌+ℤ◌}
use lib.Signed.{◌≤ℤ◌, le_z}
use borrow.Author.Tests.{le-leb}
use Rattle.numbers.specs.Numbers.{within, between}
use Rattle.numbers.proofs.Tests.{and_l, and_r}
use Rattle.numbers.proofs.All.{All, all_head, all_tail, all_weaken}
use Rattle.numbers.proofs.Parts.{ints, parts_abs, test_le}
use Rattle.numbers.proofs.Sizes.{within_size}
use Rattle.adjust.specs.declared.Section.{Section}
use Rattle.adjust.specs.Sizes.{most_q, most_r, most_d}
use Rattle.adjust.specs.Sections.{leg_in_range, leg_fits, section_fits}
use Rattle.adjust.specs.declared.Frame.{Frame}
use Rattle.adjust.specs.Line.{printed_height, points_after}
use Rattle.adjust.specs.code.Bounds.{LegBounds}

-- ---- sections in the wider range

abbrev pub Fit : List Section → Type 0
Fit xs = All leg_fits xs

pub leg_bounds : (x : Section) → leg_fits x ≡ true → LegBounds x
leg_bounds x e =
    let q = within x.height most_q in
    let r = and_r q (between (pos 1) x.distance (pos most_r)) e in
    let low : pos 1 ≤ℤ x.distance = test_le (and_l (le_z (pos 1) x.distance) (le_z x.distance (pos most_r)) r) in
    let high : x.distance ≤ℤ pos most_r = test_le (and_r (le_z (pos 1) x.distance) (le_z x.distance (pos most_r)) r) in
    record {
      height = within_size x.height most_q (and_l q (between (pos 1) x.distance (pos most_r)) e);
      long = low;
      distance = omega (ints, parts_abs x.distance);
    }

pub fit_head : (x : Section) (xs : List Section) → Fit (x ∷ xs) → LegBounds x
fit_head x xs e = leg_bounds x (all_head leg_fits x xs e)

pub fit_tail : (x : Section) (xs : List Section) → Fit (x ∷ xs) → Fit xs
fit_tail x xs e = all_tail leg_fits x xs e

-- ranges that lie in it
pub fitted_legs : (xs : List Section) → All section_fits xs → Fit xs
fitted_legs xs e = all_weaken section_fits leg_fits (λ x h. and_l (leg_fits x) (within x.discrepancy most_d) h) xs e

pub strict_legs : (xs : List Section) → All leg_in_range xs → Fit xs
strict_legs xs e = all_weaken leg_in_range leg_fits wider xs e
  where
    wider : (x : Section) → leg_in_range x ≡ true → leg_fits x ≡ true
    wider x h =
        let r = between (pos 1) x.distance (pos most_r) in
        let q : nat_abs x.height ≤ 2500000 = within_size x.height 2500000 (and_l (within x.height 2500000) r h) in
        (λ i. le-leb (nat_abs x.height) most_q (omega arith) i && and_r (within x.height 2500000) r h i)

-- ---- a point for each section

pub points_length : (f : Frame) (q s h : ℤ) (ss : List Section) → length (points_after f q s h ss) ≡ length ss
points_length f q s h [] = refl
points_length f q s h (x ∷ xs) =
    ap suc (points_length f (q +ℤ x.height) (s +ℤ x.distance) (printed_height f (q +ℤ x.height) (s +ℤ x.distance)) xs)
