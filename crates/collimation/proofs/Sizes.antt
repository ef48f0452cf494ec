-- Readings and distances in their ranges: how large they are, and that the limit of the angle is not negative.
use mathlib.Core.Path.{◌≡◌}
use mathlib.Core.Bool.{true, ◌&&◌}
use Prim.Native.Nat.{◌≤◌}
use lib.IntN.{pos, nat_abs, ◌-ℤ◌}
use lib.Signed.{◌≤ℤ◌, le_z}
use Rattle.numbers.specs.Numbers.{between}
use Rattle.numbers.proofs.Tests.{and_l, and_r}
use Rattle.numbers.proofs.Parts.{ints, parts_sub, parts_times, test_le}
use Rattle.numbers.proofs.Sizes.{between_size}
use Rattle.collimation.specs.Collimation.{Collimation, sums_in_range, distances_in_range, in_range, scaled_limit}

pub record Small (c : Collimation) : Type 0 where
  pub a1 : nat_abs c.a1 ≤ 12000
  pub b1 : nat_abs c.b1 ≤ 12000
  pub a2 : nat_abs c.a2 ≤ 12000
  pub b2 : nat_abs c.b2 ≤ 12000
  pub d1 : nat_abs c.d1 ≤ 7000
  pub d2 : nat_abs c.d2 ≤ 50000

module _ (c : Collimation) (e : in_range c ≡ true) where
  near : between (pos 5000) c.d1 (pos 7000) ≡ true
  near = and_l (between (pos 5000) c.d1 (pos 7000)) (between (pos 40000) c.d2 (pos 50000)) (and_r (sums_in_range c) (distances_in_range c) e)

  far : between (pos 40000) c.d2 (pos 50000) ≡ true
  far = and_r (between (pos 5000) c.d1 (pos 7000)) (between (pos 40000) c.d2 (pos 50000)) (and_r (sums_in_range c) (distances_in_range c) e)

  pub small : Small c
  small =
      let w = between (pos 0) c.a1 (pos 12000) in
      let x = between (pos 0) c.b1 (pos 12000) in
      let y = between (pos 0) c.a2 (pos 12000) in
      let z = between (pos 0) c.b2 (pos 12000) in
      let sums = and_l (sums_in_range c) (distances_in_range c) e in
      record {
        a1 = between_size 0 c.a1 12000 (and_l w x (and_l (w && x) y (and_l (w && x && y) z sums)));
        b1 = between_size 0 c.b1 12000 (and_r w x (and_l (w && x) y (and_l (w && x && y) z sums)));
        a2 = between_size 0 c.a2 12000 (and_r (w && x) y (and_l (w && x && y) z sums));
        b2 = between_size 0 c.b2 12000 (and_r (w && x && y) z sums);
        d1 = between_size 5000 c.d1 7000 near;
        d2 = between_size 40000 c.d2 50000 far;
      }

  pub limit_from_zero : pos 0 ≤ℤ scaled_limit c
  limit_from_zero =
      let h : c.d1 ≤ℤ pos 7000 = test_le (and_r (le_z (pos 5000) c.d1) (le_z c.d1 (pos 7000)) near) in
      let k : pos 40000 ≤ℤ c.d2 = test_le (and_l (le_z (pos 40000) c.d2) (le_z c.d2 (pos 50000)) far) in
      omega (ints, parts_sub c.d2 c.d1, parts_times 1600000000 (c.d2 -ℤ c.d1))
