-- A block is written where there is room for it, and else nothing.
use mathlib.Core.Path.{◌≡◌, refl, ap}
use mathlib.Core.Bool.{Bool, cond}
use mathlib.Core.List.{List, []}
use Prim.Native.Nat.{ℕ, ◌+◌, ◌≤◌, ◌<◌}
use borrow.Author.Tests.{le-leb, lt-leb}
use lib.Dec.{leb}
use lib.ListN.{length}
use Rattle.numbers.specs.Numbers.{put_at}
use Rattle.numbers.proofs.Tests.{by_test}
use Rattle.numbers.proofs.Arrays.{put_none}
use Rattle.columns.specs.Buffers.{placed}

pub placed_room : (d : List ℕ) (at : ℕ) (s : List ℕ) → at + length s ≤ length d → placed d at s ≡ put_at d at s
unfolding placed
placed_room d at s h = ap (λ (t : Bool). cond t (put_at d at s) d) (le-leb (at + length s) (length d) h)

pub placed_none : (d : List ℕ) (at : ℕ) (s : List ℕ) → length d < at + length s → placed d at s ≡ d
unfolding placed
placed_none d at s h = ap (λ (t : Bool). cond t (put_at d at s) d) (lt-leb (at + length s) (length d) h)

pub placed_empty : (d : List ℕ) (at : ℕ) → placed d at [] ≡ d
unfolding placed
placed_empty d at = by_test (leb (at + 0) (length d)) (λ t. cond t (put_at d at []) d ≡ d) (λ h. put_none d at) (λ h. refl)
