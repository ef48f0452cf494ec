-- The adjustment call is refused with the lowest number that applies, by the documents' order 11, 13, 12, 5, 57, and is taken where none applies.
use mathlib.Core.Path.{◌≡◌, refl}
use mathlib.Core.List.{List}
use Prim.Native.Nat.{ℕ, ◌<◌}
use native.Mathlib.Omega.{arith}
use lib.IntN.{ℤ}
use lib.ListN.{length}
use borrow.Author.Tests.{lt-leb, lt-ltb}
use Rattle.std.proofs.lemmas.Int.{to_z-of_z}
use Rattle.std.proofs.lemmas.Bool.Decides.{nat_tests}
use Rattle.numbers.specs.Tables.{Lowest}
use Rattle.numbers.proofs.Tables.{first_lowest, nonzero_cond}
use Rattle.adjust.specs.declared.Section.{Section}
use Rattle.adjust.specs.Call.{adjust_tests, adjust_rank, adjust_refusal, heights_after}

pub adjust_lowest : (start end prints : ℤ) (ss : List Section) (places : ℕ) → Lowest adjust_rank (adjust_tests start end prints ss places) (adjust_refusal start end prints ss places)
unfolding adjust_refusal
adjust_lowest start end prints ss places = first_lowest adjust_rank (adjust_tests start end prints ss places) 0 refl

pub too_many : (start end prints : ℤ) (ss : List Section) (places : ℕ) → 64 < length ss → adjust_refusal start end prints ss places ≡ 11
unfolding adjust_refusal
too_many start end prints ss places h = rw (lt-leb (length ss) 64 h, lt-ltb 0 (length ss) (omega arith))

-- and no height is written
pub untouched : (start end prints : ℤ) (ss : List Section) (hs : List ℤ) → 64 < length ss → heights_after start end prints ss hs ≡ hs
unfolding heights_after
untouched start end prints ss hs h =
    nonzero_cond (adjust_refusal start end prints ss (length hs)) _ hs (λ e. omega (arith, too_many start end prints ss (length hs) h, e))

-- the tests of sections, and the heights as the machine has them
pub ruleset refusals = (nat_tests, to_z-of_z)
