-- More sections in an array than it has places: they are refused with 11, no height is written, and no line is closed on them.
use mathlib.Core.Path.{◌≡◌}
use mathlib.Core.List.{List}
use Prim.Native.Nat.{ℕ, ◌<◌}
use native.Mathlib.Omega.{arith}
use lib.IntN.{ℤ}
use lib.ListN.{length}
use borrow.Author.Tests.{lt-leb, lt-ltb}
use Rattle.std.specs.Prelude.{None}
use Rattle.std.proofs.lemmas.Int.{to_z-of_z}
use Rattle.adjust.specs.declared.Opening.{Opening}
use Rattle.adjust.specs.declared.Sections.{Sections}
use Rattle.adjust.specs.declared.SectionSums.{SectionSums}
use Rattle.adjust.specs.Sections.{sections_of}
use Rattle.adjust.specs.Call.{adjust_refusal, heights_after}
use Rattle.adjust.specs.Frames.{figures_fit, line_figures}
use Rattle.adjust.proofs.Holding.{sections_count}
use Rattle.adjust.proofs.Refused.{too_many, untouched}

module _ (s : Sections) (h : 64 < s.count) where
  many : 64 < length (sections_of s)
  many = omega (arith, sections_count s, h)

  pub array_many : (start end prints : ℤ) (places : ℕ) → adjust_refusal start end prints (sections_of s) places ≡ 11
  array_many start end prints places = too_many start end prints (sections_of s) places many

  pub array_untouched : (start end prints : ℤ) (hs : List ℤ) → heights_after start end prints (sections_of s) hs ≡ hs
  array_untouched start end prints hs = untouched start end prints (sections_of s) hs many

  pub array_unfit : (o : Opening) (end : ℤ) (kept : SectionSums) → line_figures o end kept (sections_of s) ≡ None
  unfolding line_figures figures_fit
  array_unfit o end kept = rw (lt-ltb 0 (length (sections_of s)) (omega (arith, many)), lt-leb (length (sections_of s)) 64 many)

pub ruleset arrays = (array_many, array_untouched, array_unfit, to_z-of_z)
