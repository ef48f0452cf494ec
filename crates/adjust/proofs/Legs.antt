-- Legs in an array of sections: one leg more is put in, and up to 64 are read back; more than 64 are refused with 11.
use mathlib.Core.Path.{◌≡◌, ap, sym, ◌∙◌}
use mathlib.Core.List.{List}
use Prim.Native.Nat.{ℕ, ◌+◌, ◌≤◌, ◌<◌}
use native.Mathlib.Omega.{arith}
use lib.ListN.{length, get_or, set, take, length-map, get_or-map}
use lib.IntN.{ℤ}
use Rattle.std.proofs.lemmas.Int.{to_z-of_z}
use Rattle.numbers.specs.Numbers.{filled}
use Rattle.numbers.proofs.Filled.{filled_next, filled_take}
use Rattle.adjust.specs.declared.Section.{Section}
use Rattle.adjust.specs.declared.entry.Leg.{Leg}
use Rattle.adjust.specs.Sections.{no_section}
use Rattle.adjust.specs.Call.{adjust_refusal, heights_after}
use Rattle.adjust.specs.Legs.{leg_section, leg_sections}
use Rattle.adjust.proofs.Refused.{too_many, untouched}

module _ (xs : List Leg) where
  long : length (leg_sections xs) ≡ length xs
  long = length-map xs leg_section

  pub legs_next : (places : List Section) (k : ℕ) (d : Leg) (x : Section) → places ≡ filled no_section 64 (take k (leg_sections xs)) → x ≡ leg_section (get_or xs k d)
      → k < length xs → k < 64 → set places k x ≡ filled no_section 64 (take (k + 1) (leg_sections xs))
  legs_next places k d x e v h g =
      (λ i. set (e i) k ((v ∙ sym (get_or-map leg_section xs k d)) i)) ∙ filled_next no_section 64 (leg_sections xs) k (leg_section d) (omega (arith, long)) g

  pub legs_back : length xs ≤ 64 → take (length xs) (filled no_section 64 (leg_sections xs)) ≡ leg_sections xs
  legs_back h = ap (λ (n : ℕ). take n (filled no_section 64 (leg_sections xs))) (sym long) ∙ filled_take no_section 64 (leg_sections xs) (omega (arith, long))

  module _ (start end prints : ℤ) (h : 64 < length xs) where
    pub legs_many : (places : ℕ) → adjust_refusal start end prints (leg_sections xs) places ≡ 11
    legs_many places = too_many start end prints (leg_sections xs) places (omega (arith, long))

    pub legs_untouched : (hs : List ℤ) → heights_after start end prints (leg_sections xs) hs ≡ hs
    legs_untouched hs = untouched start end prints (leg_sections xs) hs (omega (arith, long))

pub ruleset legs = (legs_back, legs_many, legs_untouched, to_z-of_z)
