-- Tags: what holds of each, and which tag some letters are.
use mathlib.Core.Path.{◌≡◌, refl, ap, ◌∙◌}
use mathlib.Core.Bool.{Bool, true, false, ◌&&◌, cond}
use mathlib.Core.List.{List, [], ◌∷◌}
use Prim.Native.Nat.{ℕ, ◌≤◌, ◌<◌}
use native.Mathlib.Omega.{arith}
use lib.Dec.{lit≤, eqb}
use lib.ListN.{length, get_or}
use Rattle.numbers.proofs.Tests.{no_true}
use Rattle.std.specs.Prelude.{Some, None}
use Rattle.std.specs.declared.option.Option.{Option}
use Rattle.records.specs.declared.Tag.{Tag}
use Rattle.columns.specs.Decimals.{same}
use Rattle.columns.specs.Records.{letters, field_count, has_print_unit, tags, tag_among}
use Rattle.columns.proofs.Compare.{same_lengths}

-- of a tag: its numbers are at most ten, five where there is a print unit, its letters are three, and they are read as this tag
pub record TagFacts (t : Tag) : Type 0 where
  pub ten : field_count t ≤ 10
  pub five : has_print_unit t ≡ true → field_count t ≡ 5
  pub three : length (letters t) ≡ 3
  pub back : tag_among tags (letters t) ≡ Some t

no_print_unit : {n : ℕ} → false ≡ true → n ≡ 5
no_print_unit e = no_true e

pub tag_facts : (t : Tag) → TagFacts t
unfolding tag_among same
tag_facts Tag.Lin = record { ten = lit≤ tt; five = λ e. refl; three = refl; back = refl }
tag_facts Tag.Sta = record { ten = lit≤ tt; five = no_print_unit; three = refl; back = refl }
tag_facts Tag.Run = record { ten = lit≤ tt; five = no_print_unit; three = refl; back = refl }
tag_facts Tag.Drr = record { ten = lit≤ tt; five = no_print_unit; three = refl; back = refl }
tag_facts Tag.Drs = record { ten = lit≤ tt; five = no_print_unit; three = refl; back = refl }
tag_facts Tag.End = record { ten = lit≤ tt; five = no_print_unit; three = refl; back = refl }
tag_facts Tag.Spr = record { ten = lit≤ tt; five = λ e. refl; three = refl; back = refl }
tag_facts Tag.Fin = record { ten = lit≤ tt; five = no_print_unit; three = refl; back = refl }
tag_facts Tag.Ang = record { ten = lit≤ tt; five = no_print_unit; three = refl; back = refl }
tag_facts Tag.Kon = record { ten = lit≤ tt; five = no_print_unit; three = refl; back = refl }
tag_facts Tag.Lft = record { ten = lit≤ tt; five = no_print_unit; three = refl; back = refl }

-- ---- three letters, byte by byte

module _ (w : List ℕ) where
  abbrev pub are : ℕ → ℕ → ℕ → Bool
  are a b c = eqb (get_or w 0 0) a && (eqb (get_or w 1 0) b && (eqb (get_or w 2 0) c && true))

  abbrev pub tag_by_bytes : Option Tag
  tag_by_bytes =
      cond (are 76 73 78) (Some Tag.Lin)
      (cond (are 83 84 65) (Some Tag.Sta)
      (cond (are 82 85 78) (Some Tag.Run)
      (cond (are 68 82 82) (Some Tag.Drr)
      (cond (are 68 82 83) (Some Tag.Drs)
      (cond (are 69 78 68) (Some Tag.End)
      (cond (are 83 80 82) (Some Tag.Spr)
      (cond (are 70 73 78) (Some Tag.Fin)
      (cond (are 65 78 71) (Some Tag.Ang)
      (cond (are 75 79 78) (Some Tag.Kon)
      (cond (are 76 70 84) (Some Tag.Lft) None))))))))))

pub tag_three : (w : List ℕ) → 3 ≤ length w → length w < 4 → tag_among tags w ≡ tag_by_bytes w
unfolding tag_among same
tag_three [] h k = absurd (omega arith)
tag_three (a ∷ []) h k = absurd (omega arith)
tag_three (a ∷ b ∷ []) h k = absurd (omega arith)
tag_three (a ∷ b ∷ c ∷ []) h k = refl
tag_three (a ∷ b ∷ c ∷ d ∷ w) h k = absurd (omega arith)

-- ---- letters of another length

no_tag : (ts : List Tag) (w : List ℕ) → (length w ≡ 3 → ⊥) → tag_among ts w ≡ None
unfolding tag_among
no_tag [] w h = refl
no_tag (t ∷ ts) w h =
    ap (λ (b : Bool). cond b (Some t) (tag_among ts w)) (same_lengths w (letters t) (λ e. h (e ∙ (tag_facts t).three))) ∙ no_tag ts w h

pub tag_shorter : (w : List ℕ) → length w < 3 → tag_among tags w ≡ None
tag_shorter w h = no_tag tags w (λ e. omega arith)

pub tag_longer : (w : List ℕ) → 4 ≤ length w → tag_among tags w ≡ None
tag_longer w h = no_tag tags w (λ e. omega arith)
