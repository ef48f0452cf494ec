-- Lines of warnings: each fits, and what the loop over them has left to write.
use mathlib.Core.Path.{◌≡◌, refl, ap, subst}
use mathlib.Core.Bool.{true, false}
use mathlib.Core.List.{List, [], ◌∷◌, ◌++◌, map}
use Prim.Native.Nat.{ℕ, ◌+◌, ◌*◌, ◌≤◌, ◌<◌}
use native.Mathlib.Omega.{arith}
use lib.Dec.{leb, leb→le}
use lib.ListN.{length, get_or, drop, length-append, drop_of_length-le}
use lib.IntN.{pos}
use Rattle.numbers.specs.Numbers.{put_at}
use Rattle.numbers.proofs.Tests.{holds}
use Rattle.numbers.proofs.All.{all_head, all_tail}
use Rattle.numbers.proofs.Arrays.{drop_next}
use Rattle.columns.specs.Buffers.{placed}
use Rattle.columns.specs.Lines.{width_of, all_fit, columns_of, line_fits}
use Rattle.columns.specs.Texts.{joined}
use Rattle.columns.proofs.Lines.{length_line}
use Rattle.fieldbook.proofs.Widths.{small_fits}
use Rattle.fieldbook.proofs.Written.{line_put, line_long, refusal_fits}
use Rattle.warnings.specs.Text.{drift_line, drift_title}
use Rattle.warnings.specs.code.Listed.{numbers_small}

-- ---- a line

pub warning_fits : (k : ℕ) → k ≤ 64 → line_fits 3 (pos k ∷ []) false ≡ true
unfolding line_fits columns_of all_fit width_of
warning_fits k h = rw (small_fits (pos k) (omega arith))

pub warning_long : (k : ℕ) → k ≤ 64 → length (drift_line k) ≡ 84
warning_long k h = length_line (68 ∷ 82 ∷ 70 ∷ []) (pos k ∷ []) false (warning_fits k h)

title_fits : line_fits 17 [] false ≡ true
unfolding line_fits columns_of all_fit width_of
title_fits = refl

pub title_long : length drift_title ≡ 84
title_long = length_line (87 ∷ 65 ∷ 82 ∷ 78 ∷ 73 ∷ 78 ∷ 71 ∷ 83 ∷ 32 ∷ 79 ∷ 70 ∷ 32 ∷ 68 ∷ 82 ∷ 73 ∷ 70 ∷ 84 ∷ []) [] false title_fits

pub ruleset warning_line = (line_put, line_long, warning_fits)

pub ruleset refusal_line = (line_put, line_long, refusal_fits)

pub title_put : (d : List ℕ) → 84 ≤ length d → placed d 0 drift_title ≡ put_at d 0 drift_title
title_put d h = line_put d (87 ∷ 65 ∷ 82 ∷ 78 ∷ 73 ∷ 78 ∷ 71 ∷ 83 ∷ 32 ∷ 79 ∷ 70 ∷ 32 ∷ 68 ∷ 82 ∷ 73 ∷ 70 ∷ 84 ∷ []) [] false title_fits h

-- ---- the lines

pub warnings_long : (ks : List ℕ) → numbers_small ks → length (joined (map drift_line ks)) ≡ 84 * length ks
unfolding joined
warnings_long [] f = refl
warnings_long (k ∷ ks) f =
    omega (arith, length-append (drift_line k) (joined (map drift_line ks)), warning_long k (leb→le k 64 (holds (all_head (λ j. leb j 64) k ks f))), warnings_long ks (all_tail (λ j. leb j 64) k ks f))

pub below_title : (ks : List ℕ) → joined (drift_title ∷ map drift_line ks) ≡ drift_title ++ joined (map drift_line ks)
unfolding joined
below_title ks = refl

module _ (ks : List ℕ) (k : ℕ) where
  -- the warnings from the k-th on
  abbrev pub warnings_left : List ℕ
  warnings_left = joined (map drift_line (drop k ks))

  pub no_warning_left : length ks ≤ k → warnings_left ≡ []
  unfolding joined
  no_warning_left h = ap (λ (x : List ℕ). joined (map drift_line x)) (drop_of_length-le ks {i = k} h)

  pub warnings_turn : k < length ks → warnings_left ≡ drift_line (get_or ks k 0) ++ joined (map drift_line (drop (k + 1) ks))
  unfolding joined
  warnings_turn h = ap (λ (x : List ℕ). joined (map drift_line x)) (drop_next ks k 0 h)

module _ (ks : List ℕ) (k : ℕ) (h : k < length ks) (f : numbers_small (drop k ks)) where
  both : numbers_small (get_or ks k 0 ∷ drop (k + 1) ks)
  both = subst numbers_small (drop_next ks k 0 h) f

  pub first_small : get_or ks k 0 ≤ 64
  first_small = leb→le (get_or ks k 0) 64 (holds (all_head (λ j. leb j 64) (get_or ks k 0) (drop (k + 1) ks) both))

  pub others_small : numbers_small (drop (k + 1) ks)
  others_small = all_tail (λ j. leb j 64) (get_or ks k 0) (drop (k + 1) ks) both
