-- Lines that come off the front of a text, its first line, and the refusals among the numbers of its lines.
use mathlib.Core.Path.{◌≡◌, refl, sym, ap, ◌∙◌}
use mathlib.Core.Bool.{true, false, cond}
use mathlib.Core.List.{List, [], ◌∷◌, ◌++◌}
use mathlib.Core.Logic.{◌≢◌}
use Prim.Native.Nat.{ℕ, zero, suc, ◌*◌, ◌≤◌, ◌<◌, min}
use native.Mathlib.Omega.{arith}
use lib.Dec.{eqb}
use lib.ListN.{length, replicate, take, drop, length-take, length-drop}
use Rattle.numbers.specs.Numbers.{filled}
use Rattle.numbers.proofs.Arrays.{chunk_parts, written_none}
use Rattle.columns.specs.Decimals.{same, blanks}
use Rattle.columns.specs.Lines.{line_end, line_with, heading}
use Rattle.columns.specs.Texts.{lines}
use Rattle.columns.proofs.Compare.{same_lengths}
use Rattle.columns.proofs.Texts.{lines_next, lines_end}
use Rattle.textbook.specs.Text.{RefusedLine, refusals_from}
use Rattle.textbook.specs.code.State.{text_from, after_heading, unread, text_state}

-- ---- a line that comes off the front of a text

pub lines_chunk : (all line rest : List ℕ) → all ≡ line ++ rest → length line ≡ min 84 (length all) → 0 < length all → lines all ≡ line ∷ lines rest
lines_chunk all line rest parts size some =
    let p = chunk_parts 84 all line rest parts size in lines_next all 0 some ∙ (λ i. p.0 i ∷ lines (p.1 i))

-- from a line on there is no more than the whole
pub from_short : (t : List ℕ) (k : ℕ) → length (text_from t k) ≤ length t
from_short t zero = omega arith
from_short t (suc k) = omega (arith, length-drop (84 * k) t)

-- ---- the first line

module _ (t line rest : List ℕ) where
  first_line : 84 ≤ length t → line ≡ take 84 t → rest ≡ drop 84 t → text_state (lines t) ≡ cond (same line heading) (after_heading (lines rest)) unread
  first_line h front back = ap text_state (lines_next t 0 (omega arith)) ∙ (λ i. cond (same (sym front i) heading) (after_heading (lines (sym back i))) unread)

  -- with the heading, and without it
  pub with_heading : 84 ≤ length t → line ≡ take 84 t → rest ≡ drop 84 t → same line heading ≡ true → after_heading (lines rest) ≡ text_state (lines t)
  with_heading h front back e = sym (first_line h front back ∙ (λ i. cond (e i) (after_heading (lines rest)) unread))

  pub without_heading : 84 ≤ length t → line ≡ take 84 t → rest ≡ drop 84 t → same line heading ≡ false → unread ≡ text_state (lines t)
  without_heading h front back e = sym (first_line h front back ∙ (λ i. cond (e i) (after_heading (lines rest)) unread))

heading_long : length heading ≡ 84
unfolding heading line_with line_end blanks
heading_long = refl

-- without it, whatever the first line is: also one that is shorter than a line, and none
pub unheaded : (t : List ℕ) → same (take 84 t) heading ≡ false → unread ≡ text_state (lines t)
unheaded [] e = ap text_state (sym (lines_end [] 0 (omega arith)))
unheaded (b ∷ t) e = sym (ap text_state (lines_next (b ∷ t) 0 (omega arith)) ∙ (λ i. cond (e i) (after_heading (lines (drop 84 (b ∷ t)))) unread))

-- a text that is shorter than a line
pub no_heading : (t : List ℕ) → length t < 84 → unread ≡ text_state (lines t)
no_heading t h =
    let short : length (take 84 t) ≢ length heading = omega (arith, heading_long, length-take 84 t) in unheaded t (same_lengths (take 84 t) heading short)

-- ---- the refusals among the numbers

no_refusals : (k n : ℕ) → refusals_from k (replicate n 0) ≡ []
unfolding refusals_from
no_refusals k zero = refl
no_refusals k (suc n) = no_refusals (suc k) n

-- zeros behind the numbers are no refusals
pub refusals_filled : (k n : ℕ) (ns : List ℕ) → length ns ≤ n → refusals_from k (filled 0 n ns) ≡ refusals_from k ns
unfolding refusals_from
refusals_filled k n [] h = ap (refusals_from k) (written_none (replicate n 0)) ∙ no_refusals k n
refusals_filled k zero (x ∷ ns) h = absurd (omega arith)
refusals_filled k (suc n) (x ∷ ns) h =
    ap (λ (xs : List RefusedLine). cond (eqb x 0) [] (record { line = k; number = x } ∷ []) ++ xs) (refusals_filled (suc k) n ns (omega arith))
