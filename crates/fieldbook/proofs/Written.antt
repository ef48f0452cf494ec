-- Lines written one after the other into a buffer: a line that fits, a piece written to the rest of a buffer, and what a loop has left to write.
use mathlib.Core.Path.{◌≡◌, refl, sym, ap, subst, ◌∙◌}
use mathlib.Core.Bool.{Bool, true, false, cond}
use mathlib.Core.List.{List, [], ◌∷◌, ◌++◌, map, append-nil}
use Prim.Native.Nat.{ℕ, ◌+◌, ◌-◌, ◌*◌, ◌≤◌, ◌<◌}
use native.Mathlib.Numerals.{add-one}
use native.Mathlib.Omega.{arith}
use borrow.Author.Tests.{ne_eqb}
use lib.Dec.{eqb}
use lib.IntN.{ℤ, pos}
use lib.ListN.{length, get_or, take, drop, length-append, length-take, length-drop, drop_of_length-le}
use borrow.Rule.Slice.PartMut.{put_mid}
use Rattle.std.specs.Prelude.{Err}
use Rattle.numbers.specs.Numbers.{over, put_at}
use Rattle.numbers.proofs.All.{all_head, all_tail}
use Rattle.numbers.proofs.Arrays.{length_put_at, put_after, put_all, drop_next}
use Rattle.records.specs.declared.Refusal.{Refusal}
use Rattle.records.proofs.Numbered.{not_zero}
use Rattle.adjust.specs.declared.prints.PrintUnit.{PrintUnit}
use Rattle.adjust.specs.declared.Point.{Point}
use Rattle.adjust.specs.declared.LineFigures.{LineFigures}
use Rattle.adjust.specs.Frames.{no_point}
use Rattle.columns.specs.Buffers.{placed}
use Rattle.columns.specs.Lines.{width_of, all_fit, columns_of, line_fits, tag_line, title}
use Rattle.columns.specs.Texts.{joined}
use Rattle.columns.proofs.Lists.{part_rest}
use Rattle.columns.proofs.Put.{placed_room}
use Rattle.columns.proofs.Lines.{length_line, length_title}
use Rattle.columns.proofs.Texts.{joined_append}
use Rattle.rules.specs.declared.Book.{Book}
use Rattle.book.specs.Calls.{closing_in, figures_refusal, Tells, told_of}
use Rattle.textbook.specs.declared.text.State.{State}
use Rattle.textbook.specs.Text.{refusals_from}
use Rattle.fieldbook.specs.Report.{ref_line, closed_numbers, closed_line, point_numbers, wide_point, point_line, opn_line}
use Rattle.fieldbook.specs.Fits.{point_fits}
use Rattle.fieldbook.specs.code.Printed.{Puts, refusal_lines, figures_lines, book_lines, below_title, state_lines, points_fit, ClosingFits}
use Rattle.fieldbook.proofs.Widths.{small_fits}

-- ---- a line

-- a line that fits, at the beginning of a buffer with room for it
pub line_put : (d tag : List ℕ) (zs : List ℤ) (wide : Bool) → line_fits (length tag) zs wide ≡ true → 84 ≤ length d → placed d 0 (tag_line tag zs wide) ≡ put_at d 0 (tag_line tag zs wide)
line_put d tag zs wide e h = placed_room d 0 (tag_line tag zs wide) (omega (arith, length_line tag zs wide e))

pub line_long : (tag : List ℕ) (zs : List ℤ) (wide : Bool) → line_fits (length tag) zs wide ≡ true → 84 ≡ length (tag_line tag zs wide)
line_long tag zs wide e = sym (length_line tag zs wide e)

pub refusal_fits : (k n : ℕ) → k ≤ 777 → n ≤ 255 → line_fits 3 (pos k ∷ pos n ∷ []) false ≡ true
unfolding line_fits columns_of all_fit width_of
refusal_fits k n h g = rw (small_fits (pos k) (omega arith), small_fits (pos n) (omega arith))

pub open_fits : (n : ℕ) → n ≤ 64 → line_fits 3 (pos n ∷ []) false ≡ true
unfolding line_fits columns_of all_fit width_of
open_fits n h = rw (small_fits (pos n) (omega arith))

pub open_long : (n : ℕ) → n ≤ 64 → length (opn_line n) ≡ 84
open_long n h = length_line (79 ∷ 80 ∷ 78 ∷ []) (pos n ∷ []) false (open_fits n h)

-- ---- a piece, and the next in the rest of the buffer

-- t written to `d[at..]`
pub part_put : (d e t : List ℕ) (at : ℕ) → e ≡ put_at (take (length d - at) (drop at d)) 0 t → put_mid at (length d - at) d e ≡ put_at d at t
unfolding put_at
part_put d e t at p =
    let none : drop (length d - at) (drop at d) ≡ [] = drop_of_length-le (drop at d) (omega (arith, length-drop at d)) in
    (λ i. take at d ++ (p i ++ none i))
    ∙ ap (λ (x : List ℕ). take at d ++ (over t x ++ [])) (part_rest d at)
    ∙ ap (λ (x : List ℕ). take at d ++ x) (append-nil (over t (drop at d)))

-- s written to d, and t to the rest, are `whole`
pub put_both : (d s t whole : List ℕ) → whole ≡ s ++ t → {d₁ e : List ℕ} {at : ℕ} → d₁ ≡ put_at d 0 s → at ≡ length s
    → e ≡ put_at (take (length d₁ - at) (drop at d₁)) 0 t → put_mid at (length d₁ - at) d₁ e ≡ put_at d 0 whole
put_both d s t whole w {d₁} {e} {at} p q r = part_put d₁ e t at r ∙ (λ i. put_at (p i) (at_end i) t) ∙ put_after d 0 s t (omega arith) ∙ ap (put_at d 0) (sym w)
  where
    at_end : at ≡ 0 + length s
    at_end = omega (arith, q)

-- ---- what is left to write

-- `rest` from index `at` of d on is what is left to write of `whole` at the beginning of the buffer d₀
pub record Left (whole d₀ rest d : List ℕ) (at : ℕ) : Type 0 where
  pub ends : at + length rest ≡ length whole
  pub same : length d ≡ length d₀
  pub put : put_at d at rest ≡ put_at d₀ 0 whole

module _ {whole d₀ rest d : List ℕ} {at : ℕ} (l : Left whole d₀ rest d at) where
  -- after one more piece
  pub left_turn : (piece more : List ℕ) → rest ≡ piece ++ more → at + length piece ≤ length d
      → {d₁ : List ℕ} {next : ℕ} → d₁ ≡ put_at d at piece → next ≡ at + length piece → Left whole d₀ more d₁ next
  left_turn piece more e h p q =
      record {
        ends = omega (arith, l.ends, ap length e, length-append piece more, q);
        same = ap length p ∙ length_put_at d at piece h ∙ l.same;
        put = (λ i. put_at (p i) (q i) more) ∙ put_after d at piece more (omega arith) ∙ ap (put_at d at) (sym e) ∙ l.put;
      }

  -- and after none
  pub left_same : {more : List ℕ} → rest ≡ more → {d₁ : List ℕ} {next : ℕ} → d₁ ≡ d → next ≡ at → Left whole d₀ more d₁ next
  left_same e p q = record { ends = omega (arith, l.ends, ap length e, q); same = ap length p ∙ l.same; put = (λ i. put_at (p i) (q i) (sym e i)) ∙ l.put }

  pub left_none : rest ≡ [] → Puts whole d₀ d at
  left_none e = record { value = omega (arith, l.ends, ap length e); buf_after = put_all d at e l.put }

-- ---- refusals

module _ (ns : List ℕ) where
  -- the refusals from line k on
  abbrev pub refusals_left : ℕ → List ℕ
  refusals_left k = joined (refusal_lines k (drop k ns))

  module _ (k : ℕ) (h : k < length ns) where
    refusals_turn : refusals_left k ≡ joined (map ref_line (cond (eqb (get_or ns k 0) 0) [] (record { line = k; number = get_or ns k 0 } ∷ []) ++ refusals_from (k + 1) (drop (k + 1) ns)))
    unfolding refusals_from
    refusals_turn =
        ap (λ (xs : List ℕ). joined (refusal_lines k xs)) (drop_next ns k 0 h)
        ∙ ap (λ (j : ℕ). joined (map ref_line (cond (eqb (get_or ns k 0) 0) [] (record { line = k; number = get_or ns k 0 } ∷ []) ++ refusals_from j (drop (k + 1) ns)))) (sym (add-one k))

    -- with line k's, and where it has none
    pub refused_turn : (get_or ns k 0 ≡ 0 → ⊥) → refusals_left k ≡ ref_line (record { line = k; number = get_or ns k 0 }) ++ refusals_left (k + 1)
    unfolding joined
    refused_turn e = refusals_turn ∙ ap (λ (b : Bool). joined (map ref_line (cond b [] (record { line = k; number = get_or ns k 0 } ∷ []) ++ refusals_from (k + 1) (drop (k + 1) ns)))) (ne_eqb (get_or ns k 0) 0 e)

    pub taken_turn : get_or ns k 0 ≡ 0 → refusals_left k ≡ refusals_left (k + 1)
    taken_turn e = refusals_turn ∙ ap (λ (n : ℕ). joined (map ref_line (cond (eqb n 0) [] (record { line = k; number = n } ∷ []) ++ refusals_from (k + 1) (drop (k + 1) ns)))) e

  pub no_refusal_left : (k : ℕ) → length ns ≤ k → refusals_left k ≡ []
  unfolding refusals_from joined
  no_refusal_left k h = ap (λ (xs : List ℕ). joined (refusal_lines k xs)) (drop_of_length-le ns h)

-- ---- points

module _ (unit : PrintUnit) (ps : List Point) (k : ℕ) where
  -- the points from k on
  abbrev pub points_left : List ℕ
  points_left = joined (map (point_line unit) (drop k ps))

  pub no_point_left : length ps ≤ k → points_left ≡ []
  unfolding joined
  no_point_left h = ap (λ (x : List Point). joined (map (point_line unit) x)) (drop_of_length-le ps {i = k} h)

  module _ (h : k < length ps) where
    pub points_turn : points_left ≡ point_line unit (get_or ps k no_point) ++ joined (map (point_line unit) (drop (k + 1) ps))
    unfolding joined
    points_turn = ap (λ (x : List Point). joined (map (point_line unit) x)) (drop_next ps k no_point h)

    module _ (f : points_fit unit (drop k ps)) where
      both : points_fit unit (get_or ps k no_point ∷ drop (k + 1) ps)
      both = subst (points_fit unit) (drop_next ps k no_point h) f

      pub first_fits : point_fits unit (get_or ps k no_point) ≡ true
      first_fits = all_head (point_fits unit) (get_or ps k no_point) (drop (k + 1) ps) both

      pub others_fit : points_fit unit (drop (k + 1) ps)
      others_fit = all_tail (point_fits unit) (get_or ps k no_point) (drop (k + 1) ps) both

pub point_long : (unit : PrintUnit) (p : Point) → point_fits unit p ≡ true → length (point_line unit p) ≡ 84
point_long unit p e = length_line (80 ∷ 78 ∷ 84 ∷ []) (point_numbers p) (wide_point unit p) e

pub points_long : (unit : PrintUnit) (ps : List Point) → points_fit unit ps → length (joined (map (point_line unit) ps)) ≡ 84 * length ps
unfolding joined
points_long unit [] f = refl
points_long unit (p ∷ ps) f =
    omega (arith, length-append (point_line unit p) (joined (map (point_line unit) ps)), point_long unit p (all_head (point_fits unit) p ps f), points_long unit ps (all_tail (point_fits unit) p ps f))

-- ---- what closing the line gave

module _ (unit : PrintUnit) (f : LineFigures) where
  pub closing_bytes : joined (figures_lines unit f) ≡ closed_line f.summary ++ joined (map (point_line unit) (closing_in f).points)
  unfolding joined
  closing_bytes = refl

  pub closing_long : length (joined (figures_lines unit f)) ≡ length (closed_line f.summary) + length (joined (map (point_line unit) (closing_in f).points))
  closing_long = ap length closing_bytes ∙ length-append (closed_line f.summary) (joined (map (point_line unit) (closing_in f).points))

  pub closed_long : ClosingFits unit f → length (closed_line f.summary) ≡ 84
  closed_long fits = length_line (67 ∷ 76 ∷ 79 ∷ []) (closed_numbers f.summary) false fits.summary

  pub given_long : ClosingFits unit f → length (joined (map (point_line unit) (closing_in f).points)) ≡ 84 * length (closing_in f).points
  given_long fits = points_long unit (closing_in f).points fits.points

-- where the line is not closed
pub book_open : (b : Book) (e : Refusal) → Tells b (Err e) → joined (book_lines b) ≡ opn_line b.sections.count
unfolding joined
book_open b e told =
    ap (λ (t : Bool). joined (cond t (figures_lines b.line.opening.print_unit (told_of b)) (opn_line b.sections.count ∷ []))) (ne_eqb (figures_refusal b) 0 (λ z. not_zero e (told.number ∙ z)))
    ∙ append-nil (opn_line b.sections.count)

-- ---- the report

module _ (s : State) where
  pub below_bytes : joined (below_title s) ≡ joined (refusal_lines 0 s.refusals) ++ joined (book_lines s.book)
  below_bytes = joined_append (refusal_lines 0 s.refusals) (book_lines s.book)

  pub below_long : length (joined (below_title s)) ≡ length (joined (refusal_lines 0 s.refusals)) + length (joined (book_lines s.book))
  below_long = ap length below_bytes ∙ length-append (joined (refusal_lines 0 s.refusals)) (joined (book_lines s.book))

  pub state_bytes : joined (state_lines s) ≡ title ++ joined (below_title s)
  unfolding state_lines joined
  state_bytes = refl

  pub state_long : length (joined (state_lines s)) ≡ 84 + length (joined (below_title s))
  state_long = omega (arith, ap length state_bytes, length-append title (joined (below_title s)), length_title)

pub title_put : (d : List ℕ) → 84 ≤ length d → placed d 0 title ≡ put_at d 0 title
title_put d h = placed_room d 0 title (omega (arith, length_title))

-- ---- what the tactics of each function cite

pub ruleset put_whole = (line_put, line_long)

pub ruleset put_closing = (put_both, closing_bytes, closing_long, closed_long, given_long, length-take, length-drop)

pub ruleset put_below = (put_both, below_bytes, below_long, length-take, length-drop)

pub ruleset put_state = (state_long, length-take, length-drop)
