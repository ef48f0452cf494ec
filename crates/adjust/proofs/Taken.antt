-- An adjustment that is taken: its bounds, that it is sound in every print unit, its frame, and its heights behind the first point of the array.
use Rattle.std.proofs.Common.{◌≡◌, List, map, ℕ, ◌≤◌, length, take, drop, sym, ap, ◌∙◌, arith}
use mathlib.Core.Path.{subst}
use lib.IntN.{ℤ, pos}
use Rattle.std.proofs.lemmas.Int.{to_z-of_z}
use Rattle.numbers.specs.Numbers.{filled, over}
use Rattle.numbers.proofs.Filled.{filled_take}
use Rattle.numbers.proofs.Parts.{ints}
use Rattle.numbers.proofs.Tables.{zero_cond, nonzero_cond}
use Rattle.adjust.specs.declared.Point.{Point}
use Rattle.adjust.specs.declared.Section.{Section}
use Rattle.adjust.specs.declared.Frame.{Frame}
use Rattle.adjust.specs.declared.Totals.{Totals}
use Rattle.adjust.specs.Line.{quarters, totals, frame, frame_of, line_length, section_points, points}
use Rattle.adjust.specs.Frames.{no_point}
use Rattle.adjust.specs.Call.{adjust_refusal, adjusted_heights}
use Rattle.adjust.specs.Claims.{EveryAdjustment}
use Rattle.adjust.specs.Sizes.{most_prints}
use Rattle.adjust.specs.code.Bounds.{OneTo, Between, Fits, Framed}
use Rattle.adjust.proofs.Lists.{points_length}
use Rattle.adjust.proofs.Lines.{line_sound}
use Rattle.adjust.proofs.Sized.{long, quarters_in, framed, adjustable}

-- ---- what a call that is not refused knows

module _ (start end prints : ℤ) (ss : List Section) (places : ℕ) (e : adjust_refusal start end prints ss places ≡ 0) where
  pub taken_between : Between start end ss
  taken_between = (adjustable start end prints ss places e).0

  pub taken_fits : Fits ss
  taken_fits = taken_between.fits

  pub taken_few : length ss ≤ 64
  taken_few = taken_fits.few

  pub taken_places : length ss ≤ places
  taken_places = (adjustable start end prints ss places e).1

  pub taken_prints : OneTo most_prints prints
  taken_prints = (adjustable start end prints ss places e).2

-- ---- it is sound in every print unit

pub every_adjustment : EveryAdjustment
every_adjustment prints start end asked ss places some e =
    let b = taken_between start end asked ss places e in
    line_sound 4 (omega arith) (pos prints) ss (omega (ints, long ss b.fits.legs, b.some)) start end

-- ---- its frame, and its heights

-- the points behind the first of the array are one a section
behind : (f : Frame) (ss : List Section) → length ss ≤ 64 → take (length ss) (drop 1 (filled no_point 65 (points f (pos 0) ss))) ≡ section_points f ss
behind f ss h =
    let l = points_length f (pos 0) (pos 0) _ ss in
    sym (ap (λ (m : ℕ). take m (filled no_point 64 (section_points f ss))) l) ∙ filled_take no_point 64 (section_points f ss) (omega (arith, l))

module _ (start end prints : ℤ) (ss : List Section) (t : Totals) (f : Frame) (e : t ≡ totals quarters start end ss) (d : f ≡ frame quarters prints start t) where
  frame_is : f ≡ frame_of quarters prints start end ss
  frame_is = d ∙ ap (frame quarters prints start) e

  pub taken_framed : OneTo most_prints prints → Between start end ss → Framed f
  taken_framed p b = subst Framed (sym frame_is) (framed quarters_in p b)

  pub taken_total : f.total ≡ line_length ss
  taken_total = ap (λ (g : Frame). g.total) frame_is

  pub taken_heights : (ps : List Point) (hs new : List ℤ) → length ss ≤ 64 → ps ≡ filled no_point 65 (points f (pos 0) ss)
      → new ≡ over (map (λ (p : Point). p.height) (take (length ss) (drop 1 ps))) hs → new ≡ over (adjusted_heights start end prints ss) hs
  taken_heights ps hs new few shown wrote =
      wrote
      ∙ ap (λ (xs : List Point). over (map (λ (p : Point). p.height) xs) hs)
      (ap (λ (xs : List Point). take (length ss) (drop 1 xs)) (shown ∙ ap (λ (g : Frame). filled no_point 65 (points g (pos 0) ss)) frame_is)
      ∙ behind (frame_of quarters prints start end ss) ss few)

pub ruleset taken = (quarters_in, taken_between, taken_fits, taken_few, taken_places, taken_prints, taken_total, taken_heights, zero_cond, nonzero_cond, to_z-of_z)
