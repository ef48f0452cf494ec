-- The points of a profile as they are written: how large their numbers are, how many bytes each has, and what a loop over the sections has left to write.
use mathlib.Core.Path.{◌≡◌, refl, sym, ap, subst, ◌∙◌}
use mathlib.Core.List.{List, [], ◌∷◌, ◌++◌, map, append_assoc}
use Prim.Native.Nat.{ℕ, ◌+◌, ◌*◌, ◌≤◌, ◌<◌}
use native.Mathlib.Omega.{arith}
use lib.ListN.{length, get_or, drop, length-append, drop_of_length-le}
use lib.IntN.{nat_abs}
use lib.Seq.{take_at, drop_at, drop-drop}
use lib.Ieee.{Float}
use borrow.Rule.Slice.PartMut.{put_mid}
use Rattle.numbers.specs.Numbers.{put_at}
use Rattle.numbers.proofs.Arrays.{drop_next}
use Rattle.numbers.proofs.Sizes.{abs_add}
use Rattle.numbers.proofs.Chain.{plain, mul}
use Rattle.adjust.specs.declared.Opening.{Opening}
use Rattle.adjust.specs.declared.Section.{Section}
use Rattle.adjust.specs.Sizes.{highest}
use Rattle.adjust.specs.Line.{units_of}
use Rattle.adjust.specs.Sections.{no_section}
use Rattle.adjust.specs.code.Bounds.{LegBounds}
use Rattle.adjust.proofs.Lists.{Fit, fit_head, fit_tail}
use Rattle.adjust.proofs.Sized.{units_in}
use Rattle.columns.specs.Texts.{joined}
use Rattle.fieldbook.proofs.Written.{Left, left_turn}
use Rattle.plotter.specs.declared.Mark.{Mark}
use Rattle.plotter.specs.Floats.{Exact, float_of, float_bytes}
use Rattle.plotter.specs.Profile.{start_mark, next_mark, marks_after, mark_bytes}
use Rattle.plotter.specs.code.Reached.{Reached}

-- ---- sizes

pub start_reached : (o : Opening) → nat_abs o.start.height ≤ highest → Reached 0 (start_mark o)
start_reached o h =
    record { distance = omega arith; height = omega (arith, (mul (plain (units_of o.staffs) (units_in o.staffs).most) (plain o.start.height h)).size) }

pub reached_next : {k : ℕ} {m : Mark} (x : Section) → Reached k m → LegBounds x → Reached (k + 1) (next_mark m x)
reached_next {m = m} x r b =
    record {
      distance = omega (arith, abs_add m.distance x.distance, r.distance, b.distance);
      height = omega (arith, abs_add m.height x.height, r.height, b.height);
    }

-- after fewer sections too
pub reached_by : {k n : ℕ} {m : Mark} → k ≤ n → Reached k m → Reached n m
reached_by h r = record { distance = omega (arith, h, r.distance); height = omega (arith, h, r.height) }

pub distance_exact : {m : Mark} → Reached 64 m → Exact m.distance
distance_exact r = omega (arith, r.distance)

pub height_exact : {m : Mark} → Reached 64 m → Exact m.height
height_exact r = omega (arith, r.height)

-- ---- bytes

pub bytes_long : (x : Float) → length (float_bytes x) ≡ 8
unfolding float_bytes
bytes_long x = refl

pub mark_long : (m : Mark) → length (mark_bytes m) ≡ 16
mark_long m = omega (arith, length-append (float_bytes (float_of m.distance)) (float_bytes (float_of m.height)), bytes_long (float_of m.distance), bytes_long (float_of m.height))

-- eight bytes, and eight in the place behind them
pub put_eights : (d : List ℕ) {s t : List ℕ} (x y : Float) → s ≡ float_bytes x → t ≡ float_bytes y → put_mid 8 8 (s ++ drop 8 d) t ≡ put_at d 0 (float_bytes x ++ float_bytes y)
unfolding put_at
put_eights d x y p q =
    let s = float_bytes x in
    let t = float_bytes y in
    let r = drop 8 d in
    let long : length (s ++ t) ≡ 16 = omega (arith, length-append s t, bytes_long x, bytes_long y) in
    (λ i. put_mid 8 8 (p i ++ r) (q i))
    ∙ (λ i. take_at s r 8 (bytes_long x) i ++ (t ++ drop 8 (drop_at s r 8 (bytes_long x) i)))
    ∙ ap (λ (l : List ℕ). s ++ (t ++ l)) (drop-drop 8 8 d)
    ∙ ap (λ (n : ℕ). s ++ (t ++ drop n d)) (sym long)
    ∙ sym (append_assoc s t (drop (length (s ++ t)) d))

pub marks_long : (m : Mark) (ss : List Section) → length (joined (map mark_bytes (marks_after m ss))) ≡ 16 * length ss
unfolding joined
marks_long m [] = refl
marks_long m (x ∷ xs) =
    let n : Mark = next_mark m x in
    omega (arith, length-append (mark_bytes n) (joined (map mark_bytes (marks_after n xs))), mark_long n, marks_long n xs)

-- ---- what is left to write

-- the points of the sections after m
abbrev pub points_left : Mark → List Section → List ℕ
points_left m ss = joined (map mark_bytes (marks_after m ss))

-- before section k, at the point m: its sizes, and what is written from index `at` on
pub record Going (start : Mark) (ss : List Section) (d₀ d : List ℕ) (m : Mark) (at k : ℕ) : Type 0 where
  pub room : at ≡ 16 * k
  pub reached : Reached k m
  pub fit : Fit (drop k ss)
  pub left : Left (points_left start ss) d₀ (points_left m (drop k ss)) d at

module _ (ss : List Section) (k : ℕ) (here : k < length ss) where
  abbrev x : Section
  x = get_or ss k no_section

  rest : drop k ss ≡ x ∷ drop (k + 1) ss
  rest = drop_next ss k no_section here

  fits_here : Fit (drop k ss) → Fit (x ∷ drop (k + 1) ss)
  fits_here f = subst Fit rest f

  pub leg_here : Fit (drop k ss) → LegBounds x
  leg_here f = fit_head x (drop (k + 1) ss) (fits_here f)

  points_turn : (m : Mark) → points_left m (drop k ss) ≡ mark_bytes (next_mark m x) ++ points_left (next_mark m x) (drop (k + 1) ss)
  unfolding joined
  points_turn m = ap (points_left m) rest

  pub going_next : {start m : Mark} {d₀ d e : List ℕ} {at : ℕ} → Going start ss d₀ d m at k → at + 16 ≤ length d
      → {next : Mark} {end : ℕ} → next ≡ next_mark m x → e ≡ put_at d at (mark_bytes next) → end ≡ at + 16
      → Going start ss d₀ e next end (k + 1)
  going_next {start} {m} {d₀} {d} {e} {at} g h {next} {end} n p q =
      subst (λ (v : Mark). Going start ss d₀ e v end (k + 1)) (sym n)
      (record {
        room = omega (arith, g.room, q);
        reached = reached_next x g.reached (leg_here g.fit);
        fit = fit_tail x (drop (k + 1) ss) (fits_here g.fit);
        left = left_turn g.left (mark_bytes (next_mark m x)) (points_left (next_mark m x) (drop (k + 1) ss)) (points_turn m) (omega (arith, h, mark_long (next_mark m x))) (p ∙ ap (λ (v : Mark). put_at d at (mark_bytes v)) n) (omega (arith, q, mark_long (next_mark m x)));
      })

-- the start and what follows it
pub points_bytes : (m : Mark) (ss : List Section) → joined (map mark_bytes (m ∷ marks_after m ss)) ≡ mark_bytes m ++ points_left m ss
unfolding joined
points_bytes m ss = refl

pub none_left : (m : Mark) (ss : List Section) (k : ℕ) → length ss ≤ k → points_left m (drop k ss) ≡ []
unfolding joined
none_left m ss k h = ap (points_left m) (drop_of_length-le ss {i = k} h)
