-- A line adjusted between two known heights is sound: the corrections use up the closure, the last height is the known one, and each height
-- and each correction is near the exact one. First for any frame, in any units; then for the sections of a line at least 1 long. Last a line without a closure.
use mathlib.Core.Path.{◌≡◌, refl, sym, ap, ap₂, subst, ◌∙◌}
use mathlib.Core.List.{List, [], ◌∷◌, map}
use Prim.Native.Nat.{ℕ, ◌+◌, ◌*◌, ◌≤◌, ◌<◌}
use native.Mathlib.Nat.{mul_comm, mul-le-mul}
use native.Mathlib.Omega.{arith}
use lib.IntN.{ℤ, pos, neg_ℤ, nat_abs, ◌+ℤ◌, ◌-ℤ◌, ◌*ℤ◌, +ℤ_idr, +ℤ_assoc, +ℤ_invr, *ℤ-zero, zero-*ℤ}
use lib.Signed.{◌≤ℤ◌}
use Rattle.numbers.proofs.Ring.{ringℤ}
use Rattle.numbers.proofs.Parts.{ints, parts_abs, pos_abs}
use Rattle.numbers.proofs.Sizes.{abs_sub, abs_mul}
use Rattle.roots.specs.Round.{round_even}
use Rattle.roots.proofs.RoundLaws.{round_is, round_exact, round_scale}
use Rattle.adjust.specs.declared.Section.{Section}
use Rattle.adjust.specs.declared.Point.{Point}
use Rattle.adjust.specs.declared.Frame.{Frame}
use Rattle.adjust.specs.Line.{frame, frame_of, line_length, line_height, exact_top, printed_height, points_after, section_points}
use Rattle.adjust.specs.Claims.{Near, no_section, next_section, Sound, corrections, last_height, raw_heights}

-- ---- identities

-- a correction's distance from its share is the difference of two heights' distances
share : (u p b w l q s h g Q R : ℤ)
    → (u *ℤ (g -ℤ h) -ℤ p *ℤ Q) *ℤ l +ℤ p *ℤ w *ℤ R
    ≡ (u *ℤ l *ℤ g -ℤ p *ℤ (u *ℤ b *ℤ l +ℤ (q +ℤ Q) *ℤ l -ℤ w *ℤ (s +ℤ R))) -ℤ (u *ℤ l *ℤ h -ℤ p *ℤ (u *ℤ b *ℤ l +ℤ q *ℤ l -ℤ w *ℤ s))
share u p b w l q s h g Q R = simp ringℤ

telescope : (u p h g t Q c : ℤ) → (u *ℤ (g -ℤ h) -ℤ p *ℤ Q) +ℤ (u *ℤ (t -ℤ g) -ℤ p *ℤ c) ≡ u *ℤ (t -ℤ h) -ℤ p *ℤ (Q +ℤ c)
telescope u p h g t Q c = simp ringℤ

nothing : (u p h : ℤ) → pos 0 ≡ u *ℤ (h -ℤ h) -ℤ p *ℤ pos 0
nothing u p h =
    sym (ap (λ (z : ℤ). u *ℤ z -ℤ p *ℤ pos 0) (+ℤ_invr h) ∙ ap (λ (z : ℤ). z -ℤ p *ℤ pos 0) (*ℤ-zero u) ∙ ap (λ (z : ℤ). pos 0 -ℤ z) (*ℤ-zero p))

-- the exact heights at the two ends are the known ones
exact_start : (u p b l w : ℤ) → p *ℤ (u *ℤ b *ℤ l +ℤ pos 0 *ℤ l -ℤ w *ℤ pos 0) ≡ u *ℤ l *ℤ (p *ℤ b)
exact_start u p b l w = ap₂ (λ (x y : ℤ). p *ℤ (u *ℤ b *ℤ l +ℤ x -ℤ y)) (zero-*ℤ l) (*ℤ-zero w) ∙ simp ringℤ

exact_end : (u p b q e l : ℤ)
    → p *ℤ (u *ℤ b *ℤ l +ℤ (pos 0 +ℤ q) *ℤ l -ℤ (u *ℤ b +ℤ q -ℤ u *ℤ e) *ℤ (pos 0 +ℤ l)) ≡ u *ℤ l *ℤ (p *ℤ e)
exact_end u p b q e l = simp ringℤ

all_spent : (u p b q e : ℤ) → u *ℤ (p *ℤ e -ℤ p *ℤ b) -ℤ p *ℤ q ≡ neg_ℤ (p *ℤ (u *ℤ b +ℤ q -ℤ u *ℤ e))
all_spent u p b q e = simp ringℤ

-- ---- along the sections

-- the corrections add up to the way from the first height to the last, less the measured one
spent : (f : Frame) (q s h : ℤ) (xs : List Section)
    → corrections (points_after f q s h xs) ≡ f.units *ℤ (last_height h (points_after f q s h xs) -ℤ h) -ℤ f.prints *ℤ line_height xs
spent f q s h [] = nothing f.units f.prints h
spent f q s h (x ∷ xs) =
    let q₂ : ℤ = q +ℤ x.height in
    let s₂ : ℤ = s +ℤ x.distance in
    let g : ℤ = printed_height f q₂ s₂ in
    ap (λ (z : ℤ). (f.units *ℤ (g -ℤ h) -ℤ f.prints *ℤ x.height) +ℤ z) (spent f q₂ s₂ g xs)
    ∙ telescope f.units f.prints h g (last_height g (points_after f q₂ s₂ g xs)) x.height (line_height xs)

-- the last height is the printed one at the sums of all sections
ends : (f : Frame) (q s h : ℤ) (xs : List Section)
    → h ≡ printed_height f q s → last_height h (points_after f q s h xs) ≡ printed_height f (q +ℤ line_height xs) (s +ℤ line_length xs)
ends f q s h [] e = e ∙ sym (ap₂ (printed_height f) (+ℤ_idr q) (+ℤ_idr s))
ends f q s h (x ∷ xs) e =
    ends f (q +ℤ x.height) (s +ℤ x.distance) (printed_height f (q +ℤ x.height) (s +ℤ x.distance)) xs refl
    ∙ ap₂ (printed_height f) (+ℤ_assoc q x.height (line_height xs)) (+ℤ_assoc s x.distance (line_length xs))

half : (x y d z : ℕ) → z ≤ x + y → 2 * x ≤ d → 2 * y ≤ d → z ≤ d
half x y d z h k l = omega arith

zero_off : (u b n : ℤ) → n ≡ u *ℤ b → 2 * nat_abs (u *ℤ b -ℤ n) ≤ nat_abs u
zero_off u b n e = subst (λ (z : ℤ). 2 * nat_abs z ≤ nat_abs u) (sym (ap (λ (z : ℤ). u *ℤ b -ℤ z) e ∙ +ℤ_invr (u *ℤ b))) (omega arith)

-- ---- a frame whose divisor, units × total, is at least 1

module _ (f : Frame) (d : 0 < nat_abs (f.units *ℤ f.total)) (e : pos (nat_abs (f.units *ℤ f.total)) ≡ f.units *ℤ f.total) where
  -- how far a height h is from the exact one at q and s, in 1 / (units × total)
  abbrev off : ℤ → ℤ → ℤ → ℤ
  off q s h = f.units *ℤ f.total *ℤ h -ℤ exact_top f q s

  -- a whole height is its own rounding
  rounds : (q s h : ℤ) → exact_top f q s ≡ f.units *ℤ f.total *ℤ h → printed_height f q s ≡ h
  rounds q s h k =
      ap (λ (z : ℤ). round_even z (nat_abs (f.units *ℤ f.total))) (k ∙ ap (λ (z : ℤ). z *ℤ h) (sym e))
      ∙ round_exact h (nat_abs (f.units *ℤ f.total)) d

  printed_near : (q s : ℤ) → 2 * nat_abs (off q s (printed_height f q s)) ≤ nat_abs (f.units *ℤ f.total)
  printed_near q s =
      subst (λ (z : ℤ). 2 * nat_abs (z *ℤ printed_height f q s -ℤ exact_top f q s) ≤ nat_abs (f.units *ℤ f.total)) e
      (round_is (exact_top f q s) (nat_abs (f.units *ℤ f.total)) d).near

  near_after : (q s h : ℤ) (xs : List Section)
      → 2 * nat_abs (off q s h) ≤ nat_abs (f.units *ℤ f.total) → Near f q s xs (points_after f q s h xs)
  near_after q s h [] k = no_section
  near_after q s h (x ∷ xs) k =
      let q₂ : ℤ = q +ℤ x.height in
      let s₂ : ℤ = s +ℤ x.distance in
      let g : ℤ = printed_height f q₂ s₂ in
      let m : 2 * nat_abs (off q₂ s₂ g) ≤ nat_abs (f.units *ℤ f.total) = printed_near q₂ s₂ in
      next_section m
      (half (nat_abs (off q₂ s₂ g)) (nat_abs (off q s h)) (nat_abs (f.units *ℤ f.total)) _
      (subst (λ (z : ℤ). nat_abs z ≤ nat_abs (off q₂ s₂ g) + nat_abs (off q s h))
      (sym (share f.units f.prints f.start f.closure f.total q s h g x.height x.distance))
      (abs_sub (off q₂ s₂ g) (off q s h)))
      m k)
      (near_after q₂ s₂ g xs m)

  at_start : exact_top f (pos 0) (pos 0) ≡ f.units *ℤ f.total *ℤ (f.prints *ℤ f.start)
  at_start = exact_start f.units f.prints f.start f.total f.closure

  pub frame_near : (ss : List Section) → Near f (pos 0) (pos 0) ss (section_points f ss)
  frame_near ss = near_after (pos 0) (pos 0) (f.prints *ℤ f.start) ss (zero_off (f.units *ℤ f.total) (f.prints *ℤ f.start) _ at_start)

  -- ---- and whose W and L are those of the sections, up to the known height `end`

  module _ (end : ℤ) (ss : List Section) (w : f.closure ≡ f.units *ℤ f.start +ℤ line_height ss -ℤ f.units *ℤ end) (t : f.total ≡ line_length ss) where
    at_end : exact_top f (pos 0 +ℤ line_height ss) (pos 0 +ℤ line_length ss) ≡ f.units *ℤ f.total *ℤ (f.prints *ℤ end)
    at_end =
        ap₂ (λ (x y : ℤ). f.prints *ℤ (f.units *ℤ f.start *ℤ f.total +ℤ (pos 0 +ℤ line_height ss) *ℤ f.total -ℤ x *ℤ (pos 0 +ℤ y))) w (sym t)
        ∙ exact_end f.units f.prints f.start (line_height ss) end f.total

    last_known : last_height (f.prints *ℤ f.start) (section_points f ss) ≡ f.prints *ℤ end
    last_known =
        ends f (pos 0) (pos 0) (f.prints *ℤ f.start) ss (sym (rounds (pos 0) (pos 0) (f.prints *ℤ f.start) at_start))
        ∙ rounds (pos 0 +ℤ line_height ss) (pos 0 +ℤ line_length ss) (f.prints *ℤ end) at_end

    pub frame_sound : Sound f end ss (section_points f ss)
    frame_sound =
        record {
          used_up =
              spent f (pos 0) (pos 0) (f.prints *ℤ f.start) ss
              ∙ ap (λ (z : ℤ). f.units *ℤ (z -ℤ f.prints *ℤ f.start) -ℤ f.prints *ℤ line_height ss) last_known
              ∙ all_spent f.units f.prints f.start (line_height ss) end
              ∙ ap (λ (z : ℤ). neg_ℤ (f.prints *ℤ z)) (sym w);
          last = last_known;
          near = frame_near ss;
        }

-- ---- the sections of a line at least 1 long

-- its divisor, where a millimetre is one unit or more
module _ (units : ℕ) (u : 0 < units) {l : ℤ} (h : pos 1 ≤ℤ l) where
  some : 0 < nat_abs (pos units *ℤ l)
  some =
      let long : 0 < nat_abs l = omega (ints, parts_abs l) in
      let product : 0 < units * nat_abs l = mul-le-mul u long in
      omega (arith, abs_mul (pos units) l)

  whole : pos (nat_abs (pos units *ℤ l)) ≡ pos units *ℤ l
  whole =
      let low : pos 0 ≤ℤ l = omega ints in
      ap pos (abs_mul (pos units) l) ∙ ap (λ (z : ℤ). pos units *ℤ z) (pos_abs low)

module _ (units : ℕ) (u : 0 < units) (prints : ℤ) (ss : List Section) (h : pos 1 ≤ℤ line_length ss) where
  pub line_sound : (start end : ℤ) → let f : Frame = frame_of (pos units) prints start end ss in Sound f end ss (section_points f ss)
  line_sound start end = frame_sound (frame_of (pos units) prints start end ss) (some units u h) (whole units u h) end ss refl refl

  -- whatever its closure
  pub line_near : (start w : ℤ) → let f : Frame = frame (pos units) prints start (record { closure = w; distance = line_length ss }) in Near f (pos 0) (pos 0) ss (section_points f ss)
  line_near start w = frame_near (frame (pos units) prints start (record { closure = w; distance = line_length ss })) (some units u h) (whole units u h) ss

-- ---- a line without a closure

-- the exact height without a closure is the start's with the running Q, at every distance
raw_top : (p u b l q s : ℤ) → p *ℤ (u *ℤ b *ℤ l +ℤ q *ℤ l -ℤ pos 0 *ℤ s) ≡ l *ℤ (p *ℤ (u *ℤ b +ℤ q))
raw_top p u b l q s = ap (λ (z : ℤ). p *ℤ (u *ℤ b *ℤ l +ℤ q *ℤ l -ℤ z)) (zero-*ℤ s) ∙ ap (λ (z : ℤ). p *ℤ z) (+ℤ_idr (u *ℤ b *ℤ l +ℤ q *ℤ l)) ∙ factor p u b l q
  where
    factor : (p u b l q : ℤ) → p *ℤ (u *ℤ b *ℤ l +ℤ q *ℤ l) ≡ l *ℤ (p *ℤ (u *ℤ b +ℤ q))
    factor p u b l q = simp ringℤ

module _ (units : ℕ) (u : 0 < units) (prints : ℕ) (b l : ℤ) (h : pos 1 ≤ℤ l) where
  abbrev raw : Frame
  raw = frame (pos units) (pos prints) b (record { closure = pos 0; distance = l })

  raw_printed : (q s : ℤ) → printed_height raw q s ≡ round_even (pos prints *ℤ (pos units *ℤ b +ℤ q)) units
  raw_printed q s =
      let long : pos (nat_abs l) ≡ l = pos_abs (omega ints) in
      let top : ℤ = pos prints *ℤ (pos units *ℤ b +ℤ q) in
      (λ i. round_even ((raw_top (pos prints) (pos units) b l q s ∙ ap (λ (z : ℤ). z *ℤ top) (sym long)) i) (divisor i))
      ∙ round_scale top units (nat_abs l) u (omega (ints, parts_abs l))
    where
      divisor : nat_abs (pos units *ℤ l) ≡ nat_abs l * units
      divisor = abs_mul (pos units) l ∙ mul_comm units (nat_abs l)

  raw_after : (q s g : ℤ) (xs : List Section) → map (λ (p : Point). p.height) (points_after raw q s g xs) ≡ raw_heights units prints (pos units *ℤ b +ℤ q) xs
  raw_after q s g [] = refl
  raw_after q s g (x ∷ xs) =
      let q₂ : ℤ = q +ℤ x.height in
      let s₂ : ℤ = s +ℤ x.distance in
      let m = sym (+ℤ_assoc (pos units *ℤ b) q x.height) in
      λ i. (raw_printed q₂ s₂ ∙ ap (λ (z : ℤ). round_even (pos prints *ℤ z) units) m) i ∷ (raw_after q₂ s₂ (printed_height raw q₂ s₂) xs ∙ ap (λ (z : ℤ). raw_heights units prints z xs) m) i

  pub raw_heights_lem : (ss : List Section) → map (λ (p : Point). p.height) (section_points raw ss) ≡ raw_heights units prints (pos units *ℤ b) ss
  raw_heights_lem ss = raw_after (pos 0) (pos 0) (pos prints *ℤ b) ss ∙ ap (λ (z : ℤ). raw_heights units prints z ss) (+ℤ_idr (pos units *ℤ b))
