-- An unbroken line: what the test of 20 leaves to know of its counts and sums.
use Rattle.std.specs.declared.option.Option.{Option}
use Rattle.std.specs.Prelude.{Some, None}
use mathlib.Core.Path.{◌≡◌, refl, sym, ap, ◌∙◌}
use mathlib.Core.Bool.{Bool, true, false, not, ◌&&◌, ◌||◌}
use mathlib.Core.List.{List, [], ◌∷◌}
use Prim.Native.Nat.{ℕ, ◌≤◌, ◌<◌}
use native.Mathlib.Omega.{arith}
use lib.Dec.{leb, ltb, eqb, eqb-suc-zero, leb→le, nleb→lt}
use lib.ListN.{length}
use lib.IntN.{pos}
use borrow.Author.Tests.{lt-ltb}
use Rattle.numbers.specs.Numbers.{within, between}
use Rattle.numbers.proofs.Tests.{holds, fails, no_true, and_l, and_r, or_l, or_r, not-false}
use Rattle.numbers.proofs.Sizes.{between_size, within_size}
use Rattle.adjust.specs.Sections.{height_in_range}
use Rattle.adjust.specs.Terms.{terms_of}
use Rattle.adjust.specs.Kept.{sums_fit}
use Rattle.rules.specs.declared.Run.{Run}
use Rattle.rules.specs.declared.Outward.{Outward}
use Rattle.rules.specs.declared.Line.{Line}
use Rattle.rules.specs.code.Bounds.{SmallRun, SmallRuns}
use Rattle.rules.specs.LineState.{is_fresh, is_open, is_closed, is_empty, is_return, run_fits, waiting_broken, misplaced, out_of_range, line_broken, staffs_fit, most_g, most_s, most_difference}

pub small_run : (u : Run) → run_fits u ≡ true → SmallRun u
small_run u e =
    let n = leb u.count 200 in
    let h = within u.height most_g in
    let s = between (pos u.count) u.sights (pos most_s) in
    let d = within u.difference most_difference in
    record {
      count = leb→le u.count 200 (holds (and_l n h (and_l (n && h) s (and_l (n && h && s) d e))));
      height = within_size u.height most_g (and_r n h (and_l (n && h) s (and_l (n && h && s) d e)));
      sights = between_size u.count u.sights most_s (and_r (n && h) s (and_l (n && h && s) d e));
      difference = within_size u.difference most_difference (and_r (n && h && s) d e);
    }

-- a waiting run is small, and leaves room for its section
abbrev pub SmallWaiting : Option Outward → ℕ → Type 0
SmallWaiting None count = Unit {0}
SmallWaiting (Some w) count = SmallRun w.run × (count < 64)

small_waiting : (w : Option Outward) (count : ℕ) → waiting_broken w count ≡ false → SmallWaiting w count
small_waiting None count e = tt
small_waiting (Some w) count e =
    (small_run w.run (not-false (run_fits w.run) (or_l (not (run_fits w.run)) (leb 64 count) e)), nleb→lt 64 count (fails (or_r (not (run_fits w.run)) (leb 64 count) e)))

-- a line beside count sections
pub record Unbroken (l : Line) (count : ℕ) : Type 0 where
  pub few : count ≤ 64
  pub fit : run_fits l.present ≡ true
  pub waits : waiting_broken l.waiting count ≡ false
  pub present : SmallRun l.present
  pub waiting : SmallWaiting l.waiting count
  pub start : height_in_range l.opening.start.height ≡ true
  pub end : height_in_range l.end ≡ true
  pub staffs : staffs_fit l.opening.staffs ≡ true
  pub sums : sums_fit l.sums ≡ true
  pub placed : misplaced l count ≡ false

pub unbroken : (l : Line) (count : ℕ) → line_broken l count ≡ false → Unbroken l count
unfolding line_broken
unbroken l count e =
    let n = not (leb count 64) in
    let u = not (run_fits l.present) in
    let w = waiting_broken l.waiting count in
    let to_ranges = or_l (n || u || w || out_of_range l) (misplaced l count) e in
    let to_waiting = or_l (n || u || w) (out_of_range l) to_ranges in
    let to_present = or_l (n || u) w to_waiting in
    let ranges = or_r (n || u || w) (out_of_range l) to_ranges in
    let s = not (height_in_range l.opening.start.height) in
    let t = not (height_in_range l.end) in
    let k = not (staffs_fit l.opening.staffs) in
    let q = not (sums_fit l.sums) in
    let to_staffs = or_l (s || t || k) q ranges in
    let to_end = or_l (s || t) k to_staffs in
    record {
      few = leb→le count 64 (holds (not-false (leb count 64) (or_l n u to_present)));
      fit = not-false (run_fits l.present) (or_r n u to_present);
      waits = or_r (n || u) w to_waiting;
      present = small_run l.present (not-false (run_fits l.present) (or_r n u to_present));
      waiting = small_waiting l.waiting count (or_r (n || u) w to_waiting);
      start = not-false (height_in_range l.opening.start.height) (or_l s t to_end);
      end = not-false (height_in_range l.end) (or_r s t to_end);
      staffs = not-false (staffs_fit l.opening.staffs) (or_r (s || t) k to_staffs);
      sums = not-false (sums_fit l.sums) (or_r (s || t || k) q ranges);
      placed = or_r (n || u || w || out_of_range l) (misplaced l count) e;
    }

-- a place for each section
pub few : (l : Line) (count : ℕ) → line_broken l count ≡ false → count ≤ 64
few l count e = (unbroken l count e).few

-- both runs together
pub small_runs : (l : Line) (count : ℕ) → Unbroken l count → SmallRuns l.waiting l.present
small_runs l count u = go l.waiting u.waiting
  where
    go : (w : Option Outward) → SmallWaiting w count → SmallRuns w l.present
    go None h = u.present
    go (Some w) h = (h.0, u.present)

pub small_standing : (l : Line) (count : ℕ) → line_broken l count ≡ false → SmallRuns l.waiting l.present
small_standing l count e = small_runs l count (unbroken l count e)

-- a list that is not empty has a length above 0
pub some_long : {A : Type 0} (xs : List A) → is_empty xs ≡ false → ltb 0 (length xs) ≡ true
some_long [] e = no_true (sym e)
some_long (x ∷ xs) e = lt-ltb 0 (length (x ∷ xs)) (omega arith)

-- where no call was taken there is no section
none_long : {A : Type 0} (xs : List A) → eqb (length xs) 0 ≡ true → xs ≡ []
none_long [] e = refl
none_long (x ∷ xs) e = no_true (sym (eqb-suc-zero (length xs)) ∙ e)

new_none : {A : Type 0} (l : Line) (xs : List A) → line_broken l (length xs) ≡ false → is_fresh l.stage || not l.opening.touched ≡ true → xs ≡ []
new_none l xs e f =
    let none = eqb (length xs) 0 in
    let idle = eqb l.present.count 0 in
    let back = is_return l.waiting in
    let nothing = none && idle && not back in
    let stray = back && not (terms_of l.opening.class).double in
    let new = is_fresh l.stage || not l.opening.touched in
    let fresh = or_l (new && not nothing) stray (or_l (new && not nothing || stray) (is_closed l.stage && eqb (length xs) 0) (unbroken l (length xs) e).placed) in
    let held = not-false nothing (ap (λ (t : Bool). t && not nothing) (sym f) ∙ fresh) in
    none_long xs (and_l none idle (and_l (none && idle) (not back) held))

pub fresh_none : {A : Type 0} (l : Line) (xs : List A) → line_broken l (length xs) ≡ false → not (is_fresh l.stage) ≡ false → xs ≡ []
fresh_none l xs e f = new_none l xs e (λ i. not-false (is_fresh l.stage) f i || not l.opening.touched)

-- by the test 43
pub untouched_none : {A : Type 0} (l : Line) (xs : List A) → line_broken l (length xs) ≡ false → not (is_open l.stage) || l.opening.touched ≡ false → xs ≡ []
untouched_none l xs e f = new_none l xs e ((λ i. is_fresh l.stage || not (or_r (not (is_open l.stage)) l.opening.touched f i)) ∙ or_true (is_fresh l.stage))
  where
    or_true : (t : Bool) → t || true ≡ true
    or_true true = refl
    or_true false = refl

-- a closed line has a section
pub closed_some : {A : Type 0} (l : Line) (xs : List A) → misplaced l (length xs) ≡ false → is_closed l.stage ≡ true → is_empty xs ≡ false
closed_some l xs e f =
    let nothing = eqb (length xs) 0 && eqb l.present.count 0 && not (is_return l.waiting) in
    let none = or_r (((is_fresh l.stage || not l.opening.touched) && not nothing) || (is_return l.waiting && not (terms_of l.opening.class).double)) (is_closed l.stage && eqb (length xs) 0) e in
    some xs (ap (λ (t : Bool). t && eqb (length xs) 0) (sym f) ∙ none)
  where
    some : {A : Type 0} (ys : List A) → eqb (length ys) 0 ≡ false → is_empty ys ≡ false
    some [] h = h
    some (y ∷ ys) h = refl
