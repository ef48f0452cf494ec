-- The windows of a line, one section after the other: what the loop of `find` finds, how many there are at most, and which.
use mathlib.Core.Path.{◌≡◌, refl, sym, ap, subst, ◌∙◌}
use mathlib.Core.Bool.{Bool, true, false, cond, ◌&&◌, ◌||◌}
use mathlib.Core.List.{List, [], ◌∷◌, ◌++◌, append_assoc, append-nil}
use Prim.Native.Nat.{ℕ, zero, suc, ◌+◌, ◌-◌, ◌≤◌, ◌<◌}
use native.Mathlib.Numerals.{add-one}
use native.Mathlib.Omega.{arith}
use borrow.Author.Tests.{lt-ltb, le-leb, ne_eqb, lt-leb}
use lib.Dec.{T, leb, eqb, leb→le, eqb_refl}
use lib.ListN.{length, get_or, set, take, drop, length-append, length-drop, drop_of_length-le}
use Rattle.numbers.specs.Numbers.{any_of}
use Rattle.numbers.proofs.Tests.{by_test, is_true, and_l}
use Rattle.numbers.proofs.All.{All, all_cons}
use Rattle.numbers.proofs.Arrays.{drop_next}
use Rattle.numbers.proofs.Filled.{filled_set}
use Rattle.adjust.specs.declared.Section.{Section}
use Rattle.adjust.specs.Sections.{no_section}
use Rattle.adjust.specs.declared.terms.Root.{Root}
use Rattle.warnings.specs.declared.Drift.{Drift}
use Rattle.warnings.specs.Drift.{drifts, begins, firsts_from, drift_of}
use Rattle.warnings.specs.Claims.{EveryWindow, rising, InLineOrder}

module _ (apart : Root) (w : ℕ) where
  abbrev from : ℕ → List Section → List ℕ
  from k ss = firsts_from apart w k ss

  -- ---- the loop

  -- before section k, counted from 0, is looked at: the numbers found, and those from it on, are all
  pub record Found (ss : List Section) (k : ℕ) (d : Drift) : Type 0 where
    pub numbers : List ℕ
    pub few : length numbers ≤ k
    pub held : d ≡ drift_of numbers
    pub whole : numbers ++ from (suc k) (drop k ss) ≡ from 1 ss

  turn : (ss : List Section) (k : ℕ) → k < length ss → from (suc k) (drop k ss) ≡ cond (begins apart w (drop k ss)) (suc k ∷ []) [] ++ from (suc (k + 1)) (drop (k + 1) ss)
  turn ss k h =
      let rest = drop (k + 1) ss in
      subst (λ (ys : List Section). from (suc k) ys ≡ cond (begins apart w ys) (suc k ∷ []) [] ++ from (suc (k + 1)) rest) (sym (drop_next ss k no_section h))
      (ap (λ (j : ℕ). cond (begins apart w (get_or ss k no_section ∷ rest)) (suc k ∷ []) [] ++ from (suc j) rest) (sym (add-one k)))

  pub none_found : (ss : List Section) → Found ss 0 (drift_of [])
  none_found ss = record { numbers = []; few = omega arith; held = refl; whole = refl }

  module _ {ss : List Section} {k : ℕ} {d : Drift} (h : k < length ss) (f : Found ss k d) where
    pub not_found : begins apart w (drop k ss) ≡ false → Found ss (k + 1) d
    not_found e =
        record {
          numbers = f.numbers;
          few = omega (arith, f.few);
          held = f.held;
          whole = ap (λ (xs : List ℕ). f.numbers ++ xs) (sym (turn ss k h ∙ ap (λ (b : Bool). cond b (suc k ∷ []) [] ++ from (suc (k + 1)) (drop (k + 1) ss)) e)) ∙ f.whole;
        }

    room : begins apart w (drop k ss) ≡ true → 3 ≤ w → length ss ≤ 64 → length f.numbers < 62
    room e least most =
        let long : w ≤ length (drop k ss) = leb→le w (length (drop k ss)) (subst (λ (b : Bool). T b) (sym (and_l (leb w (length (drop k ss))) (drifts apart (take w (drop k ss))) e)) tt) in
        omega (arith, long, length-drop k ss, f.few)

    pub count_room : begins apart w (drop k ss) ≡ true → 3 ≤ w → length ss ≤ 64 → d.count < 62
    count_room e least most = omega (arith, ap (λ (x : Drift). x.count) f.held, room e least most)

    pub one_found : begins apart w (drop k ss) ≡ true → 3 ≤ w → length ss ≤ 64 → {n : Drift} → n ≡ record { count = d.count + 1; firsts = set d.firsts d.count (k + 1) } → Found ss (k + 1) n
    one_found e least most p =
        record {
          numbers = f.numbers ++ (suc k ∷ []);
          few = omega (arith, f.few, length-append f.numbers (suc k ∷ []));
          held = p ∙ (λ i. record { count = (f.held i).count + 1; firsts = set (f.held i).firsts (f.held i).count (add-one k i) })
              ∙ (λ i. record { count = many i; firsts = filled_set 0 62 f.numbers (suc k) (room e least most) i });
          whole = append_assoc f.numbers (suc k ∷ []) _
              ∙ ap (λ (xs : List ℕ). f.numbers ++ xs) (sym (turn ss k h ∙ ap (λ (b : Bool). cond b (suc k ∷ []) [] ++ from (suc (k + 1)) (drop (k + 1) ss)) e)) ∙ f.whole;
        }
      where
        many : length f.numbers + 1 ≡ length (f.numbers ++ (suc k ∷ []))
        many = sym (length-append f.numbers (suc k ∷ []))

  pub all_found : {ss : List Section} {k : ℕ} {d : Drift} → length ss ≤ k → Found ss k d → d ≡ drift_of (from 1 ss)
  all_found {ss} {k} h f = f.held ∙ ap drift_of (sym (append-nil f.numbers) ∙ ap (λ (ys : List Section). f.numbers ++ from (suc k) ys) (sym (drop_of_length-le ss {i = k} h)) ∙ f.whole)

  -- ---- how many, and how large

  pub few_firsts : 3 ≤ w → (k : ℕ) (ss : List Section) → length (from k ss) ≤ length ss - 2
  few_firsts least k [] = omega arith
  few_firsts least k (x ∷ xs) =
      by_test (begins apart w (x ∷ xs)) (λ b. begins apart w (x ∷ xs) ≡ b → length (cond b (k ∷ []) [] ++ from (suc k) xs) ≤ length (x ∷ xs) - 2)
      (λ b e. let long : w ≤ length (x ∷ xs) = leb→le w (length (x ∷ xs)) (subst (λ (b : Bool). T b) (sym (and_l (leb w (length (x ∷ xs))) (drifts apart (take w (x ∷ xs))) e)) tt) in
      omega (arith, few_firsts least (suc k) xs, long)) (λ b e. omega (arith, few_firsts least (suc k) xs)) refl

  abbrev small : ℕ → Bool
  small j = leb j 64

  pub small_firsts : (k : ℕ) (ss : List Section) → k + length ss ≤ 65 → All small (from k ss)
  small_firsts k [] h = refl
  small_firsts k (x ∷ xs) h =
      by_test (begins apart w (x ∷ xs)) (λ b. All small (cond b (k ∷ []) [] ++ from (suc k) xs))
      (λ b. all_cons small k (from (suc k) xs) (le-leb k 64 (omega arith)) (small_firsts (suc k) xs (omega arith)))
      (λ b. small_firsts (suc k) xs (omega arith))

  -- ---- which

  rising_from : (m k : ℕ) (ss : List Section) → m < k → rising m (from k ss) ≡ true
  rising_from m k [] h = refl
  rising_from m k (x ∷ xs) h =
      by_test (begins apart w (x ∷ xs)) (λ b. rising m (cond b (k ∷ []) [] ++ from (suc k) xs) ≡ true)
      (λ b. λ i. lt-ltb m k h i && rising_from k (suc k) xs (omega arith) i) (λ b. rising_from m (suc k) xs (omega arith))

  none_below : (m k : ℕ) (ss : List Section) → m < k → any_of (eqb m) (from k ss) ≡ false
  none_below m k [] h = refl
  none_below m k (x ∷ xs) h =
      by_test (begins apart w (x ∷ xs)) (λ b. any_of (eqb m) (cond b (k ∷ []) [] ++ from (suc k) xs) ≡ false)
      (λ b. λ i. ne_eqb m k (λ z. omega (arith, z)) i || none_below m (suc k) xs (omega arith) i) (λ b. none_below m (suc k) xs (omega arith))

  no_window : (j : ℕ) → 0 < w → begins apart w (drop j []) ≡ false
  no_window zero h = λ i. lt-leb w 0 h i && drifts apart (take w [])
  no_window (suc j) h = λ i. lt-leb w 0 h i && drifts apart (take w [])

  listed : (k j : ℕ) (ss : List Section) → 0 < w → any_of (eqb (k + j)) (from k ss) ≡ begins apart w (drop j ss)
  listed k j [] h = sym (no_window j h)
  listed k zero (x ∷ xs) h =
      by_test (begins apart w (x ∷ xs)) (λ b. any_of (eqb (k + 0)) (cond b (k ∷ []) [] ++ from (suc k) xs) ≡ b)
      (λ b. ap (λ (n : ℕ). eqb n k || any_of (eqb n) (from (suc k) xs)) zero_more ∙ (λ i. is_true (eqb_refl k) i || any_of (eqb k) (from (suc k) xs)))
      (λ b. none_below (k + 0) (suc k) xs (omega arith))
    where
      zero_more : k + 0 ≡ k
      zero_more = omega arith
  listed k (suc j) (x ∷ xs) h =
      by_test (begins apart w (x ∷ xs)) (λ b. any_of (eqb (k + suc j)) (cond b (k ∷ []) [] ++ from (suc k) xs) ≡ any_of (eqb (k + suc j)) (from (suc k) xs))
      (λ b. ap (λ (t : Bool). t || any_of (eqb (k + suc j)) (from (suc k) xs)) (ne_eqb (k + suc j) k (λ z. omega (arith, z)))) (λ b. refl)
      ∙ ap (λ (n : ℕ). any_of (eqb n) (from (suc k) xs)) (omega arith) ∙ listed (suc k) j xs h

pub every_window : EveryWindow
every_window apart w ss j h = ap (λ (n : ℕ). any_of (eqb n) (firsts_from apart w 1 ss)) (omega arith) ∙ listed apart w 1 j ss h

pub in_line_order : InLineOrder
in_line_order apart w ss = rising_from apart w 0 1 ss (omega arith)
