-- A list in an array: one list after another is one list, a store is a list of one, what a loop has left to write, and a chunk that comes off the front.
use mathlib.Core.Path.{◌≡◌, refl, sym, ap, ◌∙◌}
use mathlib.Core.List.{List, [], ◌∷◌, ◌++◌, append_assoc, append-nil}
use Prim.Native.Nat.{ℕ, ◌+◌, ◌-◌, ◌≤◌, ◌<◌, min}
use native.Mathlib.Numerals.{add-one}
use native.Mathlib.Omega.{arith}
use lib.ListN.{length, get_or, set, take, drop, length-append, length-take, length-drop, take-append-drop, drop_of_length-le}
use lib.Seq.{length-take-le, take_all, take_at, drop_at, drop-append-add, take-suc, drop-cons, drop-drop, set_split}
use Rattle.std.proofs.lemmas.List.{take_min, drop_min}
use Rattle.numbers.specs.Numbers.{over, put_at, written}

module _ {A : Type 0} where
  pub drop_next : (l : List A) (i : ℕ) (z : A) → i < length l → drop i l ≡ get_or l i z ∷ drop (i + 1) l
  drop_next l i z h = rw add-one (drop-cons l i z h)

  -- ---- in the first places

  over_append : (s t r : List A) → over (s ++ t) r ≡ s ++ over t (drop (length s) r)
  over_append s t r = rw (append_assoc s t, length-append s t, drop-drop (length t) (length s) r)

  -- a longer list covers a shorter one
  pub over_again : (xs ys zs : List A) → length xs ≤ length ys → over ys (over xs zs) ≡ over ys zs
  over_again xs ys zs h =
      let m = length ys - length xs in
      let e : length ys ≡ length xs + m = omega arith in
      ap (λ (l : List A). ys ++ l)
      (ap (λ (n : ℕ). drop n (over xs zs)) e ∙ drop-append-add xs (drop (length xs) zs) m ∙ drop-drop m (length xs) zs ∙ ap (λ (n : ℕ). drop n zs) (sym e))

  -- one element more
  pub over_next : (xs ys : List A) (x : A) → length xs < length ys → set (over xs ys) (length xs) x ≡ over (xs ++ (x ∷ [])) ys
  over_next xs [] x h = absurd (omega arith)
  over_next [] (y ∷ ys) x h = refl
  over_next (z ∷ xs) (y ∷ ys) x h = ap (λ (l : List A). z ∷ l) (over_next xs ys x (omega arith))

  -- a list as long as the array is the array
  pub over_full : (xs ys : List A) → length xs ≡ length ys → over xs ys ≡ xs
  over_full xs ys e = ap (λ (l : List A). xs ++ l) (drop_of_length-le ys {i = length xs} (omega arith)) ∙ append-nil xs

  -- ---- from an index on

  pub length_put_at : (d : List A) (at : ℕ) (s : List A) → at + length s ≤ length d → length (put_at d at s) ≡ length d
  unfolding put_at
  length_put_at d at s h =
      let l : length (take at d) ≡ at = length-take-le at d (omega arith) in
      simp (length-append, l, length-drop) (omega arith)

  pub put_none : (d : List A) (at : ℕ) → put_at d at [] ≡ d
  unfolding put_at
  put_none d at = take-append-drop at d

  -- a list right after a list
  pub put_after : (d : List A) (at : ℕ) (s t : List A) → at ≤ length d → put_at (put_at d at s) (at + length s) t ≡ put_at d at (s ++ t)
  unfolding put_at
  put_after d at s t h =
      let r = drop (length s) (drop at d) in
      let l : length (take at d ++ s) ≡ at + length s = length-append (take at d) s ∙ ap (λ (k : ℕ). k + length s) (length-take-le at d h) in
      ap (λ (x : List A). take (at + length s) x ++ over t (drop (at + length s) x)) (sym (append_assoc (take at d) s r))
      ∙ rw (take_at (take at d ++ s) r (at + length s) l, drop_at (take at d ++ s) r (at + length s) l, append_assoc (take at d) s, over_append s t (drop at d))

  -- a store is a list of one
  pub set_put : (d : List A) (i : ℕ) (x : A) → i < length d → set d i x ≡ put_at d i (x ∷ [])
  unfolding put_at
  set_put d i x h = set_split d i x h ∙ sym (rw (drop-drop 1 i d, add-one i))

  -- ---- what is left to write

  -- a store, and then what follows it
  pub put_cons : (d : List A) (at : ℕ) (x : A) (t : List A) → at < length d → put_at (set d at x) (at + 1) t ≡ put_at d at (x ∷ t)
  put_cons d at x t h = ap (λ (e : List A). put_at e (at + 1) t) (set_put d at x h) ∙ put_after d at (x ∷ []) t (omega arith)

  -- where nothing is left, all is written
  pub put_all : (d : List A) (at : ℕ) {rest whole : List A} → rest ≡ [] → put_at d at rest ≡ whole → d ≡ whole
  put_all d at e l = sym (put_none d at) ∙ ap (put_at d at) (sym e) ∙ l

  -- a turn of a loop that copies s
  pub put_next : (d : List A) (at : ℕ) (s : List A) (i : ℕ) (z : A) → at + i < length d → i < length s
      → put_at (set d (at + i) (get_or s i z)) (at + (i + 1)) (drop (i + 1) s) ≡ put_at d (at + i) (drop i s)
  put_next d at s i z h k =
      let further : at + (i + 1) ≡ at + i + 1 = omega arith in
      ap (λ (m : ℕ). put_at (set d (at + i) (get_or s i z)) m (drop (i + 1) s)) further
      ∙ put_cons d (at + i) (get_or s i z) (drop (i + 1) s) h
      ∙ ap (put_at d (at + i)) (sym (drop_next s i z k))

  -- ---- as far as there are places

  pub written_fits : (xs ys : List A) → length xs ≤ length ys → written xs ys ≡ over xs ys
  written_fits xs ys h = ap (λ (l : List A). over l ys) (take_all (length ys) xs h)

  pub written_none : (ys : List A) → written [] ys ≡ ys
  written_none ys = written_fits [] ys (omega arith)

  pub written_long : (xs ys : List A) → length (written xs ys) ≡ length ys
  written_long xs ys = simp (length-append, length-drop, length-take) (omega arith)

  -- one element more
  pub written_set : (xs ys : List A) (x : A) → length xs < length ys → set (written xs ys) (length xs) x ≡ written (xs ++ (x ∷ [])) ys
  written_set xs ys x h =
      ap (λ (l : List A). set l (length xs) x) (written_fits xs ys (omega arith)) ∙ over_next xs ys x h
      ∙ sym (written_fits (xs ++ (x ∷ [])) ys (omega (arith, length-append xs (x ∷ []))))

  -- the same of a list that is copied, whatever z is
  pub written_next : (xs ys : List A) (k : ℕ) (z : A) → k < length xs → k < length ys → set (written (take k xs) ys) k (get_or xs k z) ≡ written (take (k + 1) xs) ys
  written_next xs ys k z h g =
      let l : length (take k xs) ≡ k = length-take-le k xs (omega arith) in
      ap (λ (n : ℕ). set (written (take k xs) ys) n (get_or xs k z)) (sym l) ∙ written_set (take k xs) ys (get_or xs k z) (omega arith)
      ∙ rw (add-one k, take-suc xs k z h)

  -- ---- a chunk that comes off the front

  -- the first n elements of a list, or all where it is shorter, and the others
  pub chunk_parts : (n : ℕ) (all chunk rest : List A) → all ≡ chunk ++ rest → length chunk ≡ min n (length all) → (take n all ≡ chunk) × (drop n all ≡ rest)
  chunk_parts n all chunk rest parts size = (
    sym (take_min n all) ∙ (λ i. take (sym size i) (parts i)) ∙ take_at chunk rest (length chunk) refl,
    sym (drop_min n all) ∙ (λ i. drop (sym size i) (parts i)) ∙ drop_at chunk rest (length chunk) refl,
  )
