-- What loops and parts of slices ask of lists: what a loop has left, and `&l[i..]`.
use mathlib.Core.Path.{◌≡◌, sym, ap, ◌∙◌}
use mathlib.Core.List.{List, ◌++◌, append_assoc}
use Prim.Native.Nat.{ℕ, suc, ◌+◌, ◌-◌, ◌≤◌, ◌<◌}
use native.Mathlib.Omega.{arith}
use lib.ListN.{length, take, drop, length-append, length-drop}
use lib.Seq.{take_all, drop_at, length-take-le}
use borrow.Rule.Slice.PartMut.{put_mid}
use Rattle.numbers.specs.Numbers.{put_at}
use Rattle.numbers.proofs.Arrays.{over_full}

-- what is left of n turns after i
pub left_next : (n i : ℕ) → i < n → n - i ≡ suc (n - (i + 1))
left_next n i h = omega arith

pub left_none : (n i : ℕ) → n ≤ i → n - i ≡ 0
left_none n i h = omega arith

-- `&l[i..]`
pub part_rest : {A : Type 0} (l : List A) (i : ℕ) → take (length l - i) (drop i l) ≡ drop i l
part_rest l i = take_all (length l - i) (drop i l) (omega (arith, length-drop i l))

-- `&l[at..at + k]`
pub length_part : {A : Type 0} (l : List A) (at k : ℕ) → at + k ≤ length l → length (take (at + k - at) (drop at l)) ≡ k
length_part l at k h = length-take-le (at + k - at) (drop at l) (omega (arith, length-drop at l)) ∙ omega arith

-- a list written to it
pub put_part : {A : Type 0} (l s : List A) (at k : ℕ) → length s ≡ k → put_mid at (at + k - at) l s ≡ put_at l at s
unfolding put_at
put_part l s at k e =
    let q : at + k - at ≡ length s = omega arith in
    ap (λ (n : ℕ). take at l ++ (s ++ drop n (drop at l))) q

-- and what lies behind it
pub part_behind : {A : Type 0} (l s : List A) (at k : ℕ) → length s ≡ k → at + k ≤ length l → drop (at + k) (put_mid at (at + k - at) l s) ≡ drop k (drop at l)
part_behind l s at k e h =
    let q : at + k - at ≡ k = omega arith in
    let n : length (take at l ++ s) ≡ at + k = length-append (take at l) s ∙ omega (arith, length-take-le at l (omega arith), e) in
    ap (drop (at + k)) (sym (append_assoc (take at l) s (drop (at + k - at) (drop at l))))
    ∙ drop_at (take at l ++ s) (drop (at + k - at) (drop at l)) (at + k) n
    ∙ ap (λ (m : ℕ). drop m (drop at l)) q

pub put_whole : {A : Type 0} (l s : List A) → length s ≡ length l → put_at l 0 s ≡ s
unfolding put_at
put_whole l s e = over_full s l e
