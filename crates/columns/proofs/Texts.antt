-- Lines of a text: the next line, the end of the text, and that a text is its lines joined.
use mathlib.Core.Path.{◌≡◌, refl, sym, ap, ◌∙◌}
use mathlib.Core.List.{List, [], ◌∷◌, ◌++◌, append_assoc}
use Prim.Native.Nat.{ℕ, zero, suc, ◌+◌, ◌≤◌, ◌<◌}
use native.Mathlib.Omega.{arith}
use lib.ListN.{length, take, drop, get_or, length-drop, length-append, take-append-drop, drop_of_length-le}
use lib.Seq.{drop-cons, drop-drop, take_at, drop_at}
use Rattle.columns.specs.Texts.{lines_by, lines, joined}

-- fuel that is enough is as good as any other
fuel : (f g : ℕ) (t : List ℕ) → length t ≤ f → length t ≤ g → lines_by f t ≡ lines_by g t
unfolding lines_by
fuel zero zero t h k = refl
fuel zero (suc g) [] h k = refl
fuel zero (suc g) (b ∷ t) h k = absurd (omega arith)
fuel (suc f) zero [] h k = refl
fuel (suc f) zero (b ∷ t) h k = absurd (omega arith)
fuel (suc f) (suc g) [] h k = refl
fuel (suc f) (suc g) (b ∷ t) h k =
    ap (λ (r : List (List ℕ)). take 84 (b ∷ t) ∷ r)
    (fuel f g (drop 84 (b ∷ t)) (omega (arith, length-drop 84 (b ∷ t))) (omega (arith, length-drop 84 (b ∷ t))))

lines_first : (b : ℕ) (t : List ℕ) → lines (b ∷ t) ≡ take 84 (b ∷ t) ∷ lines (drop 84 (b ∷ t))
unfolding lines lines_by
lines_first b t =
    ap (λ (r : List (List ℕ)). take 84 (b ∷ t) ∷ r)
    (fuel (length t) (length (drop 84 (b ∷ t))) (drop 84 (b ∷ t)) (omega (arith, length-drop 84 (b ∷ t))) (omega arith))

-- ---- from index `at` on

pub lines_next : (t : List ℕ) (at : ℕ) → at < length t → lines (drop at t) ≡ take 84 (drop at t) ∷ lines (drop (at + 84) t)
lines_next t at h =
    let e : drop at t ≡ get_or t at 0 ∷ drop (suc at) t = drop-cons t at 0 h in
    ap lines e
    ∙ lines_first (get_or t at 0) (drop (suc at) t)
    ∙ ap (λ (u : List ℕ). take 84 u ∷ lines (drop 84 u)) (sym e)
    ∙ ap (λ (u : List ℕ). take 84 (drop at t) ∷ lines u) (drop-drop 84 at t)

pub lines_end : (t : List ℕ) (at : ℕ) → length t ≤ at → lines (drop at t) ≡ []
unfolding lines lines_by
lines_end t at h = ap lines (drop_of_length-le t h)

-- ---- a text and its lines

pub joined_append : (xs ys : List (List ℕ)) → joined (xs ++ ys) ≡ joined xs ++ joined ys
unfolding joined
joined_append [] ys = refl
joined_append (x ∷ xs) ys = ap (λ (l : List ℕ). x ++ l) (joined_append xs ys) ∙ sym (append_assoc x (joined xs) (joined ys))

joined_by : (f : ℕ) (t : List ℕ) → length t ≤ f → joined (lines_by f t) ≡ t
unfolding lines_by joined
joined_by zero [] h = refl
joined_by zero (b ∷ t) h = absurd (omega arith)
joined_by (suc f) [] h = refl
joined_by (suc f) (b ∷ t) h =
    ap (λ (r : List ℕ). take 84 (b ∷ t) ++ r) (joined_by f (drop 84 (b ∷ t)) (omega (arith, length-drop 84 (b ∷ t))))
    ∙ take-append-drop 84 (b ∷ t)

pub joined_lines : (t : List ℕ) → joined (lines t) ≡ t
unfolding lines
joined_lines t = joined_by (length t) t (omega arith)

-- each is a whole line
abbrev pub All84 : List (List ℕ) → Type 0
All84 [] = Unit {0}
All84 (l ∷ ls) = (length l ≡ 84) × All84 ls

pub lines_joined : (ls : List (List ℕ)) → All84 ls → lines (joined ls) ≡ ls
unfolding joined
lines_joined [] h = lines_end [] 0 (omega arith)
lines_joined (l ∷ ls) h =
    let t = l ++ joined ls in
    lines_next t 0 (omega (arith, length-append l (joined ls), h.0))
    ∙ (λ i. take_at l (joined ls) 84 h.0 i ∷ lines (drop_at l (joined ls) 84 h.0 i))
    ∙ ap (λ (x : List (List ℕ)). l ∷ x) (lines_joined ls h.1)
