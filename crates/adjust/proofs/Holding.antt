-- A list of sections in an array: it is read back, an array that holds its own list is unchanged, and one section more or one fewer is one store.
use mathlib.Core.Path.{◌≡◌, refl, sym, ap, ◌∙◌}
use mathlib.Core.List.{List, [], ◌∷◌, ◌++◌, append_assoc}
use Prim.Native.Nat.{ℕ, ◌+◌, ◌-◌, ◌≤◌, ◌<◌}
use native.Mathlib.Omega.{arith}
use lib.ListN.{length, get_or, set, take, drop, replicate, length-append, length-take, length-replicate, take-append-drop}
use lib.Seq.{take-append_seam, set-append_seam, drop_at}
use Rattle.std.proofs.lemmas.List.{replicate_more, drop-replicate, replicate-append-replicate}
use Rattle.numbers.specs.Numbers.{over, last_of, but_last, filled}
use Rattle.numbers.proofs.Arrays.{over_next, over_again, over_full}
use Rattle.numbers.proofs.Filled.{filled_length}
use Rattle.numbers.proofs.Last.{last_parts, but_last_length}
use Rattle.adjust.specs.declared.Section.{Section}
use Rattle.adjust.specs.declared.Sections.{Sections}
use Rattle.adjust.specs.Sections.{no_section, sections_of, holding}

-- the array has 64 places, as the type says
abbrev pub Places : Sections → Type 0
Places s = length s.places ≡ 64

pub sections_count : (s : Sections) → length (sections_of s) ≡ s.count
sections_count s = filled_length no_section s.count s.places

-- a front of an array, filled to its own length
filled_short : (xs : List Section) (n : ℕ) → n ≤ length xs → filled no_section n xs ≡ take n xs
filled_short xs n h =
    let l = length-replicate n no_section in
    (λ i. take (l i) xs ++ drop (length (take (l i) xs)) (replicate n no_section))
    ∙ over_full (take n xs) (replicate n no_section) (omega (arith, length-take n xs, l))

-- where there is a place for each, the sections are the first places
pub listed : (s : Sections) → Places s → s.count ≤ 64 → take s.count s.places ≡ sections_of s
listed s w h = sym (filled_short s.places s.count (omega (arith, w)))

-- ---- the list is read back

-- the places with zeros for the sections that it held
abbrev pub cleared : Sections → List Section
cleared s = over (replicate s.count no_section) s.places

pub sections_holding : (s : Sections) (ss : List Section) → sections_of (holding s ss) ≡ ss
unfolding holding
sections_holding s ss =
    let e : length ss ≤ length (over ss (cleared s)) = omega (arith, length-append ss (drop (length ss) (cleared s))) in
    filled_short (over ss (cleared s)) (length ss) e ∙ take-append_seam ss (drop (length ss) (cleared s))

-- a section of the list is in the place that it has there
at_seam : (ps : List Section) (x : Section) (xs rest : List Section) → get_or ((ps ++ (x ∷ xs)) ++ rest) (length ps) no_section ≡ x
at_seam [] x xs rest = refl
at_seam (p ∷ ps) x xs rest = at_seam ps x xs rest

pub section_at_lem : (s : Sections) (ps : List Section) (x : Section) (xs : List Section) → get_or (holding s (ps ++ (x ∷ xs))).places (length ps) no_section ≡ x
unfolding holding
section_at_lem s ps x xs = at_seam ps x xs (drop (length (ps ++ (x ∷ xs))) (cleared s))

-- a list no shorter than what was held covers it
covers : (s : Sections) (ss : List Section) → s.count ≤ length ss → over ss (cleared s) ≡ over ss s.places
covers s ss h = over_again (replicate s.count no_section) ss s.places (omega (arith, length-replicate s.count no_section))

-- ---- an array that holds its own list

own_places : (s : Sections) → Places s → s.count ≤ 64 → over (sections_of s) s.places ≡ s.places
own_places s w h = (λ i. sym (listed s w h) i ++ drop (sections_count s i) s.places) ∙ take-append-drop s.count s.places

pub holding_own : (s : Sections) → Places s → s.count ≤ 64 → holding s (sections_of s) ≡ s
unfolding holding
holding_own s w h = λ i. record { count = sections_count s i; places = (covers s (sections_of s) (omega (arith, sections_count s)) ∙ own_places s w h) i }

-- the array s with the section x in the place behind the last
abbrev pub stored : Sections → Section → Sections
stored s x = record { count = s.count + 1; places = set s.places s.count x }

pub holding_more : (s : Sections) (x : Section) → Places s → s.count < 64 → holding s (sections_of s ++ (x ∷ [])) ≡ stored s x
unfolding holding
holding_more s x w h = λ i. record { count = longer i; places = (covers s (sections_of s ++ (x ∷ [])) (omega (arith, longer)) ∙ more) i }
  where
    longer : length (sections_of s ++ (x ∷ [])) ≡ s.count + 1
    longer = length-append (sections_of s) (x ∷ []) ∙ ap (λ (n : ℕ). n + 1) (sections_count s)

    more : over (sections_of s ++ (x ∷ [])) s.places ≡ set s.places s.count x
    more =
        sym (over_next (sections_of s) s.places x (omega (arith, w, sections_count s)))
        ∙ (λ i. set (own_places s w (omega arith) i) (sections_count s i) x)

-- the array s without its last section, whose place is cleared
abbrev pub lifted : Sections → Sections
lifted s = record { count = s.count - 1; places = set s.places (s.count - 1) no_section }

pub holding_less : (s : Sections) → Places s → 0 < s.count → s.count ≤ 64 → holding s (but_last (sections_of s)) ≡ lifted s
unfolding holding
holding_less s w some h = go (sections_of s) (sections_count s) (own_places s w h)
  where
    go : (ss : List Section) → length ss ≡ s.count → over ss s.places ≡ s.places → record { count = length (but_last ss); places = over (but_last ss) (cleared s) } ≡ lifted s
    go [] n own = absurd (omega (arith, n))
    go (x ∷ xs) n own = λ i. record { count = fewer i; places = (ap (λ (l : List Section). ys ++ l) emptied ∙ sym (set-append_seam ys last behind no_section) ∙ (λ j. set (sym held j) (fewer j) no_section)) i }
      where
        ys : List Section
        ys = but_last (x ∷ xs)

        last : Section
        last = last_of no_section (x ∷ xs)

        behind : List Section
        behind = drop (length (x ∷ xs)) s.places

        fewer : length ys ≡ s.count - 1
        fewer = omega (arith, but_last_length x xs, n)

        -- what it held was ys and the last section
        held : s.places ≡ ys ++ (last ∷ behind)
        held = sym own ∙ ap (λ (l : List Section). l ++ behind) (sym (last_parts no_section x xs)) ∙ append_assoc ys (last ∷ []) behind

        zeros : cleared s ≡ (replicate (length ys) no_section ++ (no_section ∷ [])) ++ behind
        zeros = λ i. (ap (λ (k : ℕ). replicate k no_section) (let more : s.count ≡ length ys + 1 = omega (arith, fewer, some) in more) ∙ sym (replicate_more (length ys) no_section)) i
            ++ drop ((length-replicate s.count no_section ∙ sym n) i) s.places

        emptied : drop (length ys) (cleared s) ≡ no_section ∷ behind
        emptied =
            ap (drop (length ys)) (zeros ∙ append_assoc (replicate (length ys) no_section) (no_section ∷ []) behind)
            ∙ drop_at (replicate (length ys) no_section) (no_section ∷ behind) (length ys) (length-replicate (length ys) no_section)

-- ---- an array of zeros

-- with nothing in it
abbrev pub no_sections : Sections
no_sections = record { count = 0; places = filled no_section 64 [] }

pub holding_none : holding no_sections [] ≡ no_sections
unfolding holding
holding_none = refl

-- of two lists put into it one after the other, the second stands
pub holding_again : (xs ys : List Section) → length xs ≤ 64 → holding (holding no_sections xs) ys ≡ holding no_sections ys
unfolding holding
holding_again xs ys h = λ i. record { count = length ys; places = over ys ((covered ∙ zeros) i) }
  where
    none : List Section
    none = replicate (length xs) no_section

    covered : over none (over xs no_sections.places) ≡ over none no_sections.places
    covered = over_again xs none no_sections.places (omega (arith, length-replicate (length xs) no_section))

    zeros : over none no_sections.places ≡ no_sections.places
    zeros =
        ap (λ (l : List Section). none ++ l) (ap (λ (k : ℕ). drop k (replicate 64 no_section)) (length-replicate (length xs) no_section) ∙ drop-replicate (length xs) 64 no_section)
        ∙ replicate-append-replicate (length xs) (64 - length xs) no_section
        ∙ ap (λ (k : ℕ). replicate k no_section) (let all : length xs + (64 - length xs) ≡ 64 = omega arith in all)
