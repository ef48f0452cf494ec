-- The table of classes at work: at third order, at fourth and on a spur, on both sides of each limit. Limits of a root are taken at 1 km, 20,000 half dm.
use mathlib.Core.Path.{◌≡◌, refl}
use mathlib.Core.Bool.{Bool, true, false}
use mathlib.Core.List.{List, [], ◌∷◌, ◌++◌, map}
use Prim.Native.Nat.{ℕ, ◌+◌, ◌*◌}
use lib.IntN.{pos}
use Rattle.roots.specs.Round.{round_even}
use Rattle.roots.specs.Limit.{is_within}
use Rattle.adjust.specs.declared.terms.Class.{Class}
use Rattle.adjust.specs.declared.terms.Class.TheVariants.{Third, Fourth, Spur}
use Rattle.adjust.specs.declared.Section.{Section}
use Rattle.adjust.specs.Terms.{terms_of}
use Rattle.adjust.specs.Line.{accidental_sum, verdict, verdict_number}
use Rattle.rules.specs.Rules.{discrepancy_within, length_limit, closure_within}

abbrev classes : {A : Type 0} → (Class → A) → List A
classes f = f Third ∷ f Fourth ∷ f Spur ∷ []

-- a section of 1 km with the discrepancy d, in half mm
abbrev kilometre : ℕ → Section
kilometre d = record { number = pos 0; height = pos 0; distance = pos 20000; discrepancy = pos d }

-- only third order and spurs are levelled out and back, and only spurs have no known end
pub ways : classes (λ o. (terms_of o).double) ≡ true ∷ false ∷ true ∷ []
ways = refl

pub ends : classes (λ o. (terms_of o).tied) ≡ true ∷ true ∷ false ∷ []
ends = refl

-- D of 12 mm, and on a spur of 20 mm, and of half a mm more
abbrev aparts : Class → List ℕ → List Bool
aparts o ds = map (λ d. discrepancy_within (terms_of o).apart (kilometre d)) ds

pub apart : aparts Third (24 ∷ 25 ∷ []) ++ aparts Spur (40 ∷ 41 ∷ []) ≡ true ∷ false ∷ true ∷ false ∷ []
unfolding is_within
apart = refl

-- where the end is known, W of 12 mm and of 20 mm, and of a quarter mm more
abbrev orders : {A : Type 0} → (Class → A) → List A
orders f = f Third ∷ f Fourth ∷ []

pub closures : orders (λ o. map (λ w. closure_within (terms_of o) (pos w) (pos 20000)) (48 ∷ 49 ∷ 80 ∷ 81 ∷ []))
    ≡ (true ∷ false ∷ false ∷ false ∷ []) ∷ (true ∷ true ∷ true ∷ false ∷ []) ∷ []
unfolding is_within
closures = refl

-- L of a line and of a loop: 150 and 200 km, 80 and 100 km
pub lengths : orders (λ o. map (length_limit (terms_of o)) (false ∷ true ∷ []))
    ≡ (pos 3000000 ∷ pos 4000000 ∷ []) ∷ (pos 1600000 ∷ pos 2000000 ∷ []) ∷ []
lengths = refl

pub sums : classes (λ o. accidental_sum (terms_of o) 1 (kilometre 24 ∷ kilometre 24 ∷ [])) ≡ pos 28800 ∷ pos 0 ∷ pos 28800 ∷ []
unfolding round_even
sums = refl

-- of T within its limit for each section and beyond it, at 19 and at 20 sections
abbrev verdicts : ℕ → Class → List ℕ
verdicts most o =
    map verdict_number
    (verdict (terms_of o) 19 (pos (19 * most + 1)) ∷ verdict (terms_of o) 20 (pos (20 * most)) ∷ verdict (terms_of o) 20 (pos (20 * most + 1)) ∷ [])

pub judged : verdicts 3600 Third ∷ verdicts 0 Fourth ∷ verdicts 10000 Spur ∷ [] ≡ (0 ∷ 1 ∷ 2 ∷ []) ∷ (0 ∷ 0 ∷ 0 ∷ []) ∷ (0 ∷ 1 ∷ 2 ∷ []) ∷ []
judged = refl
