-- T lies within n half units of the exact sum of its fractions, and so the verdict on a T further than that from its limit is that of the exact sum.
use mathlib.Core.Path.{◌≡◌, refl, sym, ap, subst, ◌∙◌}
use mathlib.Core.Bool.{Bool, true, not, cond, ◌||◌}
use mathlib.Core.List.{List, [], ◌∷◌, ◌++◌, map}
use Prim.Native.Nat.{ℕ, suc, ◌+◌, ◌*◌, ◌≤◌, ◌<◌}
use native.Mathlib.Nat.{mul-pos, mul-le-mul_left}
use native.Mathlib.Omega.{arith}
use lib.Dec.{ltb}
use lib.ListN.{length, length-append, length-map}
use lib.IntN.{ℤ, pos, nat_abs, ◌+ℤ◌, ◌-ℤ◌, ◌*ℤ◌, +ℤ_assoc, +ℤ_idl, *ℤ_comm}
use lib.Signed.{◌≤ℤ◌, ◌<ℤ◌, le_z}
use Rattle.numbers.specs.Numbers.{sum}
use Rattle.numbers.proofs.Tests.{by_test, is_true, is_false}
use Rattle.numbers.proofs.Ring.{ringℤ}
use Rattle.numbers.proofs.Parts.{ints, parts_sub, parts_abs, test_le, test_gt, le_z_true, le_z_false, pos_part, neg_part, pos_abs}
use Rattle.numbers.proofs.Sizes.{abs_add, abs_mul}
use Rattle.roots.specs.Round.{round_even}
use Rattle.roots.proofs.RoundLaws.{round_is}
use Rattle.station.specs.declared.Staffs.{Staffs}
use Rattle.station.specs.declared.Staffs.TheVariants.{Nominal, Measured}
use Rattle.adjust.specs.declared.Section.{Section}
use Rattle.adjust.specs.declared.Verdict.TheVariants.{NotGiven, Within, Above}
use Rattle.adjust.specs.declared.terms.Class.{Class}
use Rattle.adjust.specs.declared.terms.Class.TheVariants.{Third}
use Rattle.adjust.specs.declared.terms.Terms.{Terms}
use Rattle.adjust.specs.Terms.{terms_of, squared_of}
use Rattle.adjust.specs.Line.{accidental, verdict}
use Rattle.adjust.proofs.Lists.{Fit, fit_head, fit_tail, fitted_legs}
use Rattle.adjust.specs.code.Bounds.{LegBounds}
use Rattle.rules.specs.declared.call.Call.{Call}
use Rattle.ledger.specs.Plain.{Reading, fresh_reading, after, plain_state, figures_of}
use Rattle.ledger.specs.Exact.{Fraction, bottom_of, top_of, fraction, NearExact, limit_of, FarFromLimit, exact_verdict, TrueVerdict, fractions, EveryVerdict, AllThird, pooled_fractions, pooled_count, pooled_t, EveryNetVerdict}
use Rattle.ledger.proofs.Kept.{calls_kept}

-- ---- fractions with divisors

abbrev Divided : List Fraction → Type 0
Divided [] = Unit {0}
Divided (x ∷ xs) = (0 < x.bottom) × Divided xs

divided_append : (xs ys : List Fraction) → Divided xs → Divided ys → Divided (xs ++ ys)
divided_append [] ys d e = e
divided_append (x ∷ xs) ys d e = (d.0, divided_append xs ys d.1 e)

bottom_some : (xs : List Fraction) → Divided xs → 1 ≤ bottom_of xs
bottom_some [] d = omega arith
bottom_some (x ∷ xs) d = let more = bottom_some xs d.1 in omega (arith, mul-pos d.0 more)

abbrev rounded : List Fraction → ℤ
rounded xs = sum (map (λ (x : Fraction). round_even x.top x.bottom) xs)

rounded_append : (xs ys : List Fraction) → rounded (xs ++ ys) ≡ rounded xs +ℤ rounded ys
rounded_append [] ys = sym (+ℤ_idl (rounded ys))
rounded_append (x ∷ xs) ys =
    ap (λ (z : ℤ). round_even x.top x.bottom +ℤ z) (rounded_append xs ys) ∙ sym (+ℤ_assoc (round_even x.top x.bottom) (rounded xs) (rounded ys))

-- ---- how far a sum of rounded fractions is from the exact one

-- by how far its first fraction is, and the others
apart : (a t b p s n : ℤ) → (b *ℤ p) *ℤ (t +ℤ s) -ℤ (a *ℤ p +ℤ b *ℤ n) ≡ p *ℤ (b *ℤ t -ℤ a) +ℤ b *ℤ (p *ℤ s -ℤ n)
apart a t b p s n = simp ringℤ

-- half a unit for the first, and for each of k others
halves : (b p k x y z : ℕ) → 2 * x ≤ b → 2 * y ≤ k * p → z ≤ p * x + b * y → 2 * z ≤ suc k * (b * p)
halves b p k x y z h i j =
    let first : p * (2 * x) ≤ p * b = mul-le-mul_left p h in
    let others : b * (2 * y) ≤ b * (k * p) = mul-le-mul_left b i in
    grind (arith, first, others, j)

near : (xs : List Fraction) → Divided xs → NearExact xs (rounded xs)
near [] d = omega arith
near (x ∷ xs) d =
    let b = pos x.bottom in
    let p = pos (bottom_of xs) in
    let t = round_even x.top x.bottom in
    let here = b *ℤ t -ℤ x.top in
    let there = p *ℤ rounded xs -ℤ top_of xs in
    let whole = ap nat_abs (apart x.top t b p (rounded xs) (top_of xs)) in
    halves x.bottom (bottom_of xs) (length xs) (nat_abs here) (nat_abs there) _ (round_is x.top x.bottom d.0).near (near xs d.1)
    (omega (arith, whole, abs_add (p *ℤ here) (b *ℤ there), abs_mul p here, abs_mul b there))

-- ---- which side of its limit

-- of q = p × t and r = p × m, from which n is less far than they from one another
under : (q r n : ℤ) (a : ℕ) → r -ℤ q ≡ pos a → nat_abs (q -ℤ n) < a → n <ℤ r
under q r n a e h = omega (ints, parts_sub r q, ap pos_part e, ap neg_part e, parts_sub q n, parts_abs (q -ℤ n))

over : (q r n : ℤ) (a : ℕ) → q -ℤ r ≡ pos a → nat_abs (q -ℤ n) < a → r <ℤ n
over q r n a e h = omega (ints, parts_sub q r, ap pos_part e, ap neg_part e, parts_sub q n, parts_abs (q -ℤ n))

times_apart : (p a b : ℤ) → p *ℤ a -ℤ p *ℤ b ≡ p *ℤ (a -ℤ b)
times_apart p a b = simp ringℤ

-- p times what is more than n / 2
further : (p n k e : ℕ) → 1 ≤ p → 2 * e ≤ n * p → n < 2 * k → e < p * k
further p n k e one h far =
    let more : p * suc n ≤ p * (2 * k) = mul-le-mul_left p far in
    grind (arith, more, h, one)

same_side : (t m n : ℤ) (p k : ℕ) → 1 ≤ p → 2 * nat_abs (pos p *ℤ t -ℤ n) ≤ k * p → k < 2 * nat_abs (t -ℤ m) → le_z t m ≡ le_z n (m *ℤ pos p)
same_side t m n p k one h far =
    by_test (le_z t m) (λ b. b ≡ le_z n (m *ℤ pos p)) (λ y. sym (le_z_true (at_most (test_le (is_true y))))) (λ y. sym (le_z_false (more (test_gt (is_false y)))))
  where
    gap : ℕ
    gap = nat_abs (t -ℤ m)

    short : nat_abs (pos p *ℤ t -ℤ n) < p * gap
    short = further p k gap (nat_abs (pos p *ℤ t -ℤ n)) one h far

    at_most : t ≤ℤ m → n ≤ℤ (m *ℤ pos p)
    at_most y =
        let up : m -ℤ t ≡ pos gap = sym (pos_abs (omega (ints, parts_sub m t))) ∙ ap pos (omega (arith, parts_abs (m -ℤ t), parts_abs (t -ℤ m), parts_sub m t, parts_sub t m)) in
        let below : n <ℤ (pos p *ℤ m) = under (pos p *ℤ t) (pos p *ℤ m) n (p * gap) (times_apart (pos p) m t ∙ ap (λ (z : ℤ). pos p *ℤ z) up) short in
        subst (λ (z : ℤ). n ≤ℤ z) (*ℤ_comm (pos p) m) (omega ints)

    more : m <ℤ t → (m *ℤ pos p) <ℤ n
    more y =
        let down : t -ℤ m ≡ pos gap = sym (pos_abs (omega (ints, parts_sub t m))) in
        let above : (pos p *ℤ m) <ℤ n = over (pos p *ℤ t) (pos p *ℤ m) n (p * gap) (times_apart (pos p) t m ∙ ap (λ (z : ℤ). pos p *ℤ z) down) short in
        subst (λ (z : ℤ). z <ℤ n) (*ℤ_comm (pos p) m) above

-- ---- n and T of fractions

of_fractions : (terms : Terms) (xs : List Fraction) (n : ℕ) (t : ℤ) → Divided xs → n ≡ length xs → t ≡ rounded xs → TrueVerdict terms xs n t (verdict terms n t)
of_fractions terms xs n t d many is =
    record { sections = many; divisor = some; near = close; verdict = λ far. ap (λ (m : ℕ). verdict terms m t) many ∙ told (subst (λ (m : ℕ). FarFromLimit terms m t) many far) }
  where
    some : 1 ≤ bottom_of xs
    some = bottom_some xs d

    close : NearExact xs t
    close = subst (NearExact xs) (sym is) (near xs d)

    told : FarFromLimit terms (length xs) t → verdict terms (length xs) t ≡ exact_verdict terms xs
    told far =
        λ i. cond (not terms.double || ltb (length xs) 20) NotGiven (cond (same_side t (limit_of terms (length xs)) (top_of xs) (bottom_of xs) (length xs) some close far i) Within Above)

-- ---- of a line

divides : (c : Staffs) (x : Section) → LegBounds x → 0 < (fraction (squared_of c) x).bottom
divides Nominal x b = omega (ints, b.long, parts_abs x.distance)
divides (Measured first second) x b = omega (ints, b.long, parts_abs x.distance)

sections_divided : (c : Staffs) (ss : List Section) → Fit ss → Divided (map (fraction (squared_of c)) ss)
sections_divided c [] f = tt
sections_divided c (x ∷ xs) f = (divides c x (fit_head x xs f), sections_divided c xs (fit_tail x xs f))

sections_rounded : (squared : ℕ) (ss : List Section) → sum (map (accidental squared) ss) ≡ rounded (map (fraction squared) ss)
sections_rounded squared [] = refl
sections_rounded squared (x ∷ xs) = ap (λ (z : ℤ). accidental squared x +ℤ z) (sections_rounded squared xs)

module _ (calls : List Call) where
  abbrev left : Reading
  left = after fresh_reading calls

  abbrev standing : List Section
  standing = (plain_state left).sections

  line_divided : Divided (fractions left)
  line_divided = sections_divided left.opening.staffs standing (fitted_legs standing (calls_kept calls).fit)

  line_count : (figures_of left).summary.count ≡ length (fractions left)
  line_count = sym (length-map standing (fraction (squared_of left.opening.staffs)))

  line_t : (terms_of left.opening.class).double ≡ true → (figures_of left).summary.accidental ≡ rounded (fractions left)
  line_t e =
      let squared = squared_of left.opening.staffs in
      ap (λ (b : Bool). sum (map (λ (x : Section). cond b (accidental squared x) (pos 0)) standing)) e ∙ sections_rounded squared standing

pub every_verdict : EveryVerdict
every_verdict calls e = of_fractions (terms_of (left calls).opening.class) (fractions (left calls)) _ _ (line_divided calls) (line_count calls) (line_t calls e)

-- ---- of a net

net_divided : (lists : List (List Call)) → Divided (pooled_fractions lists)
net_divided [] = tt
net_divided (calls ∷ lists) = divided_append (fractions (left calls)) (pooled_fractions lists) (line_divided calls) (net_divided lists)

net_count : (lists : List (List Call)) → pooled_count lists ≡ length (pooled_fractions lists)
net_count [] = refl
net_count (calls ∷ lists) = omega (arith, line_count calls, net_count lists, length-append (fractions (left calls)) (pooled_fractions lists))

net_t : (lists : List (List Call)) → AllThird lists → pooled_t lists ≡ rounded (pooled_fractions lists)
net_t [] a = refl
net_t (calls ∷ lists) a =
    (λ i. line_t calls (ap (λ (k : Class). (terms_of k).double) a.0) i +ℤ net_t lists a.1 i) ∙ sym (rounded_append (fractions (left calls)) (pooled_fractions lists))

pub every_net_verdict : EveryNetVerdict
every_net_verdict lists a = of_fractions (terms_of Third) (pooled_fractions lists) (pooled_count lists) (pooled_t lists) (net_divided lists) (net_count lists) (net_t lists a)
