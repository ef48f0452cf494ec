-- In a run of an even number of stations in which the staffs take turns the constants cancel, two stations at a time.
use mathlib.Core.Path.{◌≡◌, refl, sym, ap, ◌∙◌}
use mathlib.Core.Bool.{Bool, true, false, ◌&&◌, ◌||◌}
use mathlib.Core.List.{List, [], ◌∷◌, map}
use native.Mathlib.Omega.{arith}
use Prim.Native.Nat.{ℕ}
use lib.IntN.{ℤ, pos, ◌+ℤ◌, ◌-ℤ◌, ◌*ℤ◌}
use Rattle.numbers.specs.Numbers.{eq_z, sum}
use Rattle.numbers.proofs.Tests.{no_true, and_l, and_r}
use Rattle.numbers.proofs.Ring.{ringℤ, one_mulℤ}
use Rattle.numbers.proofs.Parts.{ints, pos_part, neg_part, parts_add, parts_eq}
use Rattle.numbers.proofs.Equal.{eq_z_eq}
use Rattle.station.specs.declared.Staffs.{Staffs}
use Rattle.station.specs.declared.Staffs.TheVariants.{Nominal, Measured}
use Rattle.station.specs.declared.Station.{Station}
use Rattle.station.specs.Station.{scale_of, constant_of, in_parts, constants_paired, twice_height}
use Rattle.ledger.specs.Claims.{in_turn, ConstantsCancel}

-- ---- two stations, the second with the staffs of the first exchanged

-- both staffs of a station are there: the nominal constants add up to 9474
both : (x : Station) → constants_paired x ≡ true → x.back.constant +ℤ x.fore.constant ≡ pos 9474
both x e = go (eq_z b (pos 4687) && eq_z f (pos 4787)) (eq_z b (pos 4787) && eq_z f (pos 4687)) refl refl e
  where
    b : ℤ
    b = x.back.constant

    f : ℤ
    f = x.fore.constant

    pair : (m n : ℕ) → eq_z b (pos m) && eq_z f (pos n) ≡ true → b +ℤ f ≡ pos m +ℤ pos n
    pair m n h = λ i. eq_z_eq b (pos m) (and_l (eq_z b (pos m)) (eq_z f (pos n)) h) i +ℤ eq_z_eq f (pos n) (and_r (eq_z b (pos m)) (eq_z f (pos n)) h) i

    go : (s t : Bool) → eq_z b (pos 4687) && eq_z f (pos 4787) ≡ s → eq_z b (pos 4787) && eq_z f (pos 4687) ≡ t → s || t ≡ true → b +ℤ f ≡ pos 9474
    go true t p q e = pair 4687 4787 p
    go false true p q e = pair 4787 4687 q
    go false false p q e = no_true e

exchanged : (x y : Station) → constants_paired x ≡ true → constants_paired y ≡ true → y.back.constant ≡ x.fore.constant → y.fore.constant ≡ x.back.constant
exchanged x y p q e =
    parts_eq y.fore.constant x.back.constant
    (omega (
      ints,
      ap pos_part (both x p),
      ap neg_part (both x p),
      ap pos_part (both y q),
      ap neg_part (both y q),
      ap pos_part e,
      ap neg_part e,
      parts_add x.back.constant x.fore.constant,
      parts_add y.back.constant y.fore.constant,
    ))

-- twice the two heights together, by the readings alone
abbrev by_readings : Station → Station → ℤ
by_readings x y =
    (x.back.black -ℤ x.fore.black) +ℤ (x.back.red -ℤ x.fore.red) +ℤ ((y.back.black -ℤ y.fore.black) +ℤ (y.back.red -ℤ y.fore.red))

cancels : (s mb mf rb rf nb nf tb tf k l r : ℤ)
    → ((s *ℤ mb -ℤ s *ℤ mf) +ℤ (s *ℤ rb -ℤ s *ℤ rf) -ℤ (k -ℤ l)) +ℤ (((s *ℤ nb -ℤ s *ℤ nf) +ℤ (s *ℤ tb -ℤ s *ℤ tf) -ℤ (l -ℤ k)) +ℤ r)
    ≡ s *ℤ ((mb -ℤ mf) +ℤ (rb -ℤ rf) +ℤ ((nb -ℤ nf) +ℤ (tb -ℤ tf))) +ℤ r
cancels s mb mf rb rf nb nf tb tf k l r = simp ringℤ

-- before a sum r
two_heights : (c : Staffs) (x y : Station) (r : ℤ) → y.back.constant ≡ x.fore.constant → y.fore.constant ≡ x.back.constant
    → twice_height c x +ℤ (twice_height c y +ℤ r) ≡ in_parts c (by_readings x y) +ℤ r
two_heights c x y r back fore =
    let black : ℤ = in_parts c y.back.black -ℤ in_parts c y.fore.black in
    let red : ℤ = in_parts c y.back.red -ℤ in_parts c y.fore.red in
    (λ i. twice_height c x +ℤ ((black +ℤ red -ℤ (constant_of c (back i) -ℤ constant_of c (fore i))) +ℤ r))
    ∙ cancels (pos (scale_of c)) x.back.black x.fore.black x.back.red x.fore.red y.back.black y.fore.black y.back.red y.fore.red
    (constant_of c x.back.constant) (constant_of c x.fore.constant) r

together : (s a q : ℤ) → s *ℤ a +ℤ s *ℤ q ≡ s *ℤ (a +ℤ q)
together s a q = simp ringℤ

-- ---- a run

first_paired : (x : Station) (xs : List Station) → in_turn (x ∷ xs) ≡ true → constants_paired x ≡ true
first_paired x [] e = e
first_paired x (y ∷ ys) e =
    let turn = eq_z y.back.constant x.fore.constant in
    and_l (constants_paired x) turn (and_l (constants_paired x && turn) (in_turn (y ∷ ys)) e)

rest_in_turn : (x : Station) (xs : List Station) → in_turn (x ∷ xs) ≡ true → in_turn xs ≡ true
rest_in_turn x [] e = refl
rest_in_turn x (y ∷ ys) e = and_r (constants_paired x && eq_z y.back.constant x.fore.constant) (in_turn (y ∷ ys)) e

pub constants_cancel : ConstantsCancel
constants_cancel first second [] e even = refl
constants_cancel first second (x ∷ []) e even = absurd (omega (arith, even))
constants_cancel first second (x ∷ (y ∷ zs)) e even =
    let turn = eq_z y.back.constant x.fore.constant in
    let here = constants_paired x in
    let rest = and_r (here && turn) (in_turn (y ∷ zs)) e in
    let back = eq_z_eq y.back.constant x.fore.constant (and_r here turn (and_l (here && turn) (in_turn (y ∷ zs)) e)) in
    let fore = exchanged x y (first_paired x (y ∷ zs) e) (first_paired y zs rest) back in
    let later = constants_cancel first second zs (rest_in_turn y zs rest) (omega (arith, even)) in
    let two : ℤ = by_readings x y in
    let nominal : ℤ = sum (map (twice_height Nominal) zs) in
    two_heights (Measured first second) x y _ back fore
    ∙ ap (λ (z : ℤ). pos 10 *ℤ two +ℤ z) later
    ∙ together (pos 10) two nominal
    ∙ ap (λ (z : ℤ). pos 10 *ℤ z) (ap (λ (z : ℤ). z +ℤ nominal) (sym (one_mulℤ two)) ∙ sym (two_heights Nominal x y nominal back fore))
