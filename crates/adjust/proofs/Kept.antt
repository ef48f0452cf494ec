-- The sums that a line keeps: they follow the sections that come and go, they are in range where the sections are, and where they are told to be the sections' they are.
use mathlib.Core.Path.{◌≡◌, refl, sym, ap, ◌∙◌}
use mathlib.Core.Bool.{Bool, true, false, not, cond, ◌&&◌, ◌||◌}
use mathlib.Core.List.{List, [], ◌∷◌, ◌++◌, map}
use Prim.Native.Nat.{◌+◌, ◌*◌, ◌≤◌, ◌<◌}
use native.Mathlib.Omega.{arith}
use lib.ListN.{length}
use lib.IntN.{ℤ, pos, nat_abs, ◌+ℤ◌, ◌-ℤ◌}
use Rattle.numbers.specs.Numbers.{sum, within, eq_z, last_of, but_last}
use Rattle.numbers.proofs.Tests.{and_l, and_r, or_l, or_r, not-false}
use Rattle.numbers.proofs.All.{All, all_head, all_tail}
use Rattle.numbers.proofs.Ring.{ringℤ}
use Rattle.numbers.proofs.Sizes.{abs_add, within_size, within_true}
use Rattle.numbers.proofs.Equal.{eq_z_refl, eq_z_eq}
use Rattle.numbers.proofs.Machine.{stored}
use Rattle.numbers.proofs.Chain.{Value, known, add, sub, kept}
use Rattle.numbers.proofs.Last.{last_parts, sum_more}
use Rattle.roots.specs.Round.{round_even}
use Rattle.station.specs.declared.Staffs.{Staffs}
use Rattle.station.specs.declared.Staffs.TheVariants.{Nominal, Measured}
use Rattle.adjust.specs.declared.Opening.{Opening}
use Rattle.adjust.specs.declared.Section.{Section}
use Rattle.adjust.specs.declared.SectionSums.{SectionSums}
use Rattle.adjust.specs.Sizes.{most_d, most_t, most_sum_q, most_l, most_sum_t}
use Rattle.adjust.specs.Sections.{no_section, leg_fits, section_fits, misfit}
use Rattle.adjust.specs.Terms.{squared_of, terms_of}
use Rattle.adjust.specs.Line.{line_height, line_length, accidental}
use Rattle.adjust.specs.Kept.{sums_of, error_of, sums_plus, sums_minus, sums_fit, same_sums, unsummed}
use Rattle.adjust.specs.code.Bounds.{LegBounds}
use Rattle.adjust.proofs.Lists.{leg_bounds, fitted_legs}
use Rattle.adjust.proofs.Bounded.{accidental_size}
use Rattle.adjust.proofs.Sized.{height_size, length_size}

-- ---- one section more, and one fewer

pub sums_more : (o : Opening) (ss : List Section) (x : Section) → sums_of o (ss ++ (x ∷ [])) ≡ sums_plus o (sums_of o ss) x
sums_more o ss x = λ i.
    record {
      height = sum_more (λ (y : Section). y.height) ss x i;
      distance = sum_more (λ (y : Section). y.distance) ss x i;
      accidental = sum_more (error_of o) ss x i;
    }

-- what was added is taken off again
pub sums_back : (o : Opening) (s : SectionSums) (x : Section) → sums_minus o (sums_plus o s x) x ≡ s
sums_back o s x = λ i. record { height = back s.height x.height i; distance = back s.distance x.distance i; accidental = back s.accidental (error_of o x) i }
  where
    back : (a b : ℤ) → (a +ℤ b) -ℤ b ≡ a
    back a b = simp ringℤ

-- a section of zeros has no error
no_error : (o : Opening) → error_of o no_section ≡ pos 0
unfolding round_even
no_error o = go (terms_of o.class).double o.staffs
  where
    go : (t : Bool) (c : Staffs) → cond t (accidental (squared_of c) no_section) (pos 0) ≡ pos 0
    go true Nominal = refl
    go true (Measured first second) = refl
    go false c = refl

pub sums_less : (o : Opening) (ss : List Section) → sums_of o (but_last ss) ≡ sums_minus o (sums_of o ss) (last_of no_section ss)
sums_less o [] = λ i. record { height = pos 0; distance = pos 0; accidental = pos 0 -ℤ sym (no_error o) i }
sums_less o (x ∷ xs) =
    let ss : List Section = x ∷ xs in
    let last : Section = last_of no_section ss in
    sym (sums_back o (sums_of o (but_last ss)) last)
    ∙ ap (λ (s : SectionSums). sums_minus o s last) (sym (sums_more o (but_last ss) last) ∙ ap (sums_of o) (last_parts no_section x xs))

-- ---- a section in range

pub section_leg : (x : Section) → section_fits x ≡ true → LegBounds x
section_leg x e = leg_bounds x (and_l (leg_fits x) (within x.discrepancy most_d) e)

pub section_apart : (x : Section) → section_fits x ≡ true → nat_abs x.discrepancy ≤ most_d
section_apart x e = within_size x.discrepancy most_d (and_r (leg_fits x) (within x.discrepancy most_d) e)

pub error_size : (o : Opening) (x : Section) → section_fits x ≡ true → nat_abs (error_of o x) ≤ most_t
error_size o x e = go (terms_of o.class).double
  where
    some : (c : Staffs) → 0 < squared_of c
    some Nominal = omega arith
    some (Measured first second) = omega arith

    go : (t : Bool) → nat_abs (cond t (accidental (squared_of o.staffs) x) (pos 0)) ≤ most_t
    go true = accidental_size (squared_of o.staffs) x (some o.staffs) (section_apart x e) (section_leg x e)
    go false = omega arith

-- ---- sums in range

errors_size : (o : Opening) (ss : List Section) → All section_fits ss → nat_abs (sum (map (error_of o) ss)) ≤ most_t * length ss
errors_size o [] f = omega arith
errors_size o (x ∷ xs) f =
    omega (arith, abs_add (error_of o x) (sum (map (error_of o) xs)), error_size o x (all_head section_fits x xs f), errors_size o xs (all_tail section_fits x xs f))

pub sums_in_range : (o : Opening) (ss : List Section) → All section_fits ss → length ss ≤ 64 → sums_fit (sums_of o ss) ≡ true
sums_in_range o ss f few =
    let legs = fitted_legs ss f in
    rw (
      within_true (line_height ss) most_sum_q (omega (arith, height_size ss legs)),
      within_true (line_length ss) most_l (omega (arith, length_size ss legs)),
      within_true (sum (map (error_of o) ss)) most_sum_t (omega (arith, errors_size o ss f)),
    )

pub record SumBounds (s : SectionSums) : Type 0 where
  pub height : nat_abs s.height ≤ most_sum_q
  pub distance : nat_abs s.distance ≤ most_l
  pub accidental : nat_abs s.accidental ≤ most_sum_t

pub sum_bounds : (s : SectionSums) → sums_fit s ≡ true → SumBounds s
sum_bounds s e =
    let h = within s.height most_sum_q in
    let d = within s.distance most_l in
    let t = within s.accidental most_sum_t in
    record {
      height = within_size s.height most_sum_q (and_l h d (and_l (h && d) t e));
      distance = within_size s.distance most_l (and_r h d (and_l (h && d) t e));
      accidental = within_size s.accidental most_sum_t (and_r (h && d) t e);
    }

-- ---- sums that are the sections'

pub same_sums_eq : (s t : SectionSums) → same_sums s t ≡ true → s ≡ t
same_sums_eq s t e =
    let h = eq_z s.height t.height in
    let d = eq_z s.distance t.distance in
    let a = eq_z s.accidental t.accidental in
    λ i.
    record {
      height = eq_z_eq s.height t.height (and_l h d (and_l (h && d) a e)) i;
      distance = eq_z_eq s.distance t.distance (and_r h d (and_l (h && d) a e)) i;
      accidental = eq_z_eq s.accidental t.accidental (and_r (h && d) a e) i;
    }

pub same_sums_refl : (s : SectionSums) → same_sums s s ≡ true
same_sums_refl s = λ i. eq_z_refl s.height i && eq_z_refl s.distance i && eq_z_refl s.accidental i

-- by the test of 20
pub summed_are : (o : Opening) (s : SectionSums) (ss : List Section) → unsummed o s ss ≡ false → s ≡ sums_of o ss
summed_are o s ss e = same_sums_eq s (sums_of o ss) (not-false (same_sums s (sums_of o ss)) (or_r (misfit ss) (not (same_sums s (sums_of o ss))) e))

pub summed_fit : (o : Opening) (s : SectionSums) (ss : List Section) → unsummed o s ss ≡ false → misfit ss ≡ false
summed_fit o s ss e = or_l (misfit ss) (not (same_sums s (sums_of o ss))) e

pub own_summed : (o : Opening) (ss : List Section) → misfit ss ≡ false → unsummed o (sums_of o ss) ss ≡ false
own_summed o ss e = λ i. e i || not (same_sums_refl (sums_of o ss) i)

-- ---- as the machine adds and takes off a section of the error t

module _ (o : Opening) (s : SectionSums) (x : Section) (f : sums_fit s ≡ true) (e : section_fits x ≡ true) {t : ℤ} (is : t ≡ error_of o x) where
  abbrev b : SumBounds s
  b = sum_bounds s f

  abbrev leg : LegBounds x
  leg = section_leg x e

  error : Value (stored t) (error_of o x) most_t
  error = record { is = (known t {k = most_t} (omega (arith, ap nat_abs is, error_size o x e)) tt).is ∙ is; size = error_size o x e }

  pub plus_error : Value (stored s.accidental +ℤ stored t) (s.accidental +ℤ error_of o x) (most_sum_t + most_t)
  plus_error = add (known s.accidental b.accidental tt) error

  pub minus_error : Value (stored s.accidental -ℤ stored t) (s.accidental -ℤ error_of o x) (most_sum_t + most_t)
  minus_error = sub (known s.accidental b.accidental tt) error

  pub plus_stored : record { height = stored (stored s.height +ℤ stored x.height); distance = stored (stored s.distance +ℤ stored x.distance); accidental = stored (stored s.accidental +ℤ stored t) } ≡ sums_plus o s x
  plus_stored = λ i.
      record {
        height = (kept (add (known s.height b.height tt) (known x.height leg.height tt)) tt).is i;
        distance = (kept (add (known s.distance b.distance tt) (known x.distance leg.distance tt)) tt).is i;
        accidental = (kept plus_error tt).is i;
      }

  pub minus_stored : record { height = stored (stored s.height -ℤ stored x.height); distance = stored (stored s.distance -ℤ stored x.distance); accidental = stored (stored s.accidental -ℤ stored t) } ≡ sums_minus o s x
  minus_stored = λ i.
      record {
        height = (kept (sub (known s.height b.height tt) (known x.height leg.height tt)) tt).is i;
        distance = (kept (sub (known s.distance b.distance tt) (known x.distance leg.distance tt)) tt).is i;
        accidental = (kept minus_error tt).is i;
      }
