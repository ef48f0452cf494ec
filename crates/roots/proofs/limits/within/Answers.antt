-- By magnitudes, but where b is above 0 and l below: what is held to 128 bits compares with b × l as it is.
use mathlib.Core.Path.{◌≡◌, sym, ap, ◌∙◌}
use mathlib.Core.Bool.{false}
use Prim.Native.Nat.{ℕ, zero, suc, ◌*◌, ◌≤◌, ◌<◌, min}
use native.Mathlib.Nat.{mul-pos, zero-mul, mul-zero, mul-le-mul}
use native.Mathlib.Omega.{arith}
use lib.Dec.{eqb, leb}
use borrow.Author.Tests.{le-leb, lt-leb, ne_eqb}
use lib.IntN.{ℤ, pos, negsuc, nat_abs, ◌*ℤ◌, zero-*ℤ}
use lib.Signed.{◌≤ℤ◌, ◌<ℤ◌, le_z}
use Rattle.numbers.proofs.Tests.{leb_same}
use Rattle.numbers.proofs.Parts.{ints, parts_times, neg_part, no_pos_part, le_z_false}
use Rattle.numbers.proofs.Sizes.{square_abs}
use Rattle.numbers.proofs.Machine.{stored_id, literal_as, fits_abs, branch_lt, branch_ge}
use Rattle.roots.specs.Limit.{is_within}
use Rattle.roots.proofs.LimitLaws.{within_nat}
use Rattle.roots.proofs.limits.within.Goals as goal
use Rattle.roots.proofs.limits.within.Goals.{else-b-gt0-via-then-b-gt0+else-l-lt0, else-b-gt0-via-else-b-gt0}

-- nothing is within a limit below 0
never : (a b : ℕ) (x l : ℤ) → 0 < b → l <ℤ pos 0 → is_within a x b l ≡ false
unfolding is_within
never a b x l h k =
    let n : 0 < neg_part l = omega ints in
    le_z_false {a = pos a *ℤ (x *ℤ x)} {b = pos b *ℤ l}
    (rw (square_abs x) (omega (ints, parts_times b l, mul-pos h n, ap (λ (m : ℕ). b * m) (no_pos_part k), mul-zero b)))

-- where b is 0, l does not count
by_sizes : (a b : ℕ) (x l : ℤ) → (0 < b → pos 0 ≤ℤ l) → leb (a * (nat_abs x * nat_abs x)) (b * nat_abs l) ≡ is_within a x b l
unfolding is_within
by_sizes a b x (pos n) h = sym (within_nat a x b n)
by_sizes a zero x (negsuc n) h =
    (λ i. leb (a * (nat_abs x * nat_abs x)) (zero-mul (suc n) i)) ∙ (λ i. le_z (pos a *ℤ sym (square_abs x) i) (sym (zero-*ℤ (negsuc n)) i))
by_sizes a (suc b) x (negsuc n) h = absurd (h (omega arith)).le

-- a number held to `top` is as far below k as it is itself
held : (n k top : ℕ) → k < top → leb (min n top) k ≡ leb n k
held n k top h = leb_same (min n top) k n k (λ p. omega arith) (λ p. omega arith)

-- from 2^40 on a square is above every b × l
beyond : (a b m l : ℕ) → 1099511627776 ≤ m → b ≤ 65535 → l ≤ 9223372036854775808 → eqb a 0 ≡ leb (a * (m * m)) (b * l)
beyond zero b m l h g k = sym (le-leb (0 * (m * m)) (b * l) (omega (arith, zero-mul (m * m))))
beyond (suc a) b m l h g k = ne_eqb (suc a) 0 (λ e. omega (arith, e)) ∙ sym (lt-leb (suc a * (m * m)) (b * l) (omega (arith, mul-le-mul h h, mul-le-mul g k, mul-le-mul (one a) (mul-le-mul h h))))
  where
    one : (n : ℕ) → 1 ≤ suc n
    one n = omega arith

pub returns-then-l-lt0 : goal.returns-then-l-lt0
returns-then-l-lt0 c =
    sym (never c.args.a c.args.b c.args.x c.args.l c.if-b-gt0.true (branch_lt (stored_id c.ranges.l) (literal_as (pos 0)) c.if-l-lt0.true))

pub returns-then-m-ge1099511627776 : goal.returns-then-m-ge1099511627776
returns-then-m-ge1099511627776 c =
    let p : 0 < c.args.b → pos 0 ≤ℤ c.args.l = elim c.else-b-gt0.branch [
      | else-b-gt0-via-then-b-gt0+else-l-lt0 w ↦ λ h. branch_ge (stored_id c.ranges.l) (literal_as (pos 0)) w.if-l-lt0.false
      | else-b-gt0-via-else-b-gt0 w ↦ λ h. absurd (omega arith)
    ] in
    let x = ap nat_abs (stored_id c.ranges.x) in
    let m : 1099511627776 ≤ nat_abs c.args.x = omega (arith, c.if-m-ge1099511627776.true, c.unsigned_abs-m.ensures.value, x) in
    let b : c.args.b ≤ 65535 = omega arith in
    beyond c.args.a c.args.b (nat_abs c.args.x) (nat_abs c.args.l) m b (fits_abs c.ranges.l) ∙ by_sizes c.args.a c.args.b c.args.x c.args.l p

pub returns : goal.returns
returns c =
    let p : 0 < c.args.b → pos 0 ≤ℤ c.args.l = elim c.else-b-gt0.branch [
      | else-b-gt0-via-then-b-gt0+else-l-lt0 w ↦ λ h. branch_ge (stored_id c.ranges.l) (literal_as (pos 0)) w.if-l-lt0.false
      | else-b-gt0-via-else-b-gt0 w ↦ λ h. absurd (omega arith)
    ] in
    let x = ap nat_abs (stored_id c.ranges.x) in
    let l = ap nat_abs (stored_id c.ranges.l) in
    let b : c.args.b ≤ 65535 = omega arith in
    let m : nat_abs c.args.l ≤ 9223372036854775808 = fits_abs c.ranges.l in
    let small : c.args.b * nat_abs c.args.l < 340282366920938463463374607431768211455 = omega (arith, mul-le-mul b m) in
    let limit : c.from.result * c.from-2.result ≡ c.args.b * nat_abs c.args.l = cc in
    let square : c.saturating_mul.result ≡ min (c.args.a * (nat_abs c.args.x * nat_abs c.args.x)) 340282366920938463463374607431768211455 = cc in
    (λ i. leb (square i) (limit i)) ∙ held (c.args.a * (nat_abs c.args.x * nat_abs c.args.x)) (c.args.b * nat_abs c.args.l) 340282366920938463463374607431768211455 small
    ∙ by_sizes c.args.a c.args.b c.args.x c.args.l p
