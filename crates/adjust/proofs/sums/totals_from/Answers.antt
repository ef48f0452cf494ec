-- `totals_from`: W fits between two known heights, step by step.
use Rattle.std.proofs.Common.{◌+◌, ◌*◌, ◌≤◌}
use lib.IntN.{ℤ, nat_abs, ◌+ℤ◌, ◌-ℤ◌, ◌*ℤ◌}
use Rattle.numbers.proofs.Machine.{stored, stored_id}
use Rattle.numbers.proofs.Chain.{Value, known, add, sub, mul, fits, kept}
use Rattle.adjust.specs.Sizes.{highest, most_units, most_sum_q, most_w}
use Rattle.adjust.specs.Line.{closure_by}
use Rattle.adjust.specs.code.Bounds.{OneTo}
use Rattle.adjust.proofs.sums.totals_from.Goals as goal

module _ (units start end q : ℤ) (h : OneTo most_units units × (nat_abs start ≤ highest) × (nat_abs end ≤ highest) × (nat_abs q ≤ most_sum_q)) where
  begin : Value (stored units *ℤ stored start) (units *ℤ start) (most_units * highest)
  begin = mul (known units h.0.most tt) (known start h.1 tt)

  end_height : Value (stored units *ℤ stored end) (units *ℤ end) (most_units * highest)
  end_height = mul (known units h.0.most tt) (known end h.2 tt)

  raw : Value (stored (stored units *ℤ stored start) +ℤ stored q) (units *ℤ start +ℤ q) (most_units * highest + most_sum_q)
  raw = add (kept begin tt) (known q h.3 tt)

  closure : Value (stored (stored (stored units *ℤ stored start) +ℤ stored q) -ℤ stored (stored units *ℤ stored end)) (closure_by units start end q) most_w
  closure = sub (kept raw tt) (kept end_height tt)

pub overflow_sub-result : goal.overflow_sub-result
overflow_sub-result c = fits (closure c.args.units c.args.start c.args.end c.args.height c.requires) tt

pub returns : goal.returns
returns c = λ i. record { closure = (kept (closure c.args.units c.args.start c.args.end c.args.height c.requires) tt).is i; distance = stored_id c.ranges.distance i }
