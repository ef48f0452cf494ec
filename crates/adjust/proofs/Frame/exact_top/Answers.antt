-- `exact_top`: each product and sum fits for up to 64 sections, step by step.
use Rattle.std.proofs.Common.{◌+◌, ◌*◌, ◌≤◌}
use lib.IntN.{ℤ, nat_abs, ◌+ℤ◌, ◌-ℤ◌, ◌*ℤ◌}
use Rattle.numbers.proofs.Machine.{stored}
use Rattle.numbers.proofs.Chain.{Value, known, add, sub, mul, fits, kept}
use Rattle.adjust.specs.declared.Frame.{Frame}
use Rattle.adjust.specs.Sizes.{highest, most_units, most_prints, most_sum_q, most_l, most_w}
use Rattle.adjust.specs.Line.{exact_top}
use Rattle.adjust.specs.code.Bounds.{Framed, Along}
use Rattle.adjust.proofs.Bounded.{along_size}
use Rattle.adjust.proofs.Frame.exact_top.Goals as goal

module _ (f : Frame) (q s : ℤ) (h : Framed f × (nat_abs q ≤ most_sum_q) × Along f s) where
  abbrev length : Value (stored f.total) f.total most_l
  length = known f.total h.0.total.most tt

  begin : Value (stored f.units *ℤ stored f.start) (f.units *ℤ f.start) (most_units * highest)
  begin = mul (known f.units h.0.units.most tt) (known f.start h.0.start tt)

  start : Value (stored (stored f.units *ℤ stored f.start) *ℤ stored f.total) (f.units *ℤ f.start *ℤ f.total) (most_units * highest * most_l)
  start = mul (kept begin tt) length

  height : Value (stored q *ℤ stored f.total) (q *ℤ f.total) (most_sum_q * most_l)
  height = mul (known q h.1 tt) length

  spread : Value (stored f.closure *ℤ stored s) (f.closure *ℤ s) (most_w * most_l)
  spread = mul (known f.closure h.0.closure tt) (known s (along_size f s h.0 h.2) tt)

  raw :
      Value (stored (stored (stored f.units *ℤ stored f.start) *ℤ stored f.total) +ℤ stored (stored q *ℤ stored f.total))
      (f.units *ℤ f.start *ℤ f.total +ℤ q *ℤ f.total) (most_units * highest * most_l + most_sum_q * most_l)
  raw = add (kept start tt) (kept height tt)

  -- what the code multiplies at last, as it is read back
  abbrev level_of : ℤ
  level_of =
      stored (stored (stored (stored f.units *ℤ stored f.start) *ℤ stored f.total) +ℤ stored (stored q *ℤ stored f.total)) -ℤ stored (stored f.closure *ℤ stored s)

  level : Value level_of (f.units *ℤ f.start *ℤ f.total +ℤ q *ℤ f.total -ℤ f.closure *ℤ s) (most_units * highest * most_l + most_sum_q * most_l + most_w * most_l)
  level = sub (kept raw tt) (kept spread tt)

  top : Value (stored f.prints *ℤ stored level_of) (exact_top f q s) (most_prints * (most_units * highest * most_l + most_sum_q * most_l + most_w * most_l))
  top = mul (known f.prints h.0.prints.most tt) (kept level tt)

pub overflow_mul-result-2 : goal.overflow_mul-result-2
overflow_mul-result-2 c = fits (start c.args.self c.args.q c.args.s c.requires) tt

pub overflow_mul-result-3 : goal.overflow_mul-result-3
overflow_mul-result-3 c = fits (height c.args.self c.args.q c.args.s c.requires) tt

pub overflow_add-result : goal.overflow_add-result
overflow_add-result c = fits (raw c.args.self c.args.q c.args.s c.requires) tt

pub overflow_mul-result-4 : goal.overflow_mul-result-4
overflow_mul-result-4 c = fits (spread c.args.self c.args.q c.args.s c.requires) tt

pub overflow_sub-result : goal.overflow_sub-result
overflow_sub-result c = fits (level c.args.self c.args.q c.args.s c.requires) tt

pub overflow_mul-result-5 : goal.overflow_mul-result-5
overflow_mul-result-5 c = fits (top c.args.self c.args.q c.args.s c.requires) tt

pub returns : goal.returns
returns c = (kept (top c.args.self c.args.q c.args.s c.requires) tt).is
