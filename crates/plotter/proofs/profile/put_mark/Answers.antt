-- `put_mark`: no whole number is a NaN, and its bytes are two eights.
use Rattle.std.proofs.Common.{sym, ap, subst, ◌∙◌, not}
use lib.Dec.{T}
use lib.Ieee.{is_nan}
use Rattle.plotter.specs.declared.Pair.{Pair}
use Rattle.plotter.specs.Floats.{float_bytes}
use Rattle.plotter.proofs.Floats.{whole_number}
use Rattle.plotter.proofs.Written.{distance_exact, height_exact, mark_long, put_eights}
use Rattle.plotter.proofs.profile.put_mark.Goals as goal

pub float_to_bits-pair : goal.float_to_bits-pair
float_to_bits-pair c = subst (λ (p : Pair). T (not (is_nan p.distance))) (sym c.pair-pair.ensures) (whole_number c.args.mark.distance (distance_exact c.requires.1))

pub float_to_bits-pair-2 : goal.float_to_bits-pair-2
float_to_bits-pair-2 c = subst (λ (p : Pair). T (not (is_nan p.height))) (sym c.pair-pair.ensures) (whole_number c.args.mark.height (height_exact c.requires.1))

pub returns : goal.returns
unfolding float_bytes
returns c =
    let same = c.pair-pair.ensures in
    record {
      value = sym (mark_long c.args.mark);
      buf_after =
          put_eights c.args.buf.now _ _
          (c.copy_from_slice.ensures.after ∙ c.to_le_bytes.ensures ∙ ap (λ (p : Pair). float_bytes p.distance) same)
          (c.copy_from_slice-2.ensures.after ∙ c.to_le_bytes-2.ensures ∙ ap (λ (p : Pair). float_bytes p.height) same);
    }
