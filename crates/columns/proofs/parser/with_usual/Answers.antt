-- The usual print unit is written into its field.
use Rattle.std.proofs.Common.{refl, pos, ◌∙◌}
use borrow.Rule.Slice.PartMut.{put_mid}
use Rattle.columns.specs.Decimals.{blanks, digits_by, digits, decimal, pad}
use Rattle.columns.proofs.Lists.{put_part}
use Rattle.columns.proofs.parser.with_usual.Goals as goal

pub returns : goal.returns
unfolding pad decimal digits digits_by blanks
returns c =
    (λ i. put_mid 35 8 (c.copy_from_slice.ensures.after i) (c.copy_from_slice-2.ensures.after i)) ∙ put_part c.args.line.now (pad 8 (pos 10)) 35 8 refl
