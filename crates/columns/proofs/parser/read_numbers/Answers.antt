-- A number that is read takes its place; a field that is none refuses the line.
use Rattle.std.proofs.Common.{◌≡◌, sym, ap, ◌∙◌, ◌+◌, ◌*◌, ◌<◌, take, drop, arith, rules}
use Rattle.std.proofs.lemmas.Int.{to_z-of_z}
use Rattle.std.proofs.lemmas.Result.{err_from_is_err_and}
use lib.ListN.{length-set, length-take}
use mir.Syntax.{w64}
use mir.Val.{SFits}
use Rattle.columns.specs.Decimals.{field_of}
use Rattle.columns.proofs.Records.{field_lent, field_read, field_refused, numbers_next, numbers_stop, values_put, line_refused}
use Rattle.columns.proofs.parser.read_numbers.Goals as goal

pub returns-in_err-values : goal.returns-in_err-values
returns-in_err-values c =
    let l = c.args.line.now in
    let n = c.args.n in
    let i = c.loop-i.i in
    let p = err_from_is_err_and c.from_residual.result c.from_residual.ensures.1 in
    let below : i < n = omega (arith, length-take n c.as_chunks.result.0.now) in
    let read : c.read_field.result ≡ field_of (take 8 (drop (3 + 8 * i) l)) = c.read_field.ensures ∙ ap field_of (field_lent l n i _ c.as_chunks.ensures.front c.as_chunks.ensures.front_len c.loop-i-test.true) in
    let f = field_refused l n i below c.in_err-values.field-0.0 read (sym c.ok_or.ensures.value ∙ c.in_err-values.was) in
    let stop = line_refused c.args.tag n (drop 3 l) (c.loop-i.invariant.numbers ∙ numbers_stop l n i below f.0) in
    rw (p.1, p.2, f.1) (sym stop)

pub loop-i-preserved : goal.loop-i-preserved
loop-i-preserved c =
    let l = c.args.line.now in
    let n = c.args.n in
    let i = c.loop-i.i in
    let z = c.in_ok-values.field-0 in
    let fit : SFits w64 z = search rules in
    let below : i < n = omega (arith, length-take n c.as_chunks.result.0.now) in
    let read : c.read_field.result ≡ field_of (take 8 (drop (3 + 8 * i) l)) = c.read_field.ensures ∙ ap field_of (field_lent l n i _ c.as_chunks.ensures.front c.as_chunks.ensures.front_len c.loop-i-test.true) in
    let e = field_read l n i below z read (sym c.ok_or.ensures.value ∙ c.in_ok-values.was) in
    record {
      places = simp length-set c.loop-i.invariant.places;
      numbers = c.loop-i.invariant.numbers ∙ numbers_next l n i below z e;
      values = rw (to_z-of_z w64 z fit) (values_put l n i below c.loop-i.values z (omega arith) e ∙ c.loop-i.invariant.values);
    }
