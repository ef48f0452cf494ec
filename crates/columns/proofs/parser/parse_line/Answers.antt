-- A line of 84 bytes is what its tag makes of it; any other is refused.
use Rattle.std.proofs.Common.{sym, ◌∙◌}
use Rattle.std.proofs.lemmas.Result.{err_from_is_err_and}
use Rattle.columns.proofs.Records.{line_length_lem, line_untagged, line_tagged, parses}
use Rattle.columns.proofs.parser.parse_line.Goals as goal

pub returns-then-line-ne84 : goal.returns-then-line-ne84
returns-then-line-ne84 c = let l = c.args.line.now in parses l (sym (line_length_lem l c.if-line-ne84.true))

pub returns-in_err-tag : goal.returns-in_err-tag
returns-in_err-tag c =
    let l = c.args.line.now in
    let p = err_from_is_err_and c.from_residual.result c.from_residual.ensures.1 in
    rw (p.1, p.2) (parses l (line_untagged l c.find_tag.result c.find_tag.ensures c.in_err-tag.field-0.0 (sym c.ok_or.ensures.value ∙ c.in_err-tag.was)))

pub returns : goal.returns
returns c =
    let l = c.args.line.now in
    parses l (c.read_record.ensures ∙ line_tagged l c.find_tag.result c.find_tag.ensures c.in_ok-tag.tag (sym c.ok_or.ensures.value ∙ c.in_ok-tag.was))
