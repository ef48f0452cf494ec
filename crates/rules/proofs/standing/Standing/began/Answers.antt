-- `began` gives the number of the last section, or the start.
use Rattle.std.proofs.Common.{◌≡◌, ◌∙◌, w64, rules}
use mir.Val.{SFits}
use Rattle.std.specs.Option.{MatchOption}
use Rattle.numbers.proofs.Machine.{stored_id}
use Rattle.rules.proofs.Last.{last_or}
use Rattle.rules.proofs.standing.Standing.began.Goals as goal

pub returns : goal.returns
returns c =
    let v = c.args.self.now in
    let start = v.line.now.opening.start.number in
    let f : SFits w64 c.map_or.result = search rules in
    let told : MatchOption c.last.result (c.map_or.result ≡ start) (λ x. c.map_or.result ≡ x.now.number) = search rules in
    stored_id f ∙ last_or start c.map_or.result v.sections.now c.last.result c.last.ensures.value told
