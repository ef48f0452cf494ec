-- `check_station_on` gives the limits' number where no test of the line before them holds.
use Rattle.std.proofs.Common.{◌≡◌, sym, ◌∙◌, false, not, cond, ◌||◌, leb, w64, rules}
use mir.Val.{SFits}
use Rattle.numbers.specs.Tables.{first_of}
use Rattle.numbers.proofs.Machine.{stored_id}
use Rattle.station.specs.Station.{limits_of, limit_tests}
use Rattle.adjust.specs.Terms.{order_of}
use Rattle.rules.specs.LineState.{is_open}
use Rattle.rules.specs.Rules.{out_of_turn}
use Rattle.rules.proofs.refusals.check_station_on.Goals as goal

pub returns : goal.returns
returns c =
    let l = c.args.line.now in
    let f : SFits w64 l.present.difference = search rules in
    let limits = first_of (limit_tests (limits_of (order_of l.opening.class) l.opening.instrument l.opening.staffs) l.present.difference c.args.f.now) in
    let judged : _ ≡ limits = c.judge.ensures ∙ (λ i. first_of (limit_tests (limits_of (c.order.ensures i) l.opening.instrument l.opening.staffs) (stored_id f i) c.args.f.now)) in
    let stage : not (is_open l.stage) || c.args.shut ≡ false = search rules in
    let tested : not l.opening.collimated ≡ false = search rules in
    let full : leb 200 l.present.count ≡ false = search rules in
    let turn : out_of_turn l c.args.kb ≡ false = search rules in
    judged ∙ sym (λ i. cond (stage i) 21 (cond (tested i) 46 (cond (full i) 22 (cond (turn i) 23 limits))))
