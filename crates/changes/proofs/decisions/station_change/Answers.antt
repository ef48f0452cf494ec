-- `station_change` tells the refusal of the readings or of the station, or the line with the station's figures: it is unbroken then, so that its run is small.
use Rattle.std.proofs.Common.{Ok, ◌≡◌, sym, ap, subst, ◌∙◌, rules}
use Rattle.records.specs.Refusals.{refusal_number}
use Rattle.numbers.proofs.Machine.{stored}
use Rattle.station.specs.declared.Figures.{Figures}
use Rattle.rules.specs.declared.Line.{Line}
use Rattle.rules.specs.LineState.{state_of, with_station}
use Rattle.rules.specs.declared.call.Call.{Call}
use Rattle.rules.specs.declared.call.Call.TheVariants.{Station as station}
use Rattle.rules.specs.Rules.{with_runs, book_refusal}
use Rattle.changes.specs.declared.Shift.TheVariants.{Same}
use Rattle.changes.specs.Changes.{effect_of, Decides}
use Rattle.changes.proofs.Joined.{book_unbroken, station_as, read_refused, read_number}
use Rattle.changes.proofs.decisions.station_change.Goals as goal

pub returns-in_err-figures : goal.returns-in_err-figures
returns-in_err-figures c =
    let a = c.args in
    let n : refusal_number c.in_err-figures.field-0.0 ≡ book_refusal (state_of a.b.now) (station a.kb a.kf a.readings) =
    read_refused a.b.now (stored a.kb) (stored a.kf) a.readings c.in_err-figures.field-0.0 c.in_err-figures.ensures.reads
    ∙ ap (book_refusal (state_of a.b.now)) (station_as a.readings c.ranges.kb c.ranges.kf) in
    search (rules, n)

pub returns-in_err-check_station : goal.returns-in_err-check_station
returns-in_err-check_station c =
    let a = c.args in
    let n : refusal_number c.in_err-check_station.field-0.0 ≡ book_refusal (state_of a.b.now) (station a.kb a.kf a.readings) =
    read_number a.b.now (stored a.kb) (stored a.kf) a.readings c.in_ok-figures.figures c.in_ok-figures.ensures.reads c.in_err-check_station.ensures
    ∙ ap (book_refusal (state_of a.b.now)) (station_as a.readings c.ranges.kb c.ranges.kf) in
    search (rules, n)

pub with_station-requires : goal.with_station-requires
with_station-requires c =
    let a = c.args in
    let n = read_number a.b.now (stored a.kb) (stored a.kf) a.readings c.in_ok-figures.figures c.in_ok-figures.ensures.reads c.in_ok-check_station.ensures in
    ((book_unbroken a.b.now (station (stored a.kb) (stored a.kf) a.readings) (sym n)).present, c.in_ok-figures.ensures.small)

pub returns : goal.returns
unfolding effect_of
returns c =
    let a = c.args in
    let l : Line = c.args.b.now.line in
    let line =
    c.with_station.ensures
    ∙ ap (λ (f : Figures). with_runs l l.waiting (with_station l.present f (stored a.kf))) c.in_ok-figures.ensures.reads.1 in
    let d : Decides a.b.now (station (stored a.kb) (stored a.kf) a.readings) (Ok c.of_line.result) =
    record {
      number = read_number a.b.now (stored a.kb) (stored a.kf) a.readings c.in_ok-figures.figures c.in_ok-figures.ensures.reads c.in_ok-check_station.ensures;
      change = c.of_line.ensures ∙ (λ i. record { line = line i; shift = Same });
    } in
    subst (λ (k : Call). Decides a.b.now k (Ok c.of_line.result)) (station_as a.readings c.ranges.kb c.ranges.kf) d
