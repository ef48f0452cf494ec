-- What is read of a station: the constants come as the machine reads them back.
use Rattle.std.proofs.Common.{◌∙◌, sym, ap}
use Rattle.std.proofs.lemmas.Result.{err_from_is_err_and}
use Rattle.numbers.proofs.Machine.{stored_id}
use Rattle.records.specs.Refusals.{number_of}
use Rattle.numbers.specs.Tables.{first_of}
use Rattle.station.specs.Station.{station_of, reading_tests, figures_of, reading_refusal}
use Rattle.station.proofs.read.Goals as goal

pub returns-in_err-check_readings-clause-reads : goal.returns-in_err-check_readings-clause-reads
unfolding reading_refusal
returns-in_err-check_readings-clause-reads c =
    let s = c.new-station.ensures ∙ (λ i. station_of (stored_id c.ranges.kb i) (stored_id c.ranges.kf i) c.args.readings) in
    let p = err_from_is_err_and c.from_residual.result c.from_residual.ensures.1 in
    rw (p.1, p.2) (c.in_err-check_readings.ensures ∙ (λ i. first_of (reading_tests (s i))), tt)

pub returns-clause-reads : goal.returns-clause-reads
unfolding reading_refusal
returns-clause-reads c =
    let s = c.new-station.ensures ∙ (λ i. station_of (stored_id c.ranges.kb i) (stored_id c.ranges.kf i) c.args.readings) in (
      sym (ap number_of c.in_ok-check_readings.was) ∙ c.check_readings.ensures ∙ (λ i. first_of (reading_tests (s i))),
      c.figures.ensures.value ∙ ap (figures_of c.args.staffs) s,
    )
