-- The figures of a station whose readings are not refused: what each staff requires holds, and each figure is that of the station.
use Rattle.std.proofs.Common.{◌∙◌, ◌-ℤ◌}
use Rattle.numbers.proofs.Chain.{known, sub, kept}
use Rattle.station.proofs.Sizes.{of_tests}
use Rattle.station.proofs.Station.figures.Goals as goal

pub sighting-back-requires : goal.sighting-back-requires
sighting-back-requires c =
    let h = of_tests c.args.self.now c.requires in
    (h.back.constant, h.back_range)

pub sighting-fore-requires : goal.sighting-fore-requires
sighting-fore-requires c =
    let h = of_tests c.args.self.now c.requires in
    (h.fore.constant, h.fore_range)

pub returns-clause-value : goal.returns-clause-value
returns-clause-value c =
    let b = c.sighting-back in
    let f = c.sighting-fore in
    let apart = kept (sub (known b.result.sight b.ensures.small_sighting.sight tt) (known f.result.sight f.ensures.small_sighting.sight tt)) tt in
    let tall = known c.twice_height-height.result {k = 351050} c.twice_height-height.ensures.result_bound tt in
    let height = tall.is ∙ c.twice_height-height.ensures.value in
    λ i. record {
      back = b.ensures.value i;
      fore = f.ensures.value i;
      difference = (apart.is ∙ (λ j. (b.ensures.value j).sight -ℤ (f.ensures.value j).sight)) i;
      height = height i;
    }
