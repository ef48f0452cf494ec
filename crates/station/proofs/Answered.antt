-- What callers know in each case of what is answered of readings: figures are those of the spec, and a refusal has the number of the tests. No other answer has both.
use Rattle.std.proofs.Common.{◌≡◌, sym, ap, ◌∙◌, List, ℕ, ℤ}
use Rattle.std.specs.Prelude.{Ok, Err}
use Rattle.std.specs.declared.result.Result.{Result}
use Rattle.records.specs.declared.Refusal.{Refusal}
use Rattle.records.specs.Refusals.{refusal_number}
use Rattle.records.proofs.Numbered.{numbers_apart, not_zero}
use Rattle.station.specs.declared.Staffs.{Staffs}
use Rattle.station.specs.declared.Figures.{Figures}
use Rattle.station.specs.Station.{station_of, figures_of, reading_refusal, Reads}

module _ (c : Staffs) (kb kf : ℤ) (readings : List (List ℤ)) where
  abbrev number : ℕ
  number = reading_refusal kb kf readings

  abbrev figures : Figures
  figures = figures_of c (station_of kb kf readings)

  pub of_station : {f : Figures} → Reads c kb kf readings (Ok f) → (number ≡ 0) × (f ≡ figures)
  of_station h = (sym h.0, h.1)

  pub of_refused : (e : Refusal) → Reads c kb kf readings (Err e) → (refusal_number e ≡ number) × (number ≡ 0 → ⊥)
  of_refused e h = (h.0, λ z. not_zero e (h.0 ∙ z))

  pub reads_one : (r s : Result Figures Refusal) → Reads c kb kf readings r → Reads c kb kf readings s → r ≡ s
  reads_one (Ok f) (Ok g) h k = ap Ok (h.1 ∙ sym k.1)
  reads_one (Ok f) (Err e) h k = absurd (not_zero e (k.0 ∙ sym h.0))
  reads_one (Err e) (Ok f) h k = absurd (not_zero e (h.0 ∙ sym k.0))
  reads_one (Err d) (Err e) h k = ap Err (numbers_apart d e (h.0 ∙ sym k.0))
