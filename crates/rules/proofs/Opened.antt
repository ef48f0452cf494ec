-- What an opening's numbers name, as the rules read them: the refusal of an opening by what is named is the rules' own, of a line and of a spur.
use mathlib.Core.Path.{◌≡◌, refl, ap, ◌∙◌}
use mathlib.Core.Bool.{Bool, true, false, not, cond, ◌&&◌, ◌||◌}
use Prim.Native.Nat.{ℕ}
use lib.IntN.{ℤ, pos}
use mir.Syntax.{w64}
use mir.Val.{SFits}
use Rattle.std.specs.Prelude.{Some, None}
use Rattle.std.specs.declared.option.Option.{Option}
use Rattle.numbers.specs.Numbers.{eq_z}
use Rattle.numbers.proofs.Machine.{stored, stored_id}
use Rattle.station.specs.declared.Instrument.{Instrument}
use Rattle.station.specs.declared.Instrument.TheVariants.{Ds3, Ds1}
use Rattle.adjust.specs.declared.terms.Class.{Class}
use Rattle.adjust.specs.declared.terms.Class.TheVariants.{Third, Fourth, Spur}
use Rattle.rules.specs.LineState.{LineState}
use Rattle.rules.specs.declared.call.Call.{Call}
use Rattle.rules.specs.declared.call.Call.TheVariants.{OpenLine as open_line, OpenSpur as open_spur}
use Rattle.rules.specs.Rules.{class_of, instrument_of, book_refusal}
use Rattle.rules.specs.code.Opened.{class_named, spur_named, instrument_named, start_refusal, named_refusal}

pub line_class : (o : ℤ) → class_named o ≡ cond (eq_z o (pos 3) || eq_z o (pos 4)) (Some (class_of o)) None
line_class o = go (eq_z o (pos 3)) (eq_z o (pos 4))
  where
    go : (a b : Bool) → cond a (Some Third) (cond b (Some Fourth) None) ≡ cond (a || b) (Some (cond a Third Fourth)) None
    go true b = refl
    go false true = refl
    go false false = refl

pub instrument : (k : ℤ) → instrument_named k ≡ cond (eq_z k (pos 1) || eq_z k (pos 3)) (Some (instrument_of k)) None
instrument k = go (eq_z k (pos 3)) (eq_z k (pos 1))
  where
    go : (a b : Bool) → cond a (Some Ds3) (cond b (Some Ds1) None) ≡ cond (b || a) (Some (cond a Ds3 Ds1)) None
    go true true = refl
    go true false = refl
    go false true = refl
    go false false = refl

module _ (v : LineState) (number height prints : ℤ) where
  by_names : (s t : Bool) (class : Class) (z : Instrument)
      → named_refusal v (cond s (Some class) None) (cond t (Some z) None) number height prints ≡ cond (not (s && t)) 3 (start_refusal v number height prints)
  by_names true true class z = refl
  by_names true false class z = refl
  by_names false t class z = refl

  pub line_refusal : (o k : ℤ) → named_refusal v (class_named o) (instrument_named k) number height prints ≡ book_refusal v (open_line o k number height prints)
  unfolding book_refusal
  line_refusal o k =
      (λ i. named_refusal v (line_class o i) (instrument k i) number height prints)
      ∙ by_names (eq_z o (pos 3) || eq_z o (pos 4)) (eq_z k (pos 1) || eq_z k (pos 3)) (class_of o) (instrument_of k)

  pub spur_refusal : (o k : ℤ) → named_refusal v (spur_named o) (instrument_named k) number height prints ≡ book_refusal v (open_spur o k number height prints)
  unfolding book_refusal
  spur_refusal o k =
      (λ i. named_refusal v (spur_named o) (instrument k i) number height prints)
      ∙ by_names (eq_z o (pos 4)) (eq_z k (pos 1) || eq_z k (pos 3)) Spur (instrument_of k)

-- ---- by numbers of the machine

-- a call of five numbers that fit, as the machine reads them back
pub stored_five : (call : ℤ → ℤ → ℤ → ℤ → ℤ → Call) {o k n h p : ℤ} → SFits w64 o → SFits w64 k → SFits w64 n → SFits w64 h → SFits w64 p
    → call (stored o) (stored k) (stored n) (stored h) (stored p) ≡ call o k n h p
stored_five call o k n h p = λ i. call (stored_id o i) (stored_id k i) (stored_id n i) (stored_id h i) (stored_id p i)

-- the refusal of either opening, by its law above
pub opening_refused : (v : LineState) (call : ℤ → ℤ → ℤ → ℤ → ℤ → Call) (named : ℤ → Option Class)
    → ((number height prints o k : ℤ) → named_refusal v (named o) (instrument_named k) number height prints ≡ book_refusal v (call o k number height prints))
    → {o k n h p : ℤ} {m : ℕ} {y : Option Class} {z : Option Instrument} → SFits w64 o → SFits w64 k → SFits w64 n → SFits w64 h → SFits w64 p
    → y ≡ named (stored o) → z ≡ instrument_named (stored k) → m ≡ named_refusal v y z (stored n) (stored h) (stored p) → m ≡ book_refusal v (call o k n h p)
opening_refused v call named law {o = order} {k = kind} {n = number} {h = height} {p = prints} o k n h p y z is =
    is
    ∙ (λ i. named_refusal v (y i) (z i) (stored number) (stored height) (stored prints))
    ∙ law (stored number) (stored height) (stored prints) (stored order) (stored kind)
    ∙ ap (book_refusal v) (stored_five call o k n h p)
