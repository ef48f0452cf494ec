-- The loop over the lines of a text: before each line the book holds a reading from which the lines that are left lead where all of them lead.
use mathlib.Core.Path.{◌≡◌, refl, sym, ap, subst, ◌∙◌}
use mathlib.Core.Bool.{Bool, true, false, not, ◌&&◌, ◌||◌}
use mathlib.Core.List.{List, [], ◌++◌}
use Prim.Native.Nat.{ℕ, ◌%◌, ◌<◌, min}
use native.Mathlib.Omega.{arith}
use lib.Dec.{eqb}
use lib.ListN.{length}
use Rattle.records.specs.declared.Tag.TheVariants.{Sta}
use Rattle.station.specs.declared.Instrument.{Instrument}
use Rattle.adjust.specs.declared.terms.Class.{Class}
use Rattle.rules.specs.declared.Stage.TheVariants.{Open}
use Rattle.rules.specs.declared.Book.{Book}
use Rattle.rules.specs.code.Bounds.{SmallRun}
use Rattle.rules.proofs.Unbroken.{small_run}
use Rattle.adjust.proofs.Holding.{holding_none}
use Rattle.book.specs.Calls.{fresh_book}
use Rattle.std.specs.Prelude.{nat_eq}
use Rattle.std.specs.List.{starts_with}
use Rattle.columns.specs.Records.{letters}
use Rattle.columns.specs.Texts.{lines}
use Rattle.columns.proofs.Texts.{lines_end}
use Rattle.ledger.specs.Plain.{Reading, plain_state, book_of}
use Rattle.ledger.specs.Entries.{entry_next, entry_number, entry_book}
use Rattle.ledger.proofs.Runs.{run_fits_lem}
use Rattle.ledger.proofs.Kept.{Kept, begun_kept}
use Rattle.ledger.proofs.Entries.{entry_kept, entry_number_lem, entry_book_lem}
use Rattle.textbook.specs.Text.{line_entry, reading_after}
use Rattle.textbook.proofs.Lines.{lines_chunk}
use Rattle.repeat.specs.Repeat.{ready, is_station, all_stations, run_in, is_run}

pub record Reached (k : Class) (i : Instrument) (t : List ℕ) (b : Book) (rest : List ℕ) : Type 0 where
  pub reading : Reading
  pub holds : b ≡ book_of reading
  pub kept : Kept (plain_state reading)
  pub stations : all_stations reading (lines rest) ≡ all_stations (ready k i) (lines t)
  pub left : reading_after reading (lines rest) ≡ reading_after (ready k i) (lines t)

-- the book before the first line, made of a fresh one
abbrev readied : Class → Instrument → Book → Book
readied k i b =
    record b { line = record b.line { stage = Open; opening = record b.line.opening { class = k; instrument = i; collimated = true; touched = true } } }

pub ready_holds : (k : Class) (i : Instrument) (b : Book) → b ≡ fresh_book → readied k i b ≡ book_of (ready k i)
ready_holds k i b e =
    ap (readied k i) e ∙ (λ j. record { line = (plain_state (ready k i)).line; sections = sym holding_none j })

module _ {k : Class} {i : Instrument} {t : List ℕ} where
  pub reached_first : (b : Book) (rest : List ℕ) → b ≡ book_of (ready k i) → rest ≡ t → Reached k i t b rest
  reached_first b rest e whole =
      record {
        reading = ready k i;
        holds = e;
        kept = begun_kept (ready k i).opening (omega arith) refl refl;
        stations = ap (λ (x : List ℕ). all_stations (ready k i) (lines x)) whole;
        left = ap (λ (x : List ℕ). reading_after (ready k i) (lines x)) whole;
      }

  module _ {b : Book} {all : List ℕ} (x : Reached k i t b all) (line rest : List ℕ) (parts : all ≡ line ++ rest) (size : length line ≡ min 84 (length all)) (some : 0 < length all) where
    abbrev r : Reading
    r = x.reading

    -- the test of the line, as the book makes it
    abbrev tested : Bool
    tested = starts_with nat_eq line (letters Sta) && eqb (entry_number b (line_entry line)) 0

    as_read : tested ≡ is_station r line
    as_read = ap (λ (n : ℕ). starts_with nat_eq line (letters Sta) && eqb n 0) (entry_number_lem r x.kept x.holds (line_entry line))

    all_of : all_stations (ready k i) (lines t) ≡ tested && all_stations (entry_next r (line_entry line)) (lines rest)
    unfolding all_stations
    all_of =
        sym x.stations ∙ ap (all_stations r) (lines_chunk all line rest parts size some)
        ∙ ap (λ (s : Bool). s && all_stations (entry_next r (line_entry line)) (lines rest)) (sym as_read)

    pub reached_next : tested ≡ true → (c : Book) → c ≡ entry_book b (line_entry line) → Reached k i t c rest
    reached_next e c book =
        record {
          reading = entry_next r (line_entry line);
          holds = book ∙ entry_book_lem r x.kept x.holds (line_entry line);
          kept = entry_kept r x.kept (line_entry line);
          stations = sym (all_of ∙ ap (λ (s : Bool). s && all_stations (entry_next r (line_entry line)) (lines rest)) e);
          left = ap (reading_after r) (sym (lines_chunk all line rest parts size some)) ∙ x.left;
        }

    -- a line that is no station taken
    pub reached_none : tested ≡ false → is_run k i t ≡ false
    unfolding is_run
    reached_none e =
        ap (λ (s : Bool). s && not (eqb (run_in k i t).count 0 || eqb ((run_in k i t).count % 2) 1))
        (all_of ∙ ap (λ (s : Bool). s && all_stations (entry_next r (line_entry line)) (lines rest)) e)

  module _ {b : Book} {rest : List ℕ} (x : Reached k i t b rest) (done : length rest ≡ 0) where
    none : lines rest ≡ []
    none = lines_end rest 0 (omega (arith, done))

    pub reached_run : b.line.present ≡ run_in k i t
    unfolding run_in
    reached_run =
        ap (λ (c : Book). c.line.present) x.holds
        ∙ ap (λ (s : Reading). (plain_state s).line.present) (sym (ap (reading_after x.reading) none) ∙ x.left)

    -- that the lines are stations leaves their count to be tested
    pub reached_all : is_run k i t ≡ not (eqb b.line.present.count 0 || eqb (b.line.present.count % 2) 1)
    unfolding is_run all_stations
    reached_all =
        (λ j. sym (sym (ap (all_stations x.reading) none) ∙ x.stations) j && not (eqb (sym reached_run j).count 0 || eqb ((sym reached_run j).count % 2) 1))

    pub reached_small : SmallRun b.line.present
    reached_small =
        let c = x.reading.opening.staffs in
        subst SmallRun (sym (ap (λ (c : Book). c.line.present) x.holds)) (small_run (plain_state x.reading).line.present (run_fits_lem c (plain_state x.reading).line.present x.kept.present))
