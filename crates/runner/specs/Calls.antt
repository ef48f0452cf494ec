-- Entries of a book in a list of numbers, 11 an entry: a kind, then the ten numbers of its record (`call_of` of rules/specs/Records.antt). What is not so
-- is refused with 1, as a line of a text that is no record is.
use Rattle.std.specs.Prelude.{◌≡◌, refl, cond, List, [], ◌∷◌, ◌++◌, ℕ, zero, suc, ◌+◌, ◌/◌, leb, length, get_or, take, drop, ℤ, pos, negsuc, Some, None, Ok, Err}
use Rattle.numbers.specs.Numbers.{eq_z, written}
use Rattle.std.specs.declared.option.Option.{Option}
use Rattle.std.specs.declared.result.Result.{Result}
use Rattle.records.specs.declared.Record.{Record}
use Rattle.records.specs.declared.Refusal.{Refusal}
use Rattle.records.specs.declared.Refusal.TheVariants.{NotARecord}
use Rattle.records.specs.declared.Tag.{Tag}
use Rattle.records.specs.declared.Tag.TheVariants.{Lin, Sta, Run, Drr, Drs, End, Spr, Fin, Ang, Kon, Lft}
use Rattle.rules.specs.declared.call.Call.TheVariants.{OpenLine as open_line, Station as station, CloseLine as close_line, OpenSpur as open_spur, CloseSpur as close_spur, Collimation as collimation, Constants as constants, LiftSection as lift_section}
use Rattle.ledger.specs.Plain.{Reading, fresh_reading}
use Rattle.ledger.specs.Entries.{Entry, asks, refused, entry_of, entry_refusals, after_entries}

-- the tag of a kind
unfoldable pub tag_of : ℤ → Option Tag
tag_of k =
    cond (eq_z k (pos 1)) (Some Lin)
    (cond (eq_z k (pos 2)) (Some Sta)
    (cond (eq_z k (pos 3)) (Some Run)
    (cond (eq_z k (pos 4)) (Some Drr)
    (cond (eq_z k (pos 5)) (Some Drs)
    (cond (eq_z k (pos 6)) (Some End)
    (cond (eq_z k (pos 7)) (Some Spr)
    (cond (eq_z k (pos 8)) (Some Fin)
    (cond (eq_z k (pos 9)) (Some Ang)
    (cond (eq_z k (pos 10)) (Some Kon)
    (cond (eq_z k (pos 11)) (Some Lft)
    None))))))))))

-- a record of this tag with the numbers v; without a tag there is none
abbrev pub record_with : Option Tag → List ℤ → Result Record Refusal
record_with (Some t) v = Ok (record { tag = t; values = v })
record_with None v = Err NotARecord

-- the first record of a list, refused where the list is too short for it
unfoldable pub first_record : List ℤ → Result Record Refusal
first_record xs = cond (leb 11 (length xs)) (record_with (tag_of (get_or xs 0 (pos 0))) (take 10 (drop 1 xs))) (Err NotARecord)

abbrev pub first_entry : List ℤ → Entry
first_entry xs = entry_of (first_record xs)

-- the first n entries
unfoldable pub first_entries : ℕ → List ℤ → List Entry
first_entries zero xs = []
first_entries (suc n) xs = first_entry xs ∷ first_entries n (drop 11 xs)

-- all entries; a rest of 1 to 10 numbers is one too
abbrev pub entries_of : List ℤ → List Entry
entries_of xs = first_entries ((length xs + 10) / 11) xs

-- what the entries of a list leave, the first on a fresh book
abbrev pub reading_after : List ℤ → Reading
reading_after xs = after_entries fresh_reading (entries_of xs)

-- and their numbers, 0 for one whose call is taken
abbrev pub numbers_of : List ℤ → List ℕ
numbers_of xs = entry_refusals fresh_reading (entries_of xs)

-- ---- worked

abbrev nothing_more : List ℤ
nothing_more = pos 0 ∷ pos 0 ∷ pos 0 ∷ pos 0 ∷ pos 0 ∷ []

abbrev pub example : List ℤ
example =
    pos 1 ∷ pos 4 ∷ pos 3 ∷ pos 1 ∷ pos 10000 ∷ pos 1 ∷ nothing_more
    ++ (pos 2 ∷ pos 4687 ∷ pos 1571 ∷ pos 1197 ∷ pos 1384 ∷ pos 6171 ∷ pos 4787 ∷ pos 739 ∷ pos 363 ∷ pos 551 ∷ pos 5239 ∷ [])
    ++ (pos 6 ∷ pos 2 ∷ negsuc 0 ∷ pos 0 ∷ pos 0 ∷ pos 0 ∷ nothing_more)
    ++ (pos 7 ∷ pos 4 ∷ pos 3 ∷ pos 1 ∷ pos 10000 ∷ pos 10 ∷ nothing_more)
    ++ (pos 8 ∷ pos 2 ∷ pos 0 ∷ pos 0 ∷ pos 0 ∷ pos 0 ∷ nothing_more)
    ++ (pos 9 ∷ pos 5937 ∷ pos 5951 ∷ pos 6043 ∷ pos 6067 ∷ pos 6800 ∷ pos 40300 ∷ pos 0 ∷ pos 0 ∷ pos 0 ∷ pos 0 ∷ [])
    ++ (pos 10 ∷ pos 46850 ∷ pos 47880 ∷ pos 0 ∷ pos 0 ∷ pos 0 ∷ nothing_more)
    ++ (pos 11 ∷ pos 0 ∷ pos 0 ∷ pos 0 ∷ pos 0 ∷ pos 0 ∷ nothing_more)
    ++ (pos 12 ∷ pos 2 ∷ pos 0 ∷ pos 0 ∷ pos 0 ∷ pos 0 ∷ nothing_more)
    ++ (pos 4 ∷ [])

pub example_entries : entries_of example
    ≡ asks (open_line (pos 4) (pos 3) (pos 1) (pos 10000) (pos 1))
    ∷ asks (station (pos 4687) (pos 4787) ((pos 1571 ∷ pos 1197 ∷ pos 1384 ∷ pos 6171 ∷ []) ∷ (pos 739 ∷ pos 363 ∷ pos 551 ∷ pos 5239 ∷ []) ∷ []))
    ∷ asks (close_line (pos 2) (negsuc 0)) ∷ asks (open_spur (pos 4) (pos 3) (pos 1) (pos 10000) (pos 10)) ∷ asks (close_spur (pos 2))
    ∷ asks (collimation (pos 5937 ∷ pos 5951 ∷ pos 6043 ∷ pos 6067 ∷ pos 6800 ∷ pos 40300 ∷ [])) ∷ asks (constants (pos 46850) (pos 47880)) ∷ asks lift_section ∷ refused 1 ∷ refused 1 ∷ []
unfolding first_entries first_record tag_of
example_entries = refl

pub example_written : (written {A = ℕ} (1 ∷ 2 ∷ 3 ∷ []) (7 ∷ 8 ∷ []) ≡ 1 ∷ 2 ∷ []) × (written {A = ℕ} (1 ∷ []) (7 ∷ 8 ∷ []) ≡ 1 ∷ 8 ∷ [])
example_written = (refl, refl)
