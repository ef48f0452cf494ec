-- What a line of the text book is: a record, or refused, by refusals 1 (`NotARecord`) and 2 (`BadField`) of document 01.
use Rattle.std.specs.Prelude.{◌≡◌, Bool, true, false, not, cond, ◌&&◌, Some, None, is_some, Ok, Err, IfOk, List, [], ◌∷◌, ℕ, zero, suc, ◌+◌, ◌*◌, ℤ, pos, take, drop, replicate}
use Rattle.std.specs.Option.{unwrap_or}
use Rattle.std.specs.declared.option.Option.{Option}
use Rattle.std.specs.declared.result.Result.{Result}
use Rattle.numbers.specs.Tables.{first_of}
use Rattle.numbers.specs.Numbers.{put_at}
use Rattle.records.specs.declared.Tag.{Tag}
use Rattle.records.specs.declared.Tag.TheVariants.{Lin, Sta, Run, Drr, Drs, End, Spr, Fin, Ang, Kon, Lft}
use Rattle.records.specs.declared.Record.{Record}
use Rattle.records.specs.declared.Refusal.{Refusal}
use Rattle.records.specs.declared.Refusal.TheVariants.{NotARecord, BadField}
use Rattle.records.specs.Refusals.{number_of}
use Rattle.columns.specs.Decimals.{blanks, pad, same, field_of}
use Rattle.columns.specs.Lines.{line_end}

-- ---- tags

-- the name of the tag in capitals, as "LIN" for Lin
abbrev pub letters : Tag → List ℕ
letters Lin = 76 ∷ 73 ∷ 78 ∷ []
letters Sta = 83 ∷ 84 ∷ 65 ∷ []
letters Run = 82 ∷ 85 ∷ 78 ∷ []
letters Drr = 68 ∷ 82 ∷ 82 ∷ []
letters Drs = 68 ∷ 82 ∷ 83 ∷ []
letters End = 69 ∷ 78 ∷ 68 ∷ []
letters Spr = 83 ∷ 80 ∷ 82 ∷ []
letters Fin = 70 ∷ 73 ∷ 78 ∷ []
letters Ang = 65 ∷ 78 ∷ 71 ∷ []
letters Kon = 75 ∷ 79 ∷ 78 ∷ []
letters Lft = 76 ∷ 70 ∷ 84 ∷ []

-- how many numbers follow a tag
abbrev pub field_count : Tag → ℕ
field_count Lin = 5
field_count Sta = 10
field_count Run = 1
field_count Drr = 0
field_count Drs = 0
field_count End = 2
field_count Spr = 5
field_count Fin = 1
field_count Ang = 6
field_count Kon = 2
field_count Lft = 0

abbrev pub tags : List Tag
tags = Lin ∷ Sta ∷ Run ∷ Drr ∷ Drs ∷ End ∷ Spr ∷ Fin ∷ Ang ∷ Kon ∷ Lft ∷ []

-- the first of these tags with the letters w
unfoldable pub tag_among : List Tag → List ℕ → Option Tag
tag_among [] w = None
tag_among (t ∷ ts) w = cond (same w (letters t)) (Some t) (tag_among ts w)

-- ---- fields

-- whether the n fields of eight columns at the start of t are numbers
unfoldable pub all_numbers : ℕ → List ℕ → Bool
all_numbers zero t = true
all_numbers (suc n) t = cond (is_some (field_of (take 8 t))) (all_numbers n (drop 8 t)) false

-- and these numbers
unfoldable pub numbers_in : ℕ → List ℕ → List ℤ
numbers_in zero t = []
numbers_in (suc n) t = unwrap_or (field_of (take 8 t)) (pos 0) ∷ numbers_in n (drop 8 t)

-- ---- the print unit

-- the fifth field of LIN and SPR is the print unit, and may be blank (document 02, W-214)
abbrev pub has_print_unit : Tag → Bool
has_print_unit Lin = true
has_print_unit Sta = false
has_print_unit Run = false
has_print_unit Drr = false
has_print_unit Drs = false
has_print_unit End = false
has_print_unit Spr = true
has_print_unit Fin = false
has_print_unit Ang = false
has_print_unit Kon = false
has_print_unit Lft = false

unfoldable pub lacks_print_unit : Tag → List ℕ → Bool
lacks_print_unit t l = has_print_unit t && same (take 8 (drop 35 l)) (blanks 8)

-- a blank one is 10: such a line is read as the one with 10 in that field
unfoldable pub with_print_unit : Tag → List ℕ → List ℕ
with_print_unit t l = cond (lacks_print_unit t l) (put_at l 35 (pad 8 (pos 10))) l

-- ---- lines

abbrev pub zeros : List ℤ
zeros = replicate 10 (pos 0)

-- a record with the tag t and the numbers zs; the places past them are 0
abbrev pub record_line : Tag → List ℤ → Result Record Refusal
record_line t zs = Ok (record { tag = t; values = put_at zeros 0 zs })

-- the tag with the numbers of the n fields at the start of t; refused where a field is not a number
unfoldable pub numbers_line : Tag → ℕ → List ℕ → Result Record Refusal
numbers_line tag n t = cond (all_numbers n t) (record_line tag (numbers_in n t)) (Err BadField)

-- a line of a known tag, refused where anything but blanks up to column 83 and a line feed follows its last field: so a line has 84 bytes
unfoldable pub record_in : Tag → List ℕ → Result Record Refusal
record_in t l =
    let n : ℕ = field_count t in
    let from : ℕ = 3 + 8 * n in
    cond (same (drop from l) (line_end from)) (numbers_line t n (drop 3 (with_print_unit t l))) (Err NotARecord)

-- a line with this tag; one without a tag is refused
abbrev pub line_of_tag : Option Tag → List ℕ → Result Record Refusal
line_of_tag (Some t) l = record_in t l
line_of_tag None l = Err NotARecord

-- a line of the text book
unfoldable pub line_in : List ℕ → Result Record Refusal
line_in l = line_of_tag (tag_among tags (take 3 l)) l

-- ---- what is answered of a line

-- whether a line has the shape of its tag: blanks and a line feed behind the last field; a line without a tag has none
abbrev pub has_shape : Option Tag → List ℕ → Bool
has_shape (Some t) l = let from : ℕ = 3 + 8 * field_count t in same (drop from l) (line_end from)
has_shape None l = false

-- whether each field of its tag is a number
abbrev pub has_numbers : Option Tag → List ℕ → Bool
has_numbers (Some t) l = all_numbers (field_count t) (drop 3 (with_print_unit t l))
has_numbers None l = true

-- document 01's tests of a line, in their order
abbrev pub shape_tests : List ℕ → List (ℕ × Bool)
shape_tests l = let t : Option Tag = tag_among tags (take 3 l) in (1, not (has_shape t l)) ∷ (2, not (has_numbers t l)) ∷ []

-- r is the line that l is, and has the number of the first test that holds, and the tag of the letters where none does
abbrev pub Parses : List ℕ → Result Record Refusal → Type 0
Parses l r =
    (r ≡ line_in l) × ((number_of r ≡ first_of (shape_tests l)) × IfOk r (λ x. tag_among tags (take 3 l) ≡ Some x.tag))
