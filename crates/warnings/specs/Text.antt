-- The warnings of a text book, and what the program prints of it.
use Rattle.std.specs.Prelude.{Bool, false, cond, List, [], ◌∷◌, map, ℕ, length, take, eqb, leb, ◌&&◌, ◌-◌, ℤ, pos, Some, None}
use Rattle.std.specs.declared.option.Option.{Option}
use Rattle.numbers.specs.Numbers.{written}
use Rattle.numbers.specs.Tables.{first_of}
use Rattle.columns.specs.Decimals.{same}
use Rattle.columns.specs.Lines.{tag_line}
use Rattle.columns.specs.Texts.{joined}
use Rattle.textbook.specs.Text.{too_long, text_line}
use Rattle.fieldbook.specs.Report.{ref_line}
use Rattle.warnings.specs.Drift.{firsts, warning_tests}

-- ---- a text

abbrev pub text_tests : List ℕ → ℤ → List (ℕ × Bool)
text_tests text w = (9, too_long text) ∷ warning_tests (text_line text) w

unfoldable pub text_refusal : List ℕ → ℤ → ℕ
text_refusal text w = first_of (text_tests text w)

unfoldable pub text_firsts : List ℕ → ℤ → List ℕ
text_firsts text w = firsts (text_line text) w

-- a lent list after the call: the numbers in its first places, as far as it has places, or as it was where the call is refused
abbrev pub list_after : List ℕ → ℤ → List ℕ → List ℕ
list_after text w old = cond (eqb (text_refusal text w) 0) (written (text_firsts text w) old) old

-- and how many numbers there are, in a lent place
abbrev pub count_after : List ℕ → ℤ → ℕ → ℕ
count_after text w old = cond (eqb (text_refusal text w) 0) (length (text_firsts text w)) old

-- ---- the program

-- the window that an argument names, one digit or 10; 0 for anything else
abbrev pub digit : ℕ → ℤ
digit d = cond (leb 48 d && leb d 57) (pos (d - 48)) (pos 0)

abbrev pub digit_named : List ℕ → ℤ
digit_named [] = pos 0
digit_named (d ∷ []) = digit d
digit_named (d ∷ (e ∷ ds)) = pos 0

abbrev pub window_named : List ℕ → ℤ
window_named argument = cond (same argument (49 ∷ 48 ∷ [])) (pos 10) (digit_named argument)

-- "WARNINGS OF DRIFT" and blanks
abbrev pub drift_title : List ℕ
drift_title = tag_line (87 ∷ 65 ∷ 82 ∷ 78 ∷ 73 ∷ 78 ∷ 71 ∷ 83 ∷ 32 ∷ 79 ∷ 70 ∷ 32 ∷ 68 ∷ 82 ∷ 73 ∷ 70 ∷ 84 ∷ []) [] false

-- "DRF", the number of a window's first section
abbrev pub drift_line : ℕ → List ℕ
drift_line k = tag_line (68 ∷ 82 ∷ 70 ∷ []) (pos k ∷ []) false

-- the title and a line for each window; or the refusal alone, under line 0
abbrev pub printed_for : List ℕ → ℤ → List ℕ
printed_for text w =
    cond (eqb (text_refusal text w) 0) (joined (drift_title ∷ map drift_line (text_firsts text w))) (ref_line (record { line = 0; number = text_refusal text w }))

-- of an input of which so many bytes were read; nothing where a read failed
abbrev pub printed_of : List ℕ → Option ℕ → ℤ → List ℕ
printed_of input None w = []
printed_of input (Some n) w = printed_for (take n input) w
