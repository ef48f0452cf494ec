-- The profile of a text book, over the plain reading of the text (document 02, W-213).
use Rattle.std.specs.Prelude.{◌≡◌, Bool, cond, List, [], ◌∷◌, ℕ, length, take, eqb, ltb, Some, None, IfOk}
use Rattle.std.specs.declared.option.Option.{Option}
use Rattle.std.specs.declared.result.Result.{Result}
use Rattle.numbers.specs.Numbers.{put_at}
use Rattle.numbers.specs.Tables.{first_of}
use Rattle.records.specs.declared.Refusal.{Refusal}
use Rattle.records.specs.Refusals.{number_of}
use Rattle.textbook.specs.Text.{too_long, text_line}
use Rattle.fieldbook.specs.Report.{ref_line}
use Rattle.plotter.specs.Profile.{unready, profile}

abbrev pub text_profile : List ℕ → List ℕ
text_profile text = profile (text_line text)

-- ---- the call

-- no text leaves a book that is refused with 20
abbrev pub text_tests : List ℕ → ℕ → List (ℕ × Bool)
text_tests text room = (9, too_long text) ∷ (56, unready (text_line text) room) ∷ []

unfoldable pub text_refusal : List ℕ → ℕ → ℕ
text_refusal text room = first_of (text_tests text room)

-- r has the number that is given, and where that is none how many bytes the profile has
pub record TextProfiles (text : List ℕ) (room : ℕ) (r : Result ℕ Refusal) : Type 0 where
  pub number : number_of r ≡ text_refusal text room
  pub written : IfOk r (λ n. n ≡ length (text_profile text))

-- the buffer after the call: the profile at its beginning, or as it was where the call is refused
unfoldable pub text_buffer : List ℕ → List ℕ → List ℕ
text_buffer text buffer = cond (ltb 0 (text_refusal text (length buffer))) buffer (put_at buffer 0 (text_profile text))

-- `written` after the call: how many bytes the profile has, or as it was where the call is refused
abbrev pub length_after : List ℕ → ℕ → ℕ → ℕ
length_after text room old = cond (eqb (text_refusal text room) 0) (length (text_profile text)) old

-- ---- the program

-- the bytes of the longest profile: a start and 64 sections
abbrev pub most_profile : ℕ
most_profile = 1040

-- what is printed of a text: its profile, or the single line REF 0 and the refusal, whose 84 bytes are no pairs
abbrev pub printed_for : List ℕ → List ℕ
printed_for text =
    let n : ℕ = text_refusal text most_profile in
    cond (eqb n 0) (text_profile text) (ref_line (record { line = 0; number = n }))

-- what is printed of an input of which so many bytes were read; nothing where a read failed
abbrev pub printed_of : List ℕ → Option ℕ → List ℕ
printed_of input None = []
printed_of input (Some n) = printed_for (take n input)
