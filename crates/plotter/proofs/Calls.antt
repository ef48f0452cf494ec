-- What is claimed of the profile: of the book that calls leave, of every text, and of what the program prints.
use mathlib.Core.Path.{◌≡◌, refl, sym, ap, subst, ◌∙◌}
use mathlib.Core.Bool.{Bool, false, cond}
use mathlib.Core.List.{List, [], ◌∷◌, map}
use Prim.Native.Nat.{ℕ, ◌+◌, ◌*◌, ◌≤◌, ◌<◌}
use native.Mathlib.Omega.{arith}
use borrow.Author.Tests.{lt-ltb}
use lib.Dec.{eqb, ltb}
use lib.ListN.{length, take, length-append}
use lib.IntN.{ℤ, pos, nat_abs, ◌+ℤ◌, ◌-ℤ◌}
use lib.Ieee.{binary64, sub, to_bits}
use lib.Ieee.Bits.{of_bits-to_bits, to_bits-lt}
use lib.Ieee.Fits.{of_int-fits}
use Rattle.std.specs.Prelude.{Err, Some, None, IfOk, from_bits}
use Rattle.std.specs.declared.result.Result.{Result}
use Rattle.std.proofs.lemmas.Nat.{from_le_bytes-to_le_bytes_8}
use Rattle.numbers.specs.Numbers.{put_at}
use Rattle.numbers.specs.Tables.{first_of}
use Rattle.numbers.proofs.Tests.{by_test}
use Rattle.numbers.proofs.Tables.{first_lowest, zero_cond, nonzero_cond}
use Rattle.numbers.proofs.Ring.{ringℤ}
use Rattle.records.specs.declared.Refusal.{Refusal}
use Rattle.records.specs.Refusals.{refusal_number}
use Rattle.records.proofs.Numbered.{not_zero}
use Rattle.adjust.specs.declared.Section.{Section}
use Rattle.adjust.proofs.Lists.{Fit, fit_head, fit_tail, fitted_legs}
use Rattle.adjust.proofs.Sized.{in_range_lem}
use Rattle.columns.specs.Texts.{lines, joined}
use Rattle.rules.specs.declared.Book.{Book}
use Rattle.rules.specs.LineState.{LineState, state_of}
use Rattle.rules.specs.declared.call.Call.TheVariants.{CloseLine as close_line}
use Rattle.ledger.specs.Plain.{Reading, fresh_reading, after, plain_state, book_of}
use Rattle.ledger.proofs.Kept.{Kept, calls_kept, kept_unbroken}
use Rattle.ledger.proofs.Again.{held}
use Rattle.textbook.specs.declared.text.State.{State}
use Rattle.textbook.specs.Text.{too_long, lines_reading, text_line}
use Rattle.textbook.specs.code.State.{text_state}
use Rattle.textbook.proofs.Readings.{lines_kept, lines_book}
use Rattle.fieldbook.specs.Report.{ref_line}
use Rattle.fieldbook.proofs.Bytes.{ref_short}
use Rattle.plotter.specs.declared.Mark.{Mark}
use Rattle.plotter.specs.Floats.{float_of, float_bytes, Equals}
use Rattle.plotter.specs.Profile.{next_mark, marks_after, start_mark, pair_of, mark_bytes, profile, unready, profile_tests, profile_refusal, Profiles, buffer_after}
use Rattle.plotter.specs.Text.{text_profile, text_refusal, TextProfiles, text_buffer, most_profile, printed_for}
use Rattle.plotter.specs.Claims.{BytesBack, PairEquals, Exactly, no_section, next_section, SoundProfile, EveryAnswer, EveryProfile, EveryText, LowestGiven, PrintedFits}
use Rattle.plotter.specs.code.Reached.{Reached}
use Rattle.plotter.proofs.Floats.{whole_exact, difference_exact}
use Rattle.plotter.proofs.Written.{start_reached, reached_next, reached_by, distance_exact, height_exact, mark_long, marks_long}

-- ---- floats

pub bytes_back : BytesBack
unfolding float_bytes
bytes_back z =
    let fits = of_int-fits binary64 z in
    ap (from_bits binary64) (from_le_bytes-to_le_bytes_8 (to_bits binary64 (float_of z)) (omega (arith, to_bits-lt binary64 (float_of z) fits)))
    ∙ of_bits-to_bits binary64 (float_of z) fits

-- ---- the points of a line

mark_equals : {m : Mark} → Reached 64 m → PairEquals (pair_of m) m.distance m.height
mark_equals {m} r = record { distance = whole_exact m.distance (distance_exact r); height = whole_exact m.height (height_exact r) }

taken_away : (a x : ℤ) → (a +ℤ x) -ℤ a ≡ x
taken_away a x = simp ringℤ

-- from one float to another
step : (a x : ℤ) → nat_abs x ≤ 50000000 → nat_abs a ≤ 9000000000000 → nat_abs (a +ℤ x) ≤ 9000000000000 → Equals (sub binary64 (float_of (a +ℤ x)) (float_of a)) x
step a x small h g =
    subst (Equals (sub binary64 (float_of (a +ℤ x)) (float_of a))) (taken_away a x)
    (difference_exact (float_of (a +ℤ x)) (float_of a) (a +ℤ x) a (whole_exact (a +ℤ x) (omega arith)) (whole_exact a (omega arith)) (omega (arith, ap nat_abs (taken_away a x))))

exactly : (m : Mark) (ss : List Section) {k : ℕ} → Reached k m → k + length ss ≤ 64 → Fit ss → Exactly (pair_of m) m.distance m.height ss (map pair_of (marks_after m ss))
exactly m [] r h f = no_section
exactly m (x ∷ xs) {k} r h f =
    let b = fit_head x xs f in
    let n = reached_next x r b in
    let here : Reached 64 m = reached_by (omega arith) r in
    let there : Reached 64 (next_mark m x) = reached_by (omega arith) n in
    next_section (mark_equals there)
    (record {
      distance = step m.distance x.distance (omega (arith, b.distance)) (omega (arith, here.distance)) (omega (arith, there.distance));
      height = step m.height x.height (omega (arith, b.height)) (omega (arith, here.height)) (omega (arith, there.height));
    })
    (exactly (next_mark m x) xs n (omega arith) (fit_tail x xs f))

module _ (v : LineState) (k : Kept v) where
  fit : Fit v.sections
  fit = fitted_legs v.sections k.fit

  started : Reached 0 (start_mark v.line.opening)
  started = start_reached v.line.opening (in_range_lem v.line.opening.start.height k.start)

  profile_long : length (profile v) ≡ 16 * (length v.sections + 1)
  unfolding profile joined
  profile_long =
      let m : Mark = start_mark v.line.opening in
      omega (arith, length-append (mark_bytes m) (joined (map mark_bytes (marks_after m v.sections))), mark_long m, marks_long m v.sections)

  sound : SoundProfile v
  sound =
      record {
        start = mark_equals (reached_by (omega arith) started);
        others = exactly (start_mark v.line.opening) v.sections started (omega (arith, k.few)) fit;
        long = profile_long;
      }

-- ---- the answer

pub lowest_given : LowestGiven
unfolding profile_refusal
lowest_given v room = first_lowest (λ n. n) (profile_tests v room) 0 refl

-- of the book that holds a reading
book_answer : (r : Reading) → Kept (plain_state r) → (room : ℕ) → profile_refusal (state_of (book_of r)) room ≡ cond (unready (plain_state r) room) 56 0
unfolding profile_refusal
book_answer r k room =
    ap (λ (v : LineState). first_of (profile_tests v room)) (held r refl)
    ∙ (λ i. cond (kept_unbroken (plain_state r) k (close_line (pos 0) (pos 0)) i) 20 (cond (unready (plain_state r) room) 56 0))

pub every_answer : EveryAnswer
every_answer calls = book_answer (after fresh_reading calls) (calls_kept calls)

pub every_profile : EveryProfile
every_profile calls = let r = after fresh_reading calls in subst SoundProfile (sym (held r refl)) (sound (plain_state r) (calls_kept calls))

-- ---- texts

pub every_text : EveryText
every_text text = sound (text_line text) (lines_kept (lines text))

-- by what is answered of a text when it is read
short_text : (t : List ℕ) → ◌≡◌ {A = ℕ} 0 (cond (too_long t) 9 0) → too_long t ≡ false
short_text t = by_test (too_long t) (λ b. ◌≡◌ {A = ℕ} 0 (cond b 9 0) → b ≡ false) (λ b e. absurd (omega (arith, e))) (λ b e. refl)

module _ (t d : List ℕ) where
  abbrev room : ℕ
  room = length d

  -- a refusal is answered, and the buffer is left as it was
  pub refused : (x : Refusal) → text_refusal t room ≡ refusal_number x → TextProfiles t room (Err x) × (d ≡ text_buffer t d)
  unfolding text_buffer
  refused x e =
      let some : 0 < text_refusal t room = omega (arith, e, not_zero x) in
      (record { number = sym e; written = tt }, sym (ap (λ (b : Bool). cond b d (put_at d 0 (text_profile t))) (lt-ltb 0 (text_refusal t room) some)))

  pub unread_text : (x : Refusal) → refusal_number x ≡ cond (too_long t) 9 0 → TextProfiles t room (Err x) × (d ≡ text_buffer t d)
  unfolding text_refusal
  unread_text x e =
      refused x
      (by_test (too_long t) (λ b. refusal_number x ≡ cond b 9 0 → first_of ((9, b) ∷ (56, unready (text_line t) room) ∷ []) ≡ refusal_number x)
      (λ b h. sym h) (λ b h. absurd (not_zero x h)) e)

  -- what is answered of the book that was read is answered of the text
  pub of_book : {s : State} {r : Result ℕ Refusal} {e : List ℕ} → ◌≡◌ {A = ℕ} 0 (cond (too_long t) 9 0) → s ≡ text_state (lines t)
      → Profiles (state_of s.book) room r → e ≡ buffer_after (state_of s.book) d → TextProfiles t room r × (e ≡ text_buffer t d)
  unfolding text_refusal buffer_after text_buffer
  of_book {s} {r} {e} short read p q =
      let same : state_of s.book ≡ text_line t = ap (λ (s : State). state_of s.book) read ∙ held (lines_reading (lines t)) (lines_book (lines t)) in
      let number : profile_refusal (state_of s.book) room ≡ text_refusal t room =
      ap (λ (s : State). profile_refusal (state_of s.book) room) read
      ∙ ap (λ (b : Book). profile_refusal (state_of b) room) (lines_book (lines t))
      ∙ book_answer (lines_reading (lines t)) (lines_kept (lines t)) room
      ∙ (λ i. cond (sym (short_text t short) i) 9 (cond (unready (text_line t) room) 56 0)) in (
        record { number = p.number ∙ number; written = subst (λ (v : LineState). IfOk r (λ n. n ≡ length (profile v))) same p.written },
        q ∙ (λ i. cond (ltb 0 (number i)) d (put_at d 0 (profile (same i)))),
      )

  pub profiled : ◌≡◌ {A = ℕ} 0 (text_refusal t room) → text_buffer t d ≡ put_at d 0 (text_profile t)
  unfolding text_buffer
  profiled e = ap (λ (n : ℕ). cond (ltb 0 n) d (put_at d 0 (text_profile t))) (sym e)

  -- of a text that is taken its profile is printed
  pub prints_profile : most_profile ≡ room → ◌≡◌ {A = ℕ} 0 (text_refusal t room) → text_profile t ≡ printed_for t
  prints_profile is e = sym (zero_cond (text_refusal t most_profile) (text_profile t) _ (ap (text_refusal t) is ∙ sym e))

  -- of one that is refused its refusal
  pub prints_refusal : most_profile ≡ room → (x : Refusal) → refusal_number x ≡ text_refusal t room → ref_line (record { line = 0; number = refusal_number x }) ≡ printed_for t
  prints_refusal is x e =
      let same : text_refusal t most_profile ≡ refusal_number x = ap (text_refusal t) is ∙ sym e in
      ap (λ (n : ℕ). ref_line (record { line = 0; number = n })) (sym same) ∙ sym (nonzero_cond (text_refusal t most_profile) (text_profile t) _ (λ z. not_zero x (sym same ∙ z)))

-- ---- what is printed

pub printed_fits : PrintedFits
printed_fits input None = omega arith
printed_fits input (Some n) = go (take n input)
  where
    go : (t : List ℕ) → length (printed_for t) ≤ most_profile
    go t =
        let n : ℕ = text_refusal t most_profile in
        by_test (eqb n 0) (λ b. length (cond b (text_profile t) (ref_line (record { line = 0; number = n }))) ≤ most_profile)
        (λ b. omega (arith, profile_long (text_line t) (lines_kept (lines t)), (lines_kept (lines t)).few))
        (λ b. omega (arith, ref_short (record { line = 0; number = n })))
