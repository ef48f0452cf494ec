-- Runs of case A's section 1 of document 01, shot again, from the bytes of the two texts to the judgement: each of the five cases, at the limit and beyond it.
use Rattle.std.specs.Prelude.{◌≡◌, refl, List, ℕ, pos, neg_ℤ}
use Prim.Native.String.{String, ◌++◌}
use Rattle.numbers.specs.Numbers.{put_at}
use Rattle.roots.specs.Limit.{is_within}
use Rattle.adjust.specs.declared.terms.Class.TheVariants.{Third, Spur}
use Rattle.adjust.specs.Terms.{terms_of}
use Rattle.columns.specs.Ascii.{bytes_of}
use Rattle.columns.specs.Decimals.{blanks, digits_by, digits, decimal, pad, same, value_of, has_minus, candidate, field_of}
use Rattle.columns.specs.Lines.{line_end}
use Rattle.columns.specs.Records.{tag_among, all_numbers, numbers_in, lacks_print_unit, with_print_unit, numbers_line, record_in, line_in}
use Rattle.columns.specs.Texts.{lines_by, lines}
use Rattle.repeat.specs.declared.Judgement.{Judgement}
use Rattle.repeat.specs.declared.Judgement.TheVariants.{New, Mean, Opposite}
use Rattle.repeat.specs.Repeat.{run_in, is_run, all_stations, judged, judgement, judge_refusal, judgement_of}

-- ---- by G: the old run has 1316, and R 2564; at third order the limit is 8, doubled 17, on a spur 14 and 28

abbrev of_third : ℕ → ℕ → Judgement
of_third new back = judged (terms_of Third).apart (pos 2564) (pos 1316) (pos new) (neg_ℤ (pos back))

abbrev of_spur : ℕ → ℕ → Judgement
of_spur new back = judged (terms_of Spur).apart (pos 2564) (pos 1316) (pos new) (neg_ℤ (pos back))

pub record Judged : Type 0 where
  -- a: 9 from the old run, 8 from the opposite one; c: 9 from that too
  pub new_alone : of_third 1325 1333 ≡ New
  pub both_bad : of_third 1325 1334 ≡ Opposite
  -- b: 8 from the old run, and the mean, 1320, is 8 from the opposite run, or 9
  pub mean_good : of_third 1324 1328 ≡ Mean
  pub mean_bad : of_third 1324 1329 ≡ New
  -- a mean of 1319.5, which is 8.5 from it: rounded, it would be 9
  pub mean_half : of_third 1323 1328 ≡ Mean
  -- c: and the new run is 8 from it, or 9
  pub new_good : of_third 1324 1332 ≡ New
  pub all_bad : of_third 1324 1333 ≡ Opposite
  -- a spur
  pub spur_alone : of_spur 1331 1345 ≡ New
  pub spur_both : of_spur 1331 1346 ≡ Opposite
  pub spur_mean : of_spur 1330 1337 ≡ Mean
  pub spur_bad : of_spur 1330 1338 ≡ New
  pub spur_all : of_spur 1330 1345 ≡ Opposite
  -- below 0.10 km as 0.10 km: the limit is 7
  pub short_near : judged (terms_of Third).apart (pos 16) (pos 100) (pos 107) (neg_ℤ (pos 110)) ≡ Mean
  pub short_far : judged (terms_of Third).apart (pos 16) (pos 100) (pos 108) (neg_ℤ (pos 110)) ≡ New

pub judged_worked : Judged
unfolding is_within
judged_worked =
    record {
      new_alone = refl;
      both_bad = refl;
      mean_good = refl;
      mean_bad = refl;
      mean_half = refl;
      new_good = refl;
      all_bad = refl;
      spur_alone = refl;
      spur_both = refl;
      spur_mean = refl;
      spur_bad = refl;
      spur_all = refl;
      short_near = refl;
      short_far = refl;
    }

-- ---- by texts, of third order with DS3

abbrev station1 : String
station1 = "STA    4787    1571    1197    1384    6171    4687     739     363     551    5239\n"

-- the last station, by which the run has G 1316, and by which it has 1325
abbrev station2 : String
station2 = "STA    4687    1965    1700    1832    6519    4787    2141    1874    2007    6793\n"

abbrev another2 : String
another2 = "STA    4687    1965    1700    1832    6519    4787    2141    1874    2003    6788\n"

abbrev old : List ℕ
old = bytes_of (station1 ++ station2)

abbrev new : List ℕ
new = bytes_of (station1 ++ another2)

abbrev refused : String → ℕ
refused second = judge_refusal old (bytes_of second) (pos 3) (pos 3) (neg_ℤ (pos 1333)) (pos 1282)

pub record Texts : Type 0 where
  pub stands : judgement_of old new (pos 3) (pos 3) (neg_ℤ (pos 1333)) (pos 1282) ≡ New
  pub taken : judge_refusal old new (pos 3) (pos 3) (neg_ℤ (pos 1333)) (pos 1282) ≡ 0
  pub order : judge_refusal old new (pos 5) (pos 3) (neg_ℤ (pos 1333)) (pos 7) ≡ 3
  pub instrument : judge_refusal old new (pos 4) (pos 2) (neg_ℤ (pos 1333)) (pos 7) ≡ 3
  pub g_most : judge_refusal old new (pos 4) (pos 1) (pos 1250000) (pos 8) ≡ 0
  pub g_beyond : judge_refusal old new (pos 4) (pos 1) (pos 1250001) (pos 8) ≡ 52
  pub s_most : judge_refusal old new (pos 4) (pos 1) (neg_ℤ (pos 1250000)) (pos 600000) ≡ 0
  pub s_below : judge_refusal old new (pos 4) (pos 1) (pos 0) (pos 7) ≡ 52
  pub s_beyond : judge_refusal old new (pos 4) (pos 1) (pos 0) (pos 600001) ≡ 52
  pub nothing : refused "" ≡ 52
  pub odd : refused station1 ≡ 52
  -- the second station's back staff is not the first one's fore staff
  pub out_of_turn : refused (station1 ++ station1) ≡ 52
  -- a line that is none, another record, a title
  pub cut : refused (station1 ++ station2 ++ "STA") ≡ 52
  pub dropped : refused (station1 ++ "DRR                                                                                \n" ++ station1 ++ station2) ≡ 52
  pub titled : refused ("LEVEL BOOK                                                                         \n" ++ station1 ++ station2) ≡ 52

pub texts_worked : Texts
unfolding run_in is_run all_stations judgement judge_refusal lines_by lines line_in record_in with_print_unit lacks_print_unit numbers_line tag_among all_numbers numbers_in put_at line_end field_of candidate has_minus value_of same pad decimal digits digits_by blanks is_within
texts_worked =
    record {
      stands = refl;
      taken = refl;
      order = refl;
      instrument = refl;
      g_most = refl;
      g_beyond = refl;
      s_most = refl;
      s_below = refl;
      s_beyond = refl;
      nothing = refl;
      odd = refl;
      out_of_turn = refl;
      cut = refl;
      dropped = refl;
      titled = refl;
    }
