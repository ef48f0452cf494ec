-- The tables of the calls' tests: what their numbers satisfy, computed for every state of a line at once, a line for each call; and that a call that is
-- taken fails every test.
use mathlib.Core.Path.{◌≡◌, sym, ◌∙◌}
use mathlib.Core.Bool.{Bool, true, false, not, cond, ◌&&◌}
use mathlib.Core.List.{List, ◌++◌}
use Prim.Native.Nat.{ℕ}
use borrow.Author.Rules.{rules}
use lib.Dec.{leb, eqb}
use lib.ListN.{length}
use Rattle.numbers.proofs.Tests.{or_r}
use Rattle.numbers.proofs.Tables.{each_number, numbered, test_of, failed, rises}
use Rattle.rules.specs.LineState.{LineState, line_broken}
use Rattle.rules.specs.declared.call.Call.{Call}
use Rattle.rules.specs.declared.call.Call.TheVariants.{OpenLine as open_line, Station as station, EndRun as end_run, DropRun as drop_run, DropSection as drop_section, CloseLine as close_line, OpenSpur as open_spur, CloseSpur as close_spur, Collimation as collimation, Constants as constants, LiftSection as lift_section}
use Rattle.rules.specs.Rules.{is_closing, is_lift, all_broken, last_broken, broken, input_tests, state_tests, refusal, book_tests, book_refusal, rank}

-- a call's tests
abbrev pub tests : LineState → Call → List (ℕ × Bool)
tests v c = input_tests c ++ state_tests v c

pub record Tables (v : LineState) (c : Call) : Type 0 where
  -- no number is 0
  pub inputs : numbered (input_tests c) ≡ true
  pub all : numbered (tests v c) ≡ true
  pub book : numbered (book_tests v c) ≡ true
  -- 20 is in a book's table alone
  pub twenty : test_of 20 (book_tests v c) ≡ broken v c
  pub no_twenty : each_number (λ n. not (eqb n 20)) (tests v c) ≡ true
  pub two_digits : each_number (λ n. leb n 99) (tests v c) ≡ true
  -- the numbers rise by their rank
  pub rising : rises rank 0 (tests v c) ≡ true
  pub book_rising : rises rank 0 (book_tests v c) ≡ true

pub tables : (v : LineState) (c : Call) → Tables v c
tables v (open_line order instrument number height prints) = search rules
tables v (station kb kf readings) = search rules
tables v (end_run number) = search rules
tables v drop_run = search rules
tables v drop_section = search rules
tables v (close_line number end) = search rules
tables v (open_spur order instrument number height prints) = search rules
tables v (close_spur number) = search rules
tables v (collimation x) = search rules
tables v (constants first second) = search rules
tables v lift_section = search rules

module _ (v : LineState) (c : Call) where
  pub fails : refusal v c ≡ 0 → (n : ℕ) → test_of n (tests v c) ≡ false
  fails e = failed (tests v c) (tables v c).all e

  pub book_fails : book_refusal v c ≡ 0 → (n : ℕ) → test_of n (book_tests v c) ≡ false
  unfolding book_refusal
  book_fails e = failed (book_tests v c) (tables v c).book e

  pub not_broken : book_refusal v c ≡ 0 → broken v c ≡ false
  not_broken e = sym (tables v c).twenty ∙ book_fails e 20

  pub line_unbroken : book_refusal v c ≡ 0 → line_broken v.line (length v.sections) ≡ false
  line_unbroken e = or_r (cond (is_closing c) (all_broken v) (is_lift c && last_broken v)) (line_broken v.line (length v.sections)) (not_broken e)
