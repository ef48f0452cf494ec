-- The book that the entries leave has counts that fit, and there are as many entries as are counted.
use mathlib.Core.Path.{ap, ◌∙◌}
use Rattle.numbers.specs.Numbers.{written}
use Rattle.rules.specs.declared.Book.{Book}
use Rattle.runner.specs.Calls.{entries_of}
use Rattle.runner.specs.Figures.{book_figures}
use Rattle.runner.proofs.Laws.{count_long, few_left}
use Rattle.runner.proofs.level_run.Goals as goal

pub put_book-requires : goal.put_book-requires
put_book-requires c = few_left (entries_of c.args.calls.now) c.run_calls-book.ensures.book

pub returns-clause-count : goal.returns-clause-count
returns-clause-count c = c.div_ceil.ensures ∙ count_long c.args.calls.now

pub returns-clause-figures : goal.returns-clause-figures
returns-clause-figures c = c.put_book.ensures ∙ ap (λ (b : Book). written (book_figures b) c.args.figures.now) c.run_calls-book.ensures.book
