-- The figures of the head and those of the points are those of the book.
use mathlib.Core.Path.{ap, ◌∙◌}
use lib.Seq.{sets}
use Rattle.adjust.specs.declared.LineFigures.{LineFigures}
use Rattle.runner.specs.Figures.{head_figures, point_figures, book_figures}
use Rattle.runner.proofs.Laws.{stores_written}
use Rattle.runner.proofs.figures.put_book.Goals as goal

pub returns : goal.returns
returns c =
    let b = c.args.b.now in
    let old = c.args.list.now in
    let told = c.told-figures.ensures in
    let head = c.head_of-head.ensures ∙ ap (λ (f : LineFigures). head_figures f.summary b.line.present b.sections.count) told in
    c.put_points.ensures
    ∙ (λ i. sets ((c.put.ensures ∙ ap (sets old 0) head) i) 10 (point_figures (told i).points))
    ∙ stores_written (book_figures b) old
