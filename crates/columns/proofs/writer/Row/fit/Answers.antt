-- Each number fits its field, told by its place.
use Rattle.std.proofs.Common.{rules, arith, ◌∙◌, length}
use Rattle.std.proofs.lemmas.Int.{to_z-of_z}
use Rattle.std.proofs.lemmas.Iterator.{YieldsList-from_slice}
use Rattle.std.proofs.lemmas.Iterator.Consumers.{YieldsList-from_enumerate}
use Rattle.std.proofs.lemmas.Iterator.Search.{all_from_yields_List}
use Rattle.columns.proofs.Lines.{fits_at, fit_places}
use Rattle.columns.proofs.writer.Row.fit.Goals as goal

pub returns : goal.returns
returns c =
    let wide = c.args.self.now.wide in
    let zs = c.args.self.now.numbers.now in
    all_from_yields_List (fits_at wide (length zs)) _ _ c.all.result c.all.ensures.ran (YieldsList-from_enumerate (YieldsList-from_slice zs cc) cc) (λ x b q k. search (to_z-of_z, rules))
    ∙ fit_places wide zs (length zs) 0 (omega arith)
