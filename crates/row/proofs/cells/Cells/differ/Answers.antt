use Rattle.std.proofs.Common.{rules, tests, arith, refl, ap, not, ◌∙◌}
use Rattle.std.proofs.lemmas.Iterator.{YieldsList-from_range}
use Rattle.std.proofs.lemmas.Iterator.Search.{any_from_yields_List}
use Rattle.row.proofs.Asked.{again, asks_again}
use Rattle.row.proofs.cells.Cells.differ.Goals as goal

pub returns : goal.returns
returns c =
    let l = c.args.self.now in
    ap not (any_from_yields_List (again l) _ _ c.any.result c.any.ensures.ran (YieldsList-from_range 0 _ _ refl refl) (λ x b q k. search (rules, tests))
    ∙ asks_again l 0 _ (omega (arith, c.len.ensures)))
