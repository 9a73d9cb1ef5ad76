use Rattle.std.proofs.Common.{rules, tests, arith, refl, eqb, get_or, ◌+◌, ◌∙◌}
use Rattle.std.proofs.lemmas.Iterator.{YieldsList-from_range}
use Rattle.std.proofs.lemmas.Iterator.Search.{any_from_yields_List}
use Rattle.row.proofs.Asked.{asks_mem}
use Rattle.row.proofs.cells.Cells.comes_again.Goals as goal

pub returns : goal.returns
returns c =
    let l = c.args.self.now in
    let i = c.args.i in
    any_from_yields_List (λ j. eqb (get_or l i 0) (get_or l j 0)) _ _ c.any.result c.any.ensures.ran (YieldsList-from_range (i + 1) _ _ refl refl) (λ x b q k. search (rules, tests))
    ∙ asks_mem l (get_or l i 0) (i + 1) _ (omega (arith, c.len-count.ensures, c.requires))
