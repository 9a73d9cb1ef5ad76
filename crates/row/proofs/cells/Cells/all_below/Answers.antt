use Rattle.std.proofs.Common.{rules, tests, arith, refl, ltb, get_or, ◌∙◌}
use Rattle.std.proofs.lemmas.Iterator.{YieldsList-from_range}
use Rattle.std.proofs.lemmas.Iterator.Search.{all_from_yields_List}
use Rattle.row.proofs.Asked.{asks_all}
use Rattle.row.proofs.cells.Cells.all_below.Goals as goal

pub returns : goal.returns
returns c =
    let l = c.args.self.now in
    all_from_yields_List (λ j. ltb (get_or l j 0) c.args.row) _ _ c.all.result c.all.ensures.ran (YieldsList-from_range 0 _ _ refl refl) (λ x b q k. search (rules, tests))
    ∙ asks_all l (λ x. ltb x c.args.row) 0 _ (omega (arith, c.len.ensures))
