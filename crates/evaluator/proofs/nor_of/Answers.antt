use Rattle.std.proofs.Common.{rules, tests, ap, ◌∙◌, eqb}
use Rattle.std.specs.Int.{from_bool}
use Rattle.std.proofs.lemmas.Iterator.{YieldsList-from_slice}
use Rattle.std.proofs.lemmas.Iterator.Search.{all_from_yields_List}
use Rattle.evaluator.specs.Values.{values_at}
use Rattle.evaluator.proofs.Worked.{nor_all}
use Rattle.evaluator.proofs.nor_of.Goals as goal

pub returns : goal.returns
returns c =
    let values = c.args.values.now in
    let operands = c.args.operands.now in
    let zero = all_from_yields_List (λ o. eqb (values_at values o) 0) _ _ c.all.result c.all.ensures.ran (YieldsList-from_slice operands cc) (λ x b q k. search (rules, tests)) in
    c.from.ensures ∙ ap from_bool zero ∙ nor_all values operands
