use Rattle.std.proofs.Common.{◌+◌, unwrap_or, ap, ◌∙◌, rules}
use Rattle.std.proofs.lemmas.Iterator.{YieldsList-from_slice, YieldsList-from_map}
use Rattle.std.proofs.lemmas.Iterator.Consumers.{reduce_from_yields_List, YieldsList-from_enumerate}
use Rattle.rules.specs.Weight.{weight_in}
use Rattle.order.proofs.Sorting.{largest_is_weight}
use Rattle.order.proofs.weights.weight_of.Goals as goal

pub returns : goal.returns
returns c =
    let s = c.args.signals.now in
    let w = weight_in c.args.wts.now in
    c.unwrap_or.ensures ∙ ap (λ o. unwrap_or o 1) (reduce_from_yields_List _ c.map.result _ c.max.ensures.ran
    (YieldsList-from_map _ (λ p. w p.1 + p.0) (YieldsList-from_enumerate (YieldsList-from_slice s cc) cc) c.map.ensures.closure (λ x b q k. search rules))) ∙ largest_is_weight w s
