use Rattle.std.specs.Ordering.{is_lt}
use Rattle.std.proofs.Common.{◌≡◌, rules}
use Rattle.std.proofs.lemmas.Fn.{always_returns_same}
use Rattle.rules.specs.Weight.{goes_before, weight_in}
use Rattle.order.proofs.Ranked.{before_order, sorted_is}
use Rattle.order.proofs.gates.sort.Goals as goal

pub returns : goal.returns
returns c =
    let w = weight_in c.args.wts.now in
    sorted_is w _ _ c.sort_unstable_by.ensures.permutation (c.sort_unstable_by.ensures.sorted (goes_before w) (before_order w)
    (always_returns_same _ (λ a r. is_lt r ≡ goes_before w a.0.now a.1.0.now) _ (λ a r f' k. search rules)))
