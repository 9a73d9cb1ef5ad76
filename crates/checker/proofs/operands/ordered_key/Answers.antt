use Rattle.std.proofs.Common.{◌∙◌, ap}
use Rattle.index.specs.Chains.{key_of}
use Rattle.checker.proofs.Sorting.{sorted_same}
use Rattle.checker.proofs.operands.ordered_key.Goals as goal

pub returns : goal.returns
returns c = c.key.ensures ∙ ap key_of (sorted_same _ _ c.sort_unstable.ensures.permutation c.sort_unstable.ensures.sorted)
