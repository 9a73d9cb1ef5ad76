use lib.Dec.{ltb}
use Rattle.std.proofs.lemmas.Fn.{always_returns_same}
use Rattle.netlist.proofs.Ascending.{ascending_is}
use Rattle.std.proofs.Common.{rules}
use Rattle.netlist.proofs.line.ascend.Goals as goal

pub returns : goal.returns
returns c = ascending_is _ _ (c.is_sorted_by.ensures.cases ltb (always_returns_same _ _ _ (λ a r f k. search rules)))
