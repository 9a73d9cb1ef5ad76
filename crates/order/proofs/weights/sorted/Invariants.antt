use Rattle.order.proofs.Sorting.{Picking}
use Rattle.order.proofs.weights.sorted.Given as goal

abbrev pub invariant-loop-x : goal.invariant-loop-x
invariant-loop-x l = Picking l.inputs l.operands l.f l.x-index
