use Rattle.order.proofs.Readership.{Reading}
use Rattle.order.proofs.readers.count_readers.Given as goal

abbrev pub invariant-loop-g : goal.invariant-loop-g
invariant-loop-g l = Reading l.n.ops l.n.counts l.left l.n.gates l.g
