use Rattle.order.proofs.Counting.{CountingUp}
use Rattle.order.proofs.readers.count_up.Given as goal

abbrev pub invariant-loop-o : goal.invariant-loop-o
invariant-loop-o l = CountingUp l.list l.initial.left l.left l.o-index
