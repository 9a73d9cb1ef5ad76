use Rattle.mapper.proofs.Counting.{CountingDown}
use Rattle.mapper.proofs.signals.count_down.Given as goal

abbrev pub invariant-loop-o : goal.invariant-loop-o
invariant-loop-o l = CountingDown l.operands l.initial.left l.left l.o-index
