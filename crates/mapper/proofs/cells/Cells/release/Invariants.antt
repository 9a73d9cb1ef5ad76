use Rattle.mapper.proofs.Tabling.{Spending}
use Rattle.mapper.proofs.cells.Cells.release.Given as goal

abbrev pub invariant-loop-o : goal.invariant-loop-o
invariant-loop-o l = Spending l.operands l.signals l.initial.self l.self l.o-index
