use Rattle.mapper.proofs.Tabling.{Forgetting}
use Rattle.mapper.proofs.signals.Signals.forget.Given as goal

abbrev pub invariant-loop-o : goal.invariant-loop-o
invariant-loop-o l = Forgetting l.operands l.initial.self l.self l.o-index
