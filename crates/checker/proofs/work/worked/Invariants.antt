use Rattle.checker.proofs.Working.{Worked}
use Rattle.checker.proofs.work.worked.Given as goal

abbrev pub invariant-loop-done : goal.invariant-loop-done
invariant-loop-done l = Worked l.gates.netlist.now l.text l.code l.count l.initial.book l.book l.at l._done
