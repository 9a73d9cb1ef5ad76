use Rattle.checker.proofs.Gathering.{Gathered}
use Rattle.checker.proofs.operands.key.Given as goal

abbrev pub invariant-loop-j : goal.invariant-loop-j
invariant-loop-j l = Gathered l.book l.text l.i.first l.i.cells l.j l.four
