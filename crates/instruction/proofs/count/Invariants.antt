use Rattle.instruction.proofs.Counting.{Counted}
use Rattle.instruction.proofs.count.Given as goal

abbrev pub invariant-loop-k : goal.invariant-loop-k
invariant-loop-k l = Counted l.text l.first l.k
