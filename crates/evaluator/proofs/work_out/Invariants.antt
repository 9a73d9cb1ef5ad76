use Rattle.evaluator.proofs.Worked.{Working}
use Rattle.evaluator.proofs.work_out.Given as goal

abbrev pub invariant-loop-g : goal.invariant-loop-g
invariant-loop-g l = Working l.n l.initial.values l.values l.g
