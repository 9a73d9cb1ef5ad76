use Rattle.mapper.proofs.Runs.{Running}
use Rattle.mapper.proofs.cells.Cells.run.Given as goal

abbrev pub invariant-loop-s : goal.invariant-loop-s
invariant-loop-s l = Running l.n l.fn.self.row l.order l.cells l.signals l.text l.s-index
