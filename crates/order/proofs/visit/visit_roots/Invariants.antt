use Rattle.order.specs.Visit.{ops_in}
use Rattle.order.proofs.Walking.{Rooting}
use Rattle.order.proofs.visit.visit_roots.Given as goal

abbrev pub invariant-loop-s : goal.invariant-loop-s
invariant-loop-s l = Rooting (ops_in l.rows) l.left l.first l.end l.initial.order l.order l.s
