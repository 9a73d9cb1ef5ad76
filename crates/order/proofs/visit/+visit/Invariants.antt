-- The measure is the signal's number, which falls at each call.
use Rattle.order.specs.Visit.{ops_in}
use Rattle.order.proofs.Walking.{Walking}
use Rattle.order.proofs.visit.+visit.Given as goal

abbrev pub decreases-visit : goal.decreases-visit
decreases-visit l = l.s

abbrev pub invariant-loop-o : goal.invariant-loop-o
invariant-loop-o l = Walking (ops_in l.rows) l.s l.initial.order l.order l.o-index
