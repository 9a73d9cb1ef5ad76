use Rattle.order.proofs.Weighted.{Weighting}
use Rattle.order.proofs.weights.weigh_all.Given as goal

abbrev pub invariant-loop-g : goal.invariant-loop-g
invariant-loop-g l = Weighting l.n l.wts l.rows l.g
