use Rattle.checker.proofs.Placing.{Held}
use Rattle.checker.proofs.places.hold.Given as goal

abbrev pub invariant-loop-j : goal.invariant-loop-j
invariant-loop-j l = Held l.book l.text l.places l.outs l.j
