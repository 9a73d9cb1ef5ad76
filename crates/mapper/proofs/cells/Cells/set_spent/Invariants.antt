use Rattle.mapper.proofs.Cellwise.{Renewing}
use Rattle.mapper.proofs.cells.Cells.set_spent.Given as goal

abbrev pub invariant-loop-c : goal.invariant-loop-c
invariant-loop-c l = Renewing l.initial.self l.initial.text l.self l.text l.c
