use Rattle.row.proofs.Climbing.{Climbing}
use Rattle.row.proofs.cells.Cells.ascend.Given as goal

abbrev pub invariant-loop-j : goal.invariant-loop-j
invariant-loop-j l = Climbing l.self l.last l.j
