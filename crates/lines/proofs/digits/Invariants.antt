use Rattle.lines.proofs.Laws.{Scanned}
use Rattle.lines.proofs.digits.Given as goal

abbrev pub invariant-loop-i : goal.invariant-loop-i
invariant-loop-i l = Scanned l.text l.i
