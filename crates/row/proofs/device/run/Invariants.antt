use Rattle.row.proofs.Running.{Ran}
use Rattle.row.proofs.device.run.Given as goal

abbrev pub invariant-loop-cycle : goal.invariant-loop-cycle
invariant-loop-cycle l = Ran l.text l.code l.cycles l.initial.row l.at l.row l._cycle
