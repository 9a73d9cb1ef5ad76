use Rattle.std.proofs.Common.{◌≡◌}
use Rattle.mapper.specs.Held.{NoneBelow}
use Rattle.mapper.proofs.cells.Cells.seek.Given as goal

abbrev pub invariant-loop-c : goal.invariant-loop-c
invariant-loop-c l = (l.self ≡ l.initial.self) × NoneBelow l.initial.self.held l.c
