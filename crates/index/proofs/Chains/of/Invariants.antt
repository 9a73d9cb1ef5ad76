use Rattle.std.proofs.Common.{◌≡◌}
use Rattle.index.specs.Chains.{chained}
use Rattle.index.proofs.Chains.of.Given as goal

abbrev pub invariant-loop-g : goal.invariant-loop-g
invariant-loop-g l = record { heads = l.heads; next = l.next } ≡ chained l.keys l.g
