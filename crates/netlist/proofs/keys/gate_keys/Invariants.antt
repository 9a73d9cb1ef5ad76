use Rattle.std.proofs.Common.{◌≡◌}
use Rattle.netlist.specs.Keys.{keys_to}
use Rattle.netlist.proofs.keys.gate_keys.Given as goal

abbrev pub invariant-loop-g : goal.invariant-loop-g
invariant-loop-g l = l.keys ≡ keys_to l.n.ops l.n.counts l.g
