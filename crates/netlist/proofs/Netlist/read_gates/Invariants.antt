use Rattle.netlist.proofs.Following.{Gating}
use Rattle.netlist.proofs.Netlist.read_gates.Given as goal

abbrev pub invariant-loop-g : goal.invariant-loop-g
invariant-loop-g l = Gating l.text l.start l.initial.self l.self l.at l.g
