use Rattle.netlist.proofs.Following.{Outputting}
use Rattle.netlist.proofs.Netlist.read_outputs.Given as goal

abbrev pub invariant-loop-k : goal.invariant-loop-k
invariant-loop-k l = Outputting l.text l.start l.initial.self l.self l.place l.k
