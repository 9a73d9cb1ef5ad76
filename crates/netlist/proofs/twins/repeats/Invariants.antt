use Rattle.std.proofs.Common.{◌≡◌, drop}
use Rattle.rules.specs.Basics.{repeats}
use Rattle.netlist.proofs.Alike.{again}
use Rattle.netlist.proofs.twins.repeats.Given as goal

abbrev pub invariant-loop-s : goal.invariant-loop-s
invariant-loop-s l = again l.seen (drop l.s-index l.list) ≡ repeats l.list
