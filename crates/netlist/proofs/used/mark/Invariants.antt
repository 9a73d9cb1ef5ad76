use Rattle.std.proofs.Common.{◌≡◌, drop, true}
use Rattle.rules.specs.Basics.{set_all}
use Rattle.netlist.proofs.used.mark.Given as goal

abbrev pub invariant-loop-s : goal.invariant-loop-s
invariant-loop-s l = set_all true (drop l.s-index l.list) l.marks ≡ set_all true l.list l.initial.marks
