use Rattle.std.proofs.Common.{◌≡◌}
use Rattle.netlist.specs.Flat.{gates_in}
use Rattle.netlist.specs.Marks.{no_marks, marked_by}
use Rattle.netlist.proofs.used.all_used.Given as goal

abbrev pub invariant-loop-g : goal.invariant-loop-g
invariant-loop-g l = l.marks ≡ marked_by (gates_in l.n.ops l.n.counts l.g) no_marks
