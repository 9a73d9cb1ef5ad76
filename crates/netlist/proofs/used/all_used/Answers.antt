use native.Mathlib.Omega.{arith}
use mathlib.Core.Path.{◌∙◌}
use Rattle.netlist.proofs.Marking.{used_is}
use Rattle.netlist.proofs.used.all_used.Goals as goal

pub returns : goal.returns
returns c = c.all_marked.ensures ∙ rw (c.mark-2.ensures, c.output_list.ensures.held c.requires.outputs_most) (used_is _ _ _ c.requires (omega arith) c.loop-g.invariant)
