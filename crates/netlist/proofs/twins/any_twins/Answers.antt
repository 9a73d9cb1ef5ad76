use Rattle.netlist.specs.Flat.{netlist_in, any_twins}
use Rattle.netlist.proofs.Alike.{outputs_low}
use Rattle.netlist.proofs.twins.any_twins.Goals as goal

pub returns-then-twin_gates : goal.returns-then-twin_gates
unfolding netlist_in any_twins
returns-then-twin_gates c = rw (← c.if-twin_gates.ensures) c.if-twin_gates.true

pub repeats-requires : goal.repeats-requires
repeats-requires c = outputs_low _ c.requires _ (c.output_list.ensures.held c.requires.outputs_most)

pub returns-else-twin_gates : goal.returns-else-twin_gates
unfolding netlist_in any_twins
returns-else-twin_gates c = rw (← c.if-twin_gates.ensures, ← c.output_list.ensures.held c.requires.outputs_most) c.repeats.ensures
