use Rattle.netlist.proofs.Alike.{twins_from}
use Rattle.netlist.proofs.twins.twin_gates.Goals as goal

pub returns : goal.returns
returns c = twins_from _ c.requires _ _ _ c.gate_keys-keys.ensures c.of.ensures c.twice.ensures
