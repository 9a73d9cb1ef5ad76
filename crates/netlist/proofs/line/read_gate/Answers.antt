use Rattle.netlist.proofs.OneGate.{gate_high, gate_falls}
use Rattle.netlist.proofs.line.read_gate.Goals as goal

pub returns-then-not-all_below-clause-means : goal.returns-then-not-all_below-clause-means
returns-then-not-all_below-clause-means c = let o = c.in-Ok.ensures in gate_high _ _ _ _ o.fits.1 o.means _ _ c.requires c.store.ensures c.if-not-all_below.ensures

pub returns-then-not-ascend-clause-means : goal.returns-then-not-ascend-clause-means
returns-then-not-ascend-clause-means c =
    let o = c.in-Ok.ensures in
    gate_falls _ _ _ _ o.fits.1 o.means _ _ c.requires c.store.ensures c.if-not-all_below.ensures c.if-not-ascend.ensures
