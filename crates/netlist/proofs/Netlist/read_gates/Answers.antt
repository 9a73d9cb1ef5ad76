use native.Mathlib.Omega.{arith}
use Rattle.netlist.proofs.Following.{gating_start, gating_stop, gating_turn, gating_end}
use Rattle.netlist.proofs.Netlist.read_gates.Goals as goal

pub loop-g-init : goal.loop-g-init
loop-g-init c = gating_start _ _ _ c.requires.0

pub loop-g-preserved : goal.loop-g-preserved
loop-g-preserved c =
    let o = c.in-Ok.ensures in
    gating_turn c.loop-g.invariant c.loop-g-test.true _ _ _ (omega arith) (omega arith) (omega arith) (omega arith) c.requires.1.1 o.means o.fits

pub returns-in_default-clause-means : goal.returns-in_default-clause-means
returns-in_default-clause-means c = rw c.in_default.is (gating_stop c.loop-g.invariant c.loop-g-test.true _ c.in_default.ensures.means)

pub returns-clause-means : goal.returns-clause-means
returns-clause-means c = gating_end c.loop-g.invariant c.loop-g-test.false (omega arith)
