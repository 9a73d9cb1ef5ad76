use native.Mathlib.Omega.{arith}
use Rattle.netlist.proofs.Following.{outputting_start, outputting_asks, outputting_stop, outputting_turn, outputting_end}
use Rattle.netlist.proofs.Netlist.read_outputs.Goals as goal

pub loop-k-init : goal.loop-k-init
loop-k-init c = outputting_start _ _ _ c.requires.0

pub read_output-output-requires : goal.read_output-output-requires
read_output-output-requires c = outputting_asks c.loop-k.invariant c.requires.1

pub loop-k-preserved : goal.loop-k-preserved
loop-k-preserved c = let o = c.in-Ok.ensures in outputting_turn c.loop-k.invariant c.loop-k-test.true _ c.requires.1.2 (omega arith) o.means o.fits

pub returns-in_default-clause-means : goal.returns-in_default-clause-means
returns-in_default-clause-means c = outputting_stop c.loop-k.invariant c.loop-k-test.true _ (rw c.unwrap_err.ensures at c.read_output-output.ensures.means)

pub returns-clause-means : goal.returns-clause-means
returns-clause-means c = outputting_end c.loop-k.invariant c.loop-k-test.false (omega arith)
