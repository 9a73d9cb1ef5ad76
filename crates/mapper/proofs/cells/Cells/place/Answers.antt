use Prim.Native.Nat.{◌-◌}
use native.Mathlib.Omega.{arith}
use mathlib.Core.Path.{ap}
use lib.ListN.{length}
use Rattle.netlist.proofs.Arrays.{length-gate}
use Rattle.mapper.proofs.cells.Cells.place.Goals as goal

pub nor-requires-clause-few : goal.nor-requires-clause-few
nor-requires-clause-few c = omega (arith, ap length (c.operands-operands.ensures.held (c.requires.known, c.requires.few)), length-gate c.args.n.now.ops c.args.n.now.counts (c.args.s - c.args.n.now.inputs), c.requires.few)
