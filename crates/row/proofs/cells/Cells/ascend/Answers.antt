use Rattle.std.proofs.Common.{arith}
use Rattle.row.proofs.Climbing.{climb_start, climb_stop, climb_turn, climb_end}
use Rattle.row.proofs.cells.Cells.ascend.Goals as goal

pub loop-j-init : goal.loop-j-init
loop-j-init c = climb_start _ _ c.requires c.cell-last.ensures

pub returns-then-c-last : goal.returns-then-c-last
returns-then-c-last c = climb_stop c.args.self.now _ _ c.loop-j.invariant (omega (arith, c.len-j-end.ensures)) _ c.cell-c.ensures c.if-c-last.true

pub loop-j-preserved : goal.loop-j-preserved
loop-j-preserved c = climb_turn c.args.self.now _ _ c.loop-j.invariant (omega (arith, c.len-j-end.ensures)) _ c.cell-c.ensures c.if-c-last.false

pub returns : goal.returns
returns c = climb_end c.args.self.now _ _ c.loop-j.invariant (omega (arith, c.len-j-end.ensures))
