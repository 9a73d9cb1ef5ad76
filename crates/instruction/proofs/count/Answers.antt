use native.Mathlib.Omega.{arith}
use Rattle.instruction.proofs.Counting.{counted_turn, counted_end, counted_all}
use Rattle.instruction.proofs.count.Goals as goal

pub returns-then-is_none : goal.returns-then-is_none
returns-then-is_none c = counted_end c.loop-k.invariant _ c.cell_at.ensures c.if-is_none.ensures

pub loop-k-preserved : goal.loop-k-preserved
loop-k-preserved c = counted_turn c.loop-k.invariant _ c.cell_at.ensures c.if-is_none.ensures

pub returns : goal.returns
returns c = counted_all c.loop-k.invariant (omega arith)
