use Rattle.instruction.proofs.Standing.{stands_past, stands_empty, stands}
use Rattle.instruction.proofs.instruction_at.Goals as goal

pub returns-then-text-at : goal.returns-then-text-at
returns-then-text-at c = stands_past _ _ _ c.idle.ensures c.if-text-at.true

pub returns-then-cells-eq0 : goal.returns-then-cells-eq0
returns-then-cells-eq0 c = stands_empty _ _ c.if-text-at.false _ c.count-cells.ensures.0 _ c.idle-then-cells-eq0.ensures c.if-cells-eq0.true

pub returns : goal.returns
returns c = stands _ _ c.if-text-at.false _ c.count-cells.ensures.0 _ c.byte_at.ensures c.if-cells-eq0.false
