use Rattle.row.proofs.Running.{step_past, step_set, step_nor}
use Rattle.row.proofs.device.step.Goals as goal

pub returns-then-text-at : goal.returns-then-text-at
returns-then-text-at c = step_past _ _ _ c.if-text-at.true

pub returns-then-byte_at : goal.returns-then-byte_at
returns-then-byte_at c = step_set _ _ c.if-text-at.false _ _ _ _ c.byte_at.ensures c.if-byte_at.true c.set_cells.ensures

pub returns : goal.returns
returns c = step_nor _ _ c.if-text-at.false _ _ _ _ c.byte_at.ensures c.if-byte_at.false c.nor_cells.ensures
