use Rattle.row.proofs.Digits.{cells_alike, cells_unlike}
use Rattle.row.proofs.cells.Cells.alike.Goals as goal

pub returns-then-self-a : goal.returns-then-self-a
returns-then-self-a c = cells_alike _ _ _ _ c.self.view_is _ _ c.requires.0 c.requires.1 c.self.invariant.1 c.if-self-a.true

pub returns-else-self-a : goal.returns-else-self-a
returns-else-self-a c = cells_unlike _ _ _ _ c.self.view_is _ _ c.requires.0 c.requires.1 c.self.invariant.1 c.if-self-a.false
