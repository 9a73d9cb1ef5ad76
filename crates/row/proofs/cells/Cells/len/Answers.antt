use Rattle.row.proofs.Digits.{cells_long}
use Rattle.row.proofs.cells.Cells.len.Goals as goal

pub returns : goal.returns
returns c = cells_long _ _ _ _ c.self.view_is
