use Rattle.std.proofs.Common.{◌∙◌}
use Rattle.row.proofs.Digits.{cell_is}
use Rattle.row.proofs.cells.Cells.cell.Goals as goal

pub returns : goal.returns
returns c = c.byte_at.ensures ∙ cell_is _ _ _ _ c.self.view_is _ c.requires
