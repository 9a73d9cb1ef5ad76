use Rattle.row.proofs.Running.{nor_none, nor_ready, nor_unready}
use Rattle.row.proofs.device.nor_cells.Goals as goal
use Rattle.row.proofs.device.nor_cells.Goals.{then-at-eq1, else-at-eq1}

pub returns-in_default : goal.returns-in_default
returns-in_default c = nor_none _ _ _ c.in_default.ensures

pub returns : goal.returns
returns c =
    elim c.if-at-eq1.branch [
      | then-at-eq1 w ↦ nor_ready _ _ _ _ _ _ _ _ c.in-Some.ensures c.nor-o.ensures c.at.ensures c.put.ensures w.if-at-eq1.true w.v-is
      | else-at-eq1 w ↦ nor_unready _ _ _ _ _ _ _ _ c.in-Some.ensures c.nor-o.ensures c.at.ensures c.put.ensures w.if-at-eq1.false w.v-is
    ]
