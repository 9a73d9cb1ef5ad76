use native.Mathlib.Omega.{arith}
use Rattle.rules.specs.Values.{nor}
use Rattle.row.proofs.Decoding.{walk_turn, walk_end}
use Rattle.row.proofs.Running.{nor_lowered, nor_kept, nor_ends}
use Rattle.row.proofs.device.nor.Goals as goal
use Rattle.row.proofs.device.nor.Goals.{then-at-ne0, else-at-ne0}

pub loop-c-preserved : goal.loop-c-preserved
loop-c-preserved c =
    walk_turn c.loop-c.invariant _ _ c.in-Some.ensures
    (elim c.if-at-ne0.branch [
      | then-at-ne0 w ↦ nor_lowered _ _ _ _ _ _ c.at.ensures w.if-at-ne0.true w.value-is
      | else-at-ne0 w ↦ nor_kept _ _ _ _ _ _ c.at.ensures w.if-at-ne0.false w.value-is
    ])

pub returns : goal.returns
unfolding nor
returns c = nor_ends _ _ _ _ _ (walk_end c.loop-c.invariant c.in_default.ensures _ (omega arith))
