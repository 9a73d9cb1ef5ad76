use Rattle.std.proofs.Common.{arith, ◌∙◌, sym}
use Rattle.checker.proofs.Gathering.{gathered_start, gathered_turn, gathered_high}
use Rattle.checker.proofs.operands.key.Goals as goal

pub loop-j-init : goal.loop-j-init
loop-j-init c = gathered_start _ _ _ _

pub returns-in_default : goal.returns-in_default
returns-in_default c =
    gathered_high _ _ _ _ c.loop-j.invariant c.loop-j-test.true _ _ c.cell_at.ensures c.cell.ensures _ (c.cell.ensures ∙ sym c.in_default.ensures) (omega arith)

pub loop-j-preserved : goal.loop-j-preserved
loop-j-preserved c = gathered_turn _ _ _ _ c.loop-j.invariant c.loop-j-test.true _ _ c.cell_at.ensures c.cell.ensures _ c.requires.1 c.in-Holds-0-to-1023.is (omega arith)
