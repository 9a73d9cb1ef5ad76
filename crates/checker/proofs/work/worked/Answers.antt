use Rattle.checker.proofs.Working.{worked_turn}
use Rattle.checker.proofs.work.worked.Goals as goal

pub loop-done-preserved : goal.loop-done-preserved
loop-done-preserved c =
    worked_turn _ _ _ _ _ c.loop-done.invariant c.loop-done-test.true _ _ _ _ c.instruction_at-i.ensures c.made_by-gate.ensures c.step.ensures c.in_ok-step.was
