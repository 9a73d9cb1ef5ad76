use Rattle.row.proofs.Running.{ran_turn, ran_end}
use Rattle.std.proofs.Common.{rules}
use Rattle.row.proofs.device.run.Goals as goal

pub loop-cycle-preserved : goal.loop-cycle-preserved
loop-cycle-preserved c = ran_turn c.loop-cycle.invariant _ _ c.loop-cycle-test.true (search rules) c.step-at.ensures

pub returns : goal.returns
returns c = ran_end c.loop-cycle.invariant c.loop-cycle-test.false
