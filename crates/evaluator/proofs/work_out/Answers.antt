use Rattle.std.proofs.Common.{rules, arith}
use Rattle.evaluator.proofs.Worked.{working_start, working_turn}
use Rattle.evaluator.proofs.work_out.Goals as goal

pub loop-g-init : goal.loop-g-init
loop-g-init c = working_start c.args.n.now _

pub loop-g-preserved : goal.loop-g-preserved
loop-g-preserved c = working_turn c.args.n.now c.requires.0 _ _ _ c.loop-g.invariant _ _ _ (search rules) c.loop-g-test.true (c.operands.ensures.held (omega (arith, c.requires.0.gates_most, c.loop-g-test.true), c.requires.0.few _ c.loop-g-test.true)) c.nor_of-v.ensures c.put.ensures
