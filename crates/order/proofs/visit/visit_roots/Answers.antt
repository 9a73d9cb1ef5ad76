use Rattle.order.proofs.Walking.{rooting_read, rooting_turn, rooting_end}
use Rattle.order.proofs.visit.visit_roots.Goals as goal
use Rattle.order.proofs.visit.visit_roots.Goals.{then-left-s-eq0, else-left-s-eq0}

pub loop-s-preserved : goal.loop-s-preserved
loop-s-preserved c =
    elim c.if-left-s-eq0.branch [
      | then-left-s-eq0 w ↦ rw (w.order-is, w.visit.ensures) (rooting_turn c.loop-s.invariant c.loop-s-test.true w.if-left-s-eq0.true)
      | else-left-s-eq0 w ↦ rw w.order-is (rooting_read c.loop-s.invariant c.loop-s-test.true w.if-left-s-eq0.false)
    ]

pub returns : goal.returns
returns c = rooting_end c.loop-s.invariant c.loop-s-test.false
