use Rattle.std.proofs.Common.{rules}
use native.Mathlib.Omega.{arith}
use Rattle.mapper.proofs.Cellwise.{renew_takes, renew_leaves, renew_end}
use Rattle.mapper.proofs.cells.Cells.set_spent.Goals as goal
use Rattle.mapper.proofs.cells.Cells.set_spent.Goals.{then-eq, else-eq}

pub loop-c-preserved : goal.loop-c-preserved
loop-c-preserved c =
    elim c.if-eq.branch [
      | then-eq w ↦ rw (w.self-is, w.text-is) (renew_takes c.requires.size c.loop-c.invariant c.loop-c-test.true (search rules) w.byte-then-eq.ensures)
      | else-eq w ↦ rw (w.self-is, w.text-is) (renew_leaves c.requires.size c.loop-c.invariant c.loop-c-test.true (search rules))
    ]

pub returns : goal.returns
returns c = renew_end c.requires.size c.byte.ensures c.loop-c.invariant (omega arith) c.feed.ensures
