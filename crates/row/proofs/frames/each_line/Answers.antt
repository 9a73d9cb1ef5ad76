use Rattle.std.proofs.Common.{arith}
use Rattle.row.proofs.Onward.{onward_turn, onward_stop, onward_end}
use Rattle.row.proofs.frames.each_line.Goals as goal

pub loop-line-preserved : goal.loop-line-preserved
loop-line-preserved g c = record {
  small = let h = rw c.in-Ok.is at c.read-l.type_inv in omega arith;
  same = λ line h. onward_turn line _ _ _ _ (c.loop-line.invariant.same line h) _ c.loop-line-test.true (h _ _ c.loop-line.invariant.small c.in-Ok.ensures);
}

pub returns-in_default : goal.returns-in_default
returns-in_default g c line h =
    rw c.in_default.is (onward_stop line _ _ _ _ (c.loop-line.invariant.same line h) _ c.loop-line-test.true (h _ _ c.loop-line.invariant.small c.in_default.ensures))

pub returns : goal.returns
returns g c line h = onward_end line _ _ _ _ (c.loop-line.invariant.same line h) c.loop-line-test.false
