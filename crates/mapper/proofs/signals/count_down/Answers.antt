use mathlib.Core.Path.{refl}
use Rattle.mapper.proofs.Counting.{down_some, down_turn, down_end}
use Rattle.mapper.proofs.signals.count_down.Goals as goal

pub overflow_sub-wanted : goal.overflow_sub-wanted
overflow_sub-wanted c = down_some c.loop-o.invariant c.loop-o-test.true c.requires c.from.ensures c.at-wanted.ensures

pub loop-o-preserved : goal.loop-o-preserved
loop-o-preserved c = rw (c.put.ensures, c.from-in-loop-o.ensures) (down_turn c.loop-o.invariant c.loop-o-test.true c.requires refl (rw c.from.ensures at c.at-wanted.ensures) refl)

pub returns : goal.returns
returns c = down_end c.loop-o.invariant c.loop-o-test.false
