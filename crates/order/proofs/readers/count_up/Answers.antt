use native.Mathlib.Omega.{arith}
use Rattle.order.proofs.Counting.{up_small, up_place, up_turn, up_end}
use Rattle.order.proofs.readers.count_up.Goals as goal

pub bounds-left-from : goal.bounds-left-from
bounds-left-from c = omega (arith, up_place c.loop-o.invariant c.loop-o-test.true c.requires.placed c.from.ensures)

pub overflow_add-left : goal.overflow_add-left
overflow_add-left c = record { fits = omega (arith, up_small c.loop-o.invariant c.from.result c.requires.light c.requires.few) }

pub bounds-left-from-in-loop-o : goal.bounds-left-from-in-loop-o
bounds-left-from-in-loop-o c = omega (arith, up_place c.loop-o.invariant c.loop-o-test.true c.requires.placed c.from.ensures)

pub loop-o-preserved : goal.loop-o-preserved
loop-o-preserved c = up_turn c.loop-o.invariant c.loop-o-test.true c.requires.placed c.from.ensures

pub returns : goal.returns
returns c = up_end c.loop-o.invariant c.loop-o-test.false
