-- `frames::count` meets its contract: the frames before the reader's place are counted, and the place moves on within the text.
use Rattle.frames.proofs.Counting.{by_start, by_end, by_less, by_turn}
use Rattle.frames.proofs.count.Goals as goal

pub loop-r-init : goal.loop-r-init
loop-r-init c = by_start c.args.text _ c.new-r.ensures

pub loop-r-smaller : goal.loop-r-smaller
loop-r-smaller c = by_less c.loop-r.invariant _ c.next.ensures.0.0 _ c.is_empty.ensures c.loop-r-test.true _ c.next.ensures.1

pub loop-r-preserved : goal.loop-r-preserved
loop-r-preserved c = by_turn c.loop-r.invariant _ c.next.ensures.0.0 _ c.is_empty.ensures c.loop-r-test.true _ c.next.ensures.1

pub returns : goal.returns
returns c = by_end c.loop-r.invariant _ c.next.ensures.0.0 _ c.is_empty.ensures c.loop-r-test.false
