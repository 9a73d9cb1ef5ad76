use Rattle.std.proofs.Common.{◌-◌, length}
use Rattle.frames.proofs.Counting.{CountedBy}
use Rattle.frames.proofs.count.Given as goal

abbrev pub invariant-loop-r : goal.invariant-loop-r
invariant-loop-r l = CountedBy l.text l.r l.n

abbrev pub decreases-loop-r : goal.decreases-loop-r
decreases-loop-r l = length l.text - l.r.at
