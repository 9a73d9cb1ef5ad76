use Rattle.std.proofs.Common.{arith, lt-ltb, le-ltb}
use Rattle.rules.specs.Basics.{pick}
use Rattle.rules.specs.Lines.{digit_of}
use Rattle.lines.proofs.write.digit.Goals as goal

pub returns-then-d-lt10 : goal.returns-then-d-lt10
unfolding digit_of pick
returns-then-d-lt10 c = simp (lt-ltb _ _ c.if-d-lt10.true)

pub returns : goal.returns
unfolding digit_of pick
returns c = simp (le-ltb _ _ c.if-d-lt10.false) (omega arith)
