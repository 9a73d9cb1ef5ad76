use Rattle.std.proofs.Common.{sym, ◌∙◌, rules}
use Rattle.lines.proofs.Laws.{scanned_turn, scanned_stop, scanned_end}
use Rattle.lines.proofs.digits.Goals as goal

pub returns-then-not-is_digit : goal.returns-then-not-is_digit
returns-then-not-is_digit c = scanned_stop c.loop-i.invariant (search rules) (sym c.is_digit.ensures ∙ c.if-not-is_digit.true)

pub loop-i-preserved : goal.loop-i-preserved
loop-i-preserved c = scanned_turn c.loop-i.invariant (search rules) (sym c.is_digit.ensures ∙ c.if-not-is_digit.false)

pub returns : goal.returns
returns c = scanned_end c.loop-i.invariant c.loop-i-test.false c.loop-i.auto.i-end
