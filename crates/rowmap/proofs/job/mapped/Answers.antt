use mathlib.Core.Path.{◌∙◌}
use Rattle.rowmap.proofs.Prints.{answer_long, answer_bad, answer_mapped}
use Rattle.rowmap.proofs.job.mapped.Goals as goal

pub returns-then-input-gt65536 : goal.returns-then-input-gt65536
returns-then-input-gt65536 c = answer_long c.args.input.now c.args.out.now c.if-input-gt65536.true

pub returns-in_default : goal.returns-in_default
returns-in_default c = rw c.in_default.is (answer_bad c.args.input.now c.args.out.now c.if-input-gt65536.false _ c.in_default.ensures)

pub returns : goal.returns
returns c = (rw c.rest.ensures at c.map.ensures) ∙ answer_mapped c.args.input.now c.args.out.now c.if-input-gt65536.false _ c.in-Ok.ensures
