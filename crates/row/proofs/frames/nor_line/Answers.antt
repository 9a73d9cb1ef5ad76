use Rattle.std.proofs.Common.{rules, ◌∙◌}
use Rattle.row.proofs.Judging.{nor_none, nor_some, judged_as}
use Rattle.row.proofs.frames.nor_line.Goals as goal

pub returns-then-not-contains : goal.returns-then-not-contains
returns-then-not-contains c = nor_none _ _ (search rules)

pub returns : goal.returns
returns c = judged_as _ _ _ _ _ c.judged.ensures c.differ.ensures c.all_below.ensures ∙ nor_some _ _ (search rules)
