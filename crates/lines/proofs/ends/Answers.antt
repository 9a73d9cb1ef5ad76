use Rattle.lines.proofs.Laws.{ends_bad}
use Rattle.lines.proofs.ends.Goals as goal

pub returns : goal.returns
returns c = ends_bad _ _ _ c.read_line.ensures c.if-text-at.false _ c.in-Err.is
