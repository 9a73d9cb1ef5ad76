use Rattle.std.proofs.Common.{arith, sym}
use Rattle.lines.specs.Line.{byte_at}
use Rattle.lines.proofs.Laws.{byte_past}
use Rattle.lines.proofs.byte_at.Goals as goal

pub returns-then-text-at : goal.returns-then-text-at
returns-then-text-at c = sym (byte_past _ _ (omega arith))

pub returns : goal.returns
unfolding byte_at
returns c = simp (c.from.ensures, c.from-2.ensures, c.value-h.ensures, c.value-l.ensures, c.at.ensures) (omega arith)
