use Rattle.std.proofs.Common.{arith, sym}
use Rattle.lines.specs.Line.{word_at}
use Rattle.lines.proofs.Laws.{word_past, word_short, byte_read}
use Rattle.lines.proofs.word_at.Goals as goal

pub returns-then-text-at : goal.returns-then-text-at
returns-then-text-at c = sym (word_past _ _ (omega arith))

pub overflow_mul-result : goal.overflow_mul-result
overflow_mul-result c = omega (arith, byte_read _ _ _ c.byte_at.ensures)

pub returns-then-text-at-le2 : goal.returns-then-text-at-le2
returns-then-text-at-le2 c = simp c.byte_at.ensures (sym (word_short _ _ (omega arith)))

pub overflow_mul-result-2 : goal.overflow_mul-result-2
overflow_mul-result-2 c = omega (arith, byte_read _ _ _ c.byte_at-2.ensures)

pub overflow_add-result : goal.overflow_add-result
overflow_add-result c = omega (arith, byte_read _ _ _ c.byte_at-2.ensures, byte_read _ _ _ c.byte_at-3.ensures)

pub returns : goal.returns
unfolding word_at
returns c = simp (c.byte_at-2.ensures, c.byte_at-3.ensures)
