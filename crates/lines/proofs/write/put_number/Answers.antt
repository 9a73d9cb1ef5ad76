use Rattle.rules.specs.Lines.{written}
use Rattle.rules.specs.Programs.{refusal_line}
use Rattle.lines.proofs.write.put_number.Goals as goal

pub returns : goal.returns
unfolding refusal_line written
returns c = rw (c.put.ensures, c.put_byte-2.ensures, c.put_byte.ensures)
