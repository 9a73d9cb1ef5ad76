use Rattle.std.proofs.Common.{◌≡◌, ℕ, ◌+◌, ◌*◌, ◌<◌, get_or}
use Rattle.lines.specs.Line.{word_at}
use Rattle.netlist.proofs.line.store.Given as goal

abbrev pub invariant-loop-k : goal.invariant-loop-k
invariant-loop-k l = (i : ℕ) → i < l.k → get_or l.os i 0 ≡ word_at l.text (l.at + 4 * i)
