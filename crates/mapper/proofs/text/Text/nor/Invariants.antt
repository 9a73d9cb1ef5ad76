use Rattle.std.proofs.Common.{◌≡◌, ◌+◌, ◌*◌, ◌++◌, length, map, drop}
use Rattle.rules.specs.Lines.{written}
use Rattle.mapper.specs.Text.{entry}
use Rattle.mapper.proofs.text.Text.nor.Given as goal

abbrev pub invariant-loop-o : goal.invariant-loop-o
invariant-loop-o l = record {
  long : length l.self ≡ length l.initial.self + 2 * l.o-index;
  left : l.self ++ written (map (entry l.table) (drop l.o-index l.operands)) ≡ l.initial.self ++ written (map (entry l.table) l.operands);
}
