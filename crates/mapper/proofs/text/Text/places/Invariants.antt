use Rattle.std.proofs.Common.{◌≡◌, ◌+◌, ◌*◌, ◌++◌, length, map, drop}
use Rattle.rules.specs.Form.{form01}
use Rattle.rules.specs.Sequence.{place_text, texts}
use Rattle.mapper.specs.Text.{entry}
use Rattle.mapper.proofs.text.Text.places.Given as goal

abbrev pub invariant-loop-o : goal.invariant-loop-o
invariant-loop-o l = record {
  long : length l.self ≡ length l.initial.self + 5 * l.o-index;
  left : l.self ++ texts (place_text form01) (map (entry l.table) (drop l.o-index l.outs)) ≡ l.initial.self ++ texts (place_text form01) (map (entry l.table) l.outs);
}
