use mathlib.Core.Path.{◌≡◌}
use mathlib.Core.List.{map}
use lib.ListN.{drop}
use lib.Seq.{sets}
use Rattle.evaluator.specs.Values.{values_at}
use Rattle.evaluator.proofs.hand_out.Given as goal

abbrev pub invariant-loop-k : goal.invariant-loop-k
invariant-loop-k l = sets l.out l.k (map (values_at l.values) (drop l.k l.outputs)) ≡ sets l.initial.out 0 (map (values_at l.values) l.outputs)
