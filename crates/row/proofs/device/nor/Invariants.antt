use Prim.Native.Nat.{◌-◌, ◌*◌, ◌+◌}
use lib.ListN.{length}
use Rattle.rules.specs.Values.{nor}
use Rattle.row.specs.Decoded.{cells_from}
use Rattle.row.proofs.Decoding.{Walk}
use Rattle.row.proofs.device.nor.Given as goal

abbrev pub invariant-loop-c : goal.invariant-loop-c
invariant-loop-c l = Walk (λ ls. l.value * nor l.row ls) (nor l.row (cells_from l.text l.first)) l.text l.first l.at

abbrev pub decreases-loop-c : goal.decreases-loop-c
decreases-loop-c l = length l.text + 2 - l.at
