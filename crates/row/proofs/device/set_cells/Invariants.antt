use Prim.Native.Nat.{◌-◌, ◌+◌}
use mathlib.Core.Path.{◌≡◌}
use lib.ListN.{length}
use Rattle.rules.specs.Basics.{set_all}
use Rattle.row.specs.Decoded.{cells_from}
use Rattle.row.proofs.Decoding.{Walk}
use Rattle.row.proofs.device.set_cells.Given as goal

abbrev pub invariant-loop-c : goal.invariant-loop-c
invariant-loop-c l = Walk (λ ls. set_all 1 ls l.row) (set_all 1 (cells_from l.text l.first) l.initial.row) l.text l.first l.at × (length l.row ≡ length l.initial.row)

abbrev pub decreases-loop-c : goal.decreases-loop-c
decreases-loop-c l = length l.text + 2 - l.at
