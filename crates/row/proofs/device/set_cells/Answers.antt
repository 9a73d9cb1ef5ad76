use mathlib.Core.Path.{refl}
use Rattle.std.proofs.Common.{rules}
use Rattle.rules.specs.Basics.{set_all}
use Rattle.row.proofs.Decoding.{walk_turn, walk_end}
use Rattle.row.proofs.Running.{set_turn}
use Rattle.row.proofs.device.set_cells.Goals as goal

pub loop-c-preserved : goal.loop-c-preserved
loop-c-preserved c = (walk_turn c.loop-c.invariant.0 _ _ c.in-Some.ensures (set_turn _ _ _ _ c.put.ensures), search rules)

pub returns : goal.returns
unfolding set_all
returns c = walk_end c.loop-c.invariant.0 c.in_default.ensures _ refl
