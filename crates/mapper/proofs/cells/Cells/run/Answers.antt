use mathlib.Core.Path.{refl}
use Rattle.mapper.specs.Run.{RunOf}
use Rattle.mapper.proofs.Runs.{run_start, run_none, run_placeable, run_turn, run_end}
use Rattle.mapper.proofs.cells.Cells.run.Goals as goal

pub loop-s-init : goal.loop-s-init
loop-s-init c = run_start c.requires c.set_spent-cells.ensures

pub returns-in_default : goal.returns-in_default
unfolding RunOf
returns-in_default c = run_none c.requires c.loop-s.invariant c.loop-s-test.true refl c.in_default.ensures

pub place-cells-requires : goal.place-cells-requires
place-cells-requires c = run_placeable c.requires c.loop-s.invariant c.loop-s-test.true c.from.ensures c.in-Some.ensures

pub loop-s-preserved : goal.loop-s-preserved
loop-s-preserved c = run_turn c.requires c.loop-s.invariant c.loop-s-test.true c.from.ensures c.in-Some.ensures c.place-cells.ensures

pub returns : goal.returns
unfolding RunOf
returns c = run_end c.requires c.loop-s.invariant c.loop-s-test.false
