use native.Mathlib.Omega.{arith}
use mathlib.Core.Path.{refl}
use Rattle.order.proofs.Readership.{reading_start, reading_light, operands_placed, reading_turn, reading_end}
use Rattle.order.proofs.Weighing.{few_operands, gate_held}
use Rattle.order.proofs.readers.count_readers.Goals as goal

pub loop-g-init : goal.loop-g-init
loop-g-init c = reading_start refl

pub count_up-requires : goal.count_up-requires
count_up-requires c = let n = c.args.n.now in
    let h = c.loop-g-test.true in
    rw (c.operands.ensures.held (gate_held c.args.n.now c.requires c.loop-g-test.true)) (record {
      few = omega (arith, few_operands n c.requires _ h);
      light = reading_light n c.requires c.loop-g.invariant;
      placed = operands_placed n c.requires _ h _ (omega (arith, c.loop-g.invariant.wide, c.requires.inputs_most, c.requires.gates_most));
    })

pub loop-g-preserved : goal.loop-g-preserved
loop-g-preserved c = reading_turn c.args.n.now c.requires c.loop-g.invariant c.loop-g-test.true (rw (c.operands.ensures.held (gate_held c.args.n.now c.requires c.loop-g-test.true)) at c.count_up.ensures)

pub returns : goal.returns
returns c = record { readers = reading_end c.args.n.now c.loop-g.invariant c.loop-g-test.false; light = reading_light c.args.n.now c.requires c.loop-g.invariant }
