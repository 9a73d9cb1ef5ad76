use Rattle.rules.specs.Weight.{high_to_low, weight_in}
use Rattle.std.proofs.Common.{ap, ◌∙◌}
use Rattle.order.proofs.Sorting.{picking_start, picking_room, picking_gate, picking_input, picking_end}
use Rattle.order.proofs.weights.sorted.Goals.{then-inputs-from, else-inputs-from}
use Rattle.order.proofs.weights.sorted.Goals as goal

pub loop-x-init : goal.loop-x-init
loop-x-init c = picking_start _ _ _ c.none-f.ensures

pub push-requires : goal.push-requires
push-requires c = picking_room c.loop-x.invariant c.loop-x-test.true c.requires

pub loop-x-preserved : goal.loop-x-preserved
loop-x-preserved c = elim c.if-inputs-from.branch [
  | then-inputs-from w ↦ rw (w.f-is, w.push.ensures) (picking_gate c.loop-x.invariant c.loop-x-test.true (rw c.from.ensures at w.if-inputs-from.true))
  | else-inputs-from w ↦ rw w.f-is (picking_input c.loop-x.invariant c.loop-x-test.true (rw c.from.ensures at w.if-inputs-from.false))
]

pub returns : goal.returns
returns c = c.sort.ensures ∙ ap (high_to_low (weight_in c.args.wts.now)) (picking_end c.loop-x.invariant c.loop-x-test.false)
