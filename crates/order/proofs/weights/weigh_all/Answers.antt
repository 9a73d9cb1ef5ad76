use Prim.Native.Nat.{ℕ, ◌<◌}
use native.Mathlib.Omega.{arith}
use mathlib.Core.Path.{◌≡◌, refl}
use mathlib.Core.List.{[]}
use lib.ListN.{get_or}
use Rattle.std.proofs.Common.{rules}
use Rattle.order.proofs.Weighing.{few_operands, gate_held}
use Rattle.order.proofs.Weighted.{weighting_start, weight_most, weighting_turn, weighting_end}
use Rattle.order.proofs.weights.weigh_all.Goals as goal

pub loop-g-init : goal.loop-g-init
loop-g-init c =
    let e : (s : ℕ) → s < 576 → get_or c.from_fn-rows.result s [] ≡ [] = λ s h. let k = c.from_fn-rows.ensures.items.at s [] h in search (rules, k) in
    weighting_start c.args.n.now _ c.from_fn-rows.result refl c.from_fn-rows.ensures.items.long e

pub sorted-f-requires : goal.sorted-f-requires
sorted-f-requires c = rw (c.operands.ensures.held (gate_held c.args.n.now c.requires c.loop-g-test.true)) (few_operands c.args.n.now c.requires _ c.loop-g-test.true)

pub overflow_cast-wts : goal.overflow_cast-wts
overflow_cast-wts c = let w = weight_most c.args.n.now c.requires c.loop-g.invariant c.loop-g-test.true (rw (c.operands.ensures.held (gate_held c.args.n.now c.requires c.loop-g-test.true)) at c.sorted-f.ensures) in
    record { fits = rw (c.weight_of.ensures, c.signals.ensures) (omega (arith, w, c.requires.gates_most)) }

pub loop-g-preserved : goal.loop-g-preserved
loop-g-preserved c = weighting_turn c.args.n.now c.requires c.loop-g.invariant c.loop-g-test.true (rw (c.operands.ensures.held (gate_held c.args.n.now c.requires c.loop-g-test.true)) at c.sorted-f.ensures) (rw c.signals.ensures at c.weight_of.ensures)

pub returns : goal.returns
returns c = weighting_end c.args.n.now c.requires c.loop-g.invariant c.loop-g-test.false
