use native.Mathlib.Omega.{arith}
use mathlib.Core.Path.{◌≡◌, sym, ◌∙◌}
use lib.ListN.{length}
use Rattle.std.proofs.Common.{rules}
use Rattle.netlist.proofs.Arrays.{length_from}
use Rattle.order.proofs.Orders.{rows_lower, in_order, plan_none, plan_some, outputs_placed}
use Rattle.order.proofs.of.Goals as goal

pub returns-then-not-fits : goal.returns-then-not-fits
returns-then-not-fits c = plan_none _ (sym c.fits.ensures.flat ∙ c.if-not-fits.true)

pub visit_roots-requires-clause-lower : goal.visit_roots-requires-clause-lower
visit_roots-requires-clause-lower c = rows_lower c.args.n.now c.weigh_all-rows.ensures (c.fits.ensures.facts c.if-not-fits.false)

pub count_up-requires : goal.count_up-requires
count_up-requires c = let n = c.args.n.now in
    let w = c.fits.ensures.facts c.if-not-fits.false in
    let l : length c.count_readers-left.result ≡ 576 = search rules in
    rw (c.output_list-outputs.ensures.held w.outputs_most) (record { few = omega (arith, length_from n.outs 0 n.outputs, w.outputs_most); light = c.count_readers-left.ensures.light; placed = outputs_placed n w n.outputs (omega arith) l })

pub returns : goal.returns
returns c = let n = c.args.n.now in
    plan_some n (sym c.fits.ensures.flat ∙ c.if-not-fits.false) (c.visit_roots.ensures ∙ rw c.new-order.ensures (in_order n c.weigh_all-rows.ensures c.count_readers-left.ensures.readers))
    c.parts-count.ensures c.count_readers-left.ensures.readers (rw (c.output_list-outputs.ensures.held (c.fits.ensures.facts c.if-not-fits.false).outputs_most) at c.count_up.ensures)
