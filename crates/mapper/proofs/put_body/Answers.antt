use native.Mathlib.Omega.{arith}
use mathlib.Core.Path.{ap}
use lib.ListN.{length}
use Rattle.std.proofs.Common.{rules}
use Rattle.std.proofs.lemmas.Result.{err_from_is_err_and}
use Rattle.netlist.proofs.Arrays.{length_from}
use Rattle.mapper.specs.Run.{RunOf}
use Rattle.mapper.specs.Whole.{BodyOf}
use Rattle.mapper.proofs.Bodies.{plan_runnable, body_none, body_some}
use Rattle.mapper.proofs.put_body.Goals as goal

pub run-requires : goal.run-requires
run-requires c = plan_runnable c.args.n.now c.args.row c.requires.0 c.first.ensures (search rules) c.first-signals.ensures c.requires.1

pub returns-in_err-cells : goal.returns-in_err-cells
unfolding BodyOf RunOf
returns-in_err-cells c =
    let p = err_from_is_err_and c.from_residual.result c.from_residual.ensures.1 in
    rw (p.1, p.2) (body_none c.args.n.now c.args.row c.requires.0 c.first.ensures c.in_err-cells.ensures)

pub places-requires-clause-room : goal.places-requires-clause-room
unfolding RunOf
places-requires-clause-room c = let m = c.in_ok-cells.ensures in omega (arith, m.short)

pub places-requires-clause-few : goal.places-requires-clause-few
places-requires-clause-few c = omega (arith, ap length (c.output_list.ensures.held c.requires.0.well.outputs_most), length_from c.args.n.now.outs 0 c.args.n.now.outputs, c.requires.0.well.outputs_most)

pub returns : goal.returns
unfolding BodyOf RunOf
returns c = body_some c.args.n.now c.args.row c.requires.0 c.first.ensures c.in_ok-cells.ensures (rw (c.output_list.ensures.held c.requires.0.well.outputs_most) at c.places.ensures)
