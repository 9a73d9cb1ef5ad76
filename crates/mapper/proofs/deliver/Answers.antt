use native.Mathlib.Omega.{arith}
use Rattle.std.proofs.lemmas.Result.{err_from_is_err_and}
use Rattle.mapper.specs.Whole.{BodyOf, Bodied}
use Rattle.mapper.proofs.Delivering.{deliver_none, deliver_short, deliver_good}
use Rattle.mapper.proofs.deliver.Goals as goal

pub returns-in_err-lines : goal.returns-in_err-lines
unfolding BodyOf
returns-in_err-lines c =
    let p = err_from_is_err_and c.from_residual.result c.from_residual.ensures.1 in
    rw (p.1, p.2) (deliver_none c.args.n.now c.args.row c.args.out.now c.in_err-lines.ensures)

pub returns-then-out-end : goal.returns-then-out-end
unfolding BodyOf
returns-then-out-end c = deliver_short c.args.n.now c.args.row c.args.out.now _ _ c.in_ok-lines.ensures (rw c.as_slice-body.ensures at c.if-out-end.true)

pub put_head-requires : goal.put_head-requires
unfolding BodyOf
put_head-requires c =
    let w = c.requires.well in
    let b : Bodied c.args.n.now c.args.row c.put_body.new.text c.in_ok-lines.lines = c.in_ok-lines.ensures in
    (omega (arith, c.requires.room), (c.requires.size, (omega (arith, w.inputs_most), (omega (arith, w.outputs_most), omega (arith, b.few)))))

pub returns : goal.returns
unfolding BodyOf
returns c = rw (c.copy_from_slice.ensures.after, c.as_slice-body.ensures) (deliver_good c.args.n.now c.args.row c.args.out.now _ _ c.in_ok-lines.ensures (rw c.as_slice-body.ensures at c.if-out-end.false) c.put_head.ensures)
