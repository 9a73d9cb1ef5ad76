use Rattle.std.proofs.Common.{arith, sym, ◌∙◌}
use Rattle.std.proofs.lemmas.Result.{err_from_is_err_and}
use Rattle.netlist.proofs.FlatWell.{read_flat}
use Rattle.evaluator.proofs.Ends.{bits_long, not_read, not_bits, no_room, handed}
use Rattle.evaluator.proofs.evaluate.Goals as goal

pub returns-in_err-n : goal.returns-in_err-n
returns-in_err-n c =
    let p = err_from_is_err_and c.from_residual.result c.from_residual.ensures.1 in
    rw (p.1, p.2) (not_read _ _ _ _ c.in_err-n.ensures)

pub returns-then-not-are_bits : goal.returns-then-not-are_bits
returns-then-not-are_bits c = not_bits _ _ _ _ c.in_ok-n.ensures (sym c.are_bits.ensures ∙ c.if-not-are_bits.true)

pub returns-then-out-n : goal.returns-then-out-n
returns-then-out-n c = no_room _ _ _ _ c.in_ok-n.ensures (sym c.are_bits.ensures ∙ c.if-not-are_bits.false) c.if-out-n.true

pub copy_in-requires : goal.copy_in-requires
copy_in-requires c =
    let w = read_flat c.args.text.now c.in_ok-n.n c.in_ok-n.ensures in
    omega (arith, bits_long _ _ (sym c.are_bits.ensures ∙ c.if-not-are_bits.false), w.inputs_most)

pub work_out-requires : goal.work_out-requires
work_out-requires c = (read_flat c.args.text.now c.in_ok-n.n c.in_ok-n.ensures, c.copy_in.auto.values)

pub returns : goal.returns
returns c = handed _ _ _ _ c.in_ok-n.ensures (sym c.are_bits.ensures ∙ c.if-not-are_bits.false) _ _ _ _ _ c.copy_in.ensures c.work_out.ensures (c.output_list.ensures.held (read_flat c.args.text.now c.in_ok-n.n c.in_ok-n.ensures).outputs_most) c.hand_out.ensures c.if-out-n.false
