use Rattle.std.proofs.lemmas.Result.{err_from_is_err_and}
use Rattle.netlist.proofs.Whole.{no_gates_read, no_outputs_read, netlist_read}
use Rattle.netlist.proofs.read_lines.Goals as goal

pub returns-in_err-middle : goal.returns-in_err-middle
returns-in_err-middle c =
    let p = err_from_is_err_and c.from_residual.result c.from_residual.ensures.1 in
    let g = c.in_err-middle.ensures in
    rw (p.1, p.2) (no_gates_read _ _ c.in-Ok.ensures.means _ _ g.kept _ g.means)

pub returns-in_err-tail : goal.returns-in_err-tail
returns-in_err-tail c =
    let p = err_from_is_err_and c.from_residual-in_err-tail.result c.from_residual-in_err-tail.ensures.1 in
    let g = c.in_ok-middle.ensures in
    let o = c.in_err-tail.ensures in
    rw (p.1, p.2) (no_outputs_read _ _ c.in-Ok.ensures.means _ _ g.kept _ g.means _ o.kept _ o.means)

pub returns : goal.returns
returns c =
    let g = c.in_ok-middle.ensures in
    let o = c.in_ok-tail.ensures in
    netlist_read _ _ c.in-Ok.ensures.means _ _ g.kept _ g.means _ o.kept _ o.means
