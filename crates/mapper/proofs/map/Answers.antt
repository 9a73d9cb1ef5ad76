use Rattle.std.proofs.Common.{rules}
use mathlib.Core.Path.{◌≡◌, ◌∙◌}
use mathlib.Core.Bool.{true}
use Rattle.std.proofs.lemmas.Result.{err_from_is_err_and}
use Rattle.rules.specs.Basics.{within}
use Rattle.rules.proofs.Lists.{within_true}
use Rattle.netlist.proofs.FlatWell.{read_flat}
use Rattle.mapper.proofs.Delivering.{bad_row, not_read, was_read}
use Rattle.mapper.proofs.map.Goals as goal

pub returns-then-not-contains : goal.returns-then-not-contains
returns-then-not-contains c = bad_row c.args.row c.args.text.now c.args.out.now (search rules)

pub returns-in_err-n : goal.returns-in_err-n
returns-in_err-n c =
    let p = err_from_is_err_and c.from_residual.result c.from_residual.ensures.1 in
    rw (p.1, p.2) (not_read c.args.row c.args.text.now c.args.out.now (search rules) c.in_err-n.ensures)

pub map_netlist-requires : goal.map_netlist-requires
map_netlist-requires c =
    let h : within 2 256 c.args.row ≡ true = search rules in
    let b = within_true 2 256 c.args.row h in
    (read_flat _ _ c.in_ok-n.ensures, b.1)

pub returns : goal.returns
returns c = c.map_netlist.ensures ∙ was_read c.args.row c.args.text.now c.args.out.now (search rules) c.in_ok-n.n c.in_ok-n.ensures
