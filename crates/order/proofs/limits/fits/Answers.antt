use native.Mathlib.Omega.{arith}
use mathlib.Core.Path.{◌≡◌, sym, ◌∙◌}
use Rattle.std.proofs.lemmas.Grind.{common_steps}
use Rattle.std.proofs.Common.{rules}
use Rattle.order.specs.Plan.{is_flat}
use Rattle.order.proofs.Bounds.{gates_is, flat_fits}
use Rattle.order.proofs.limits.fits.Goals as goal

pub returns-then-gates_fit : goal.returns-then-gates_fit
unfolding is_flat
returns-then-gates_fit c = let n = c.args.n.now in
    let f = rw (c.output_list.ensures.held (search rules)) at c.all_below.ensures in
    let g = gates_is n.inputs n.ops n.counts 0 n.gates in
    let e : c.all_below.result ≡ is_flat n = grind (arith, common_steps, f, g) in
    record { flat = e; facts = λ t. flat_fits n (sym e ∙ t) }

pub returns-else-gates_fit : goal.returns-else-gates_fit
unfolding is_flat
returns-else-gates_fit c = let n = c.args.n.now in
    let g = gates_is n.inputs n.ops n.counts 0 n.gates in
    let e : c.if-n-le64-2.value ≡ is_flat n = grind (arith, common_steps, g) in
    record { flat = e; facts = λ t. flat_fits n (sym e ∙ t) }
