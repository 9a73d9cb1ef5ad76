use Rattle.std.proofs.Common.{◌≡◌, min, ◌∙◌, ap, arith}
use Rattle.book.specs.Cells.{first_of}
use Rattle.book.proofs.Laws.{begun, begun_start, begun_turn, begun_end}
use Rattle.book.proofs.Book.first.Goals as goal

pub loop-s-init : goal.loop-s-init
loop-s-init c = begun_start

pub loop-s-preserved : goal.loop-s-preserved
loop-s-preserved c = rw c.loop-s.invariant (begun_turn c.loop-s.s)

pub returns : goal.returns
unfolding first_of
returns c =
    let z : c.loop-s.s ≡ min c.args.inputs 256 = omega (arith, c.min-s-end.ensures) in
    ap (λ l. record { row = c.args.row; inputs = c.args.inputs; cells = l }) (c.loop-s.invariant ∙ ap begun z ∙ begun_end c.args.inputs)
