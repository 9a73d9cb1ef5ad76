use Rattle.std.proofs.Common.{rules, arith, sym, ◌+◌, ◌-◌, ◌/◌}
use Rattle.std.proofs.lemmas.Result.{err_from_is_err_and}
use Rattle.lines.proofs.Meaning.{frame_fits}
use Rattle.row.proofs.Judging.{length-bytes}
use Rattle.row.proofs.Decoding.{line_digits}
use Rattle.row.proofs.Framed.{line_refused, set_refused, set_good, nor_refused, nor_good, instruction_other}
use Rattle.row.proofs.frames.instruction_line.Goals as goal
use Rattle.row.proofs.frames.instruction_line.Goals.{then-kind+in_ok-set_line, else-kind+then-kind-2+in_ok-nor_line}

pub returns-in_default : goal.returns-in_default
returns-in_default c = search (rules, line_refused)

pub invariant_of-cells : goal.invariant_of-cells
invariant_of-cells c =
    let f = frame_fits _ _ _ (sym c.in-Ok.ensures) in
    (omega (arith, f.inside, f.least), line_digits _ _ _ (sym c.in-Ok.ensures))

pub invariant_of-cells-then-kind-2 : goal.invariant_of-cells-then-kind-2
invariant_of-cells-then-kind-2 c =
    let f = frame_fits _ _ _ (sym c.in-Ok.ensures) in
    (omega (arith, f.inside, f.least), line_digits _ _ _ (sym c.in-Ok.ensures))

pub set_line-requires : goal.set_line-requires
set_line-requires c = let f = frame_fits _ _ _ (sym c.in-Ok.ensures) in omega (arith, f.most, length-bytes c.args.text.now (c.args.at + 2) (c.in-Ok.n / 2 - 1))

pub returns-in_err-set_line : goal.returns-in_err-set_line
returns-in_err-set_line c =
    let p = err_from_is_err_and c.from_residual.result c.from_residual.ensures.1 in
    rw (p.1, p.2) (set_refused _ _ _ _ _ c.in-Ok.ensures c.byte_at-kind.ensures c.if-kind.true _ c.in_err-set_line.ensures)

pub returns-in_err-nor_line : goal.returns-in_err-nor_line
returns-in_err-nor_line c =
    let p = err_from_is_err_and c.from_residual-in_err-nor_line.result c.from_residual-in_err-nor_line.ensures.1 in
    rw (p.1, p.2) (nor_refused _ _ _ _ _ c.in-Ok.ensures c.byte_at-kind.ensures c.if-kind.false c.if-kind-2.true _ c.in_err-nor_line.ensures)

pub returns-else-kind-2 : goal.returns-else-kind-2
returns-else-kind-2 c = instruction_other _ _ _ _ _ c.in-Ok.ensures c.byte_at-kind.ensures c.if-kind.false c.if-kind-2.false

pub returns : goal.returns
returns c =
    elim c.if-kind.branch [
      | then-kind+in_ok-set_line w ↦ set_good _ _ _ _ _ c.in-Ok.ensures c.byte_at-kind.ensures w.if-kind.true w.in_ok-set_line.ensures
      | else-kind+then-kind-2+in_ok-nor_line w ↦ nor_good _ _ _ _ _ c.in-Ok.ensures c.byte_at-kind.ensures w.if-kind.false w.if-kind-2.true w.in_ok-nor_line.ensures
    ]
