use Rattle.std.proofs.Common.{arith, refl, ap, ◌∙◌, ◌≤◌, ◌-◌, length, get_or}
use Rattle.row.proofs.Judging.{set_none, set_some, judged_last}
use Rattle.row.proofs.frames.set_line.Goals as goal

pub returns-then-len-lt1 : goal.returns-then-len-lt1
returns-then-len-lt1 c = set_none _ _ (omega (arith, c.len.ensures))

pub returns : goal.returns
returns c =
    let some : 1 ≤ length c.args.cells.now = omega (arith, c.len.ensures) in
    let last = c.cell.ensures ∙ ap (λ m. get_or c.args.cells.now (m - 1) 0) c.len-2.ensures in
    judged_last _ _ _ _ _ _ some c.judged.ensures c.ascend.ensures last refl ∙ set_some _ _ some c.requires
