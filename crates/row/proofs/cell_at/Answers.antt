use native.Mathlib.Omega.{arith}
use Rattle.row.proofs.Decoding.{cell_past, cell_feed, cell_named}
use Rattle.row.proofs.cell_at.Goals as goal
use Rattle.row.proofs.cell_at.Goals.{then-text-at-via-then-text-at, then-text-at-via-else-text-at+then-text-at-lt2, then-text-at-via-else-text-at+else-text-at-lt2+then-text-at-eq10}

pub returns-then-text-at : goal.returns-then-text-at
returns-then-text-at c =
    elim c.then-text-at.branch [
      | then-text-at-via-then-text-at w ↦ cell_past c.args.text.now _ (omega arith)
      | then-text-at-via-else-text-at+then-text-at-lt2 w ↦ cell_past c.args.text.now _ (omega arith)
      | then-text-at-via-else-text-at+else-text-at-lt2+then-text-at-eq10 w ↦ cell_feed c.args.text.now _ (omega arith) w.if-text-at-eq10.true
    ]

pub returns : goal.returns
returns c = cell_named c.args.text.now _ (omega arith) _ c.if-text-at-eq10.false c.byte_at.ensures
