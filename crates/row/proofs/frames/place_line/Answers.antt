use Rattle.std.proofs.Common.{rules}
use Rattle.row.proofs.Framed.{line_refused, place_other, place_length, place_past, place_one}
use Rattle.row.proofs.frames.place_line.Goals as goal
use Rattle.row.proofs.frames.place_line.Goals.{then-byte_at-via-then-byte_at, then-byte_at-via-else-byte_at+then-n-ne4}

pub returns-in_default : goal.returns-in_default
returns-in_default c = search (rules, line_refused)

pub returns-then-byte_at : goal.returns-then-byte_at
returns-then-byte_at c =
    elim c.then-byte_at.branch [
      | then-byte_at-via-then-byte_at w ↦ place_other _ _ _ _ _ c.in-Ok.ensures c.byte_at.ensures w.if-byte_at.true
      | then-byte_at-via-else-byte_at+then-n-ne4 w ↦ place_length _ _ _ _ _ c.in-Ok.ensures c.byte_at.ensures w.if-byte_at.false w.if-n-ne4.true
    ]

pub returns-then-row-byte_at : goal.returns-then-row-byte_at
returns-then-row-byte_at c = place_past _ _ _ _ _ c.in-Ok.ensures c.byte_at.ensures c.if-byte_at.false c.if-n-ne4.false _ c.byte_at-2.ensures c.if-row-byte_at.true

pub returns : goal.returns
returns c = place_one _ _ _ _ _ c.in-Ok.ensures c.byte_at.ensures c.if-byte_at.false c.if-n-ne4.false _ c.byte_at-2.ensures c.if-row-byte_at.false
