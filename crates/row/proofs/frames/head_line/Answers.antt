use Rattle.std.proofs.Common.{rules, sym, ◌∙◌}
use Rattle.row.proofs.Heading.{head_refused, head_other, head_length, head_unfit, head_good}
use Rattle.row.proofs.frames.head_line.Goals as goal
use Rattle.row.proofs.frames.head_line.Goals.{then-byte_at-via-then-byte_at, then-byte_at-via-else-byte_at+then-n-ne-HEAD_DIGITS}

pub returns-in_default-clause-means : goal.returns-in_default-clause-means
returns-in_default-clause-means c = search (rules, head_refused)

pub returns-then-byte_at-clause-means : goal.returns-then-byte_at-clause-means
returns-then-byte_at-clause-means c =
    elim c.then-byte_at.branch [
      | then-byte_at-via-then-byte_at w ↦ head_other _ _ _ c.in-Ok.ensures c.byte_at.ensures w.if-byte_at.true
      | then-byte_at-via-else-byte_at+then-n-ne-HEAD_DIGITS w ↦ head_length _ _ _ c.in-Ok.ensures c.byte_at.ensures w.if-byte_at.false w.if-n-ne-HEAD_DIGITS.true
    ]

pub returns-then-not-fit-clause-means : goal.returns-then-not-fit-clause-means
returns-then-not-fit-clause-means c = head_unfit _ _ _ c.in-Ok.ensures c.byte_at.ensures c.if-byte_at.false c.if-n-ne-HEAD_DIGITS.false _ _ _ _ c.byte_at-2.ensures c.byte_at-3.ensures c.byte_at-4.ensures c.word_at.ensures (sym c.fit.ensures ∙ c.if-not-fit.true)

pub returns-clause-means : goal.returns-clause-means
returns-clause-means c = head_good _ _ _ c.in-Ok.ensures c.byte_at.ensures c.if-byte_at.false c.if-n-ne-HEAD_DIGITS.false _ _ _ _ c.byte_at-2.ensures c.byte_at-3.ensures c.byte_at-4.ensures c.word_at.ensures (sym c.fit.ensures ∙ c.if-not-fit.false)
