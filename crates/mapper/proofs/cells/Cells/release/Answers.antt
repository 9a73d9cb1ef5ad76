use mathlib.Core.Path.{refl, sym, ◌∙◌}
use Rattle.mapper.proofs.Tabling.{spend_this, spend_other, spend_end}
use Rattle.mapper.proofs.cells.Cells.release.Goals as goal
use Rattle.mapper.proofs.cells.Cells.release.Goals.{then-is_free, else-is_free}

pub loop-o-preserved : goal.loop-o-preserved
loop-o-preserved c =
    elim c.if-is_free.branch [
      | then-is_free w ↦ rw w.self-is (spend_this c.loop-o.invariant c.loop-o-test.true refl (sym c.is_free.ensures ∙ w.if-is_free.true)
          (w.from-then-is_free.ensures ∙ (rw w.from.ensures at w.at-c.ensures)))
      | else-is_free w ↦ rw w.self-is (spend_other c.loop-o.invariant c.loop-o-test.true refl (sym c.is_free.ensures ∙ w.if-is_free.false))
    ]

pub returns : goal.returns
returns c = spend_end c.loop-o.invariant c.loop-o-test.false
