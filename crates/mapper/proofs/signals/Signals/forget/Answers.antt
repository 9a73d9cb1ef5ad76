use mathlib.Core.Path.{refl, sym, ◌∙◌}
use Rattle.mapper.proofs.Tabling.{forget_this, forget_other, forget_end}
use Rattle.mapper.proofs.signals.Signals.forget.Goals as goal
use Rattle.mapper.proofs.signals.Signals.forget.Goals.{then-is_free, else-is_free}

pub loop-o-preserved : goal.loop-o-preserved
loop-o-preserved c =
    elim c.if-is_free.branch [
      | then-is_free w ↦ rw w.self-is (forget_this c.loop-o.invariant c.loop-o-test.true refl (sym c.is_free.ensures ∙ w.if-is_free.true)
          (rw w.from.ensures at w.put.ensures))
      | else-is_free w ↦ rw w.self-is (forget_other c.loop-o.invariant c.loop-o-test.true refl (sym c.is_free.ensures ∙ w.if-is_free.false))
    ]

pub returns : goal.returns
returns c = forget_end c.loop-o.invariant c.loop-o-test.false
