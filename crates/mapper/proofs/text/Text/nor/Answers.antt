use native.Mathlib.Omega.{arith}
use mathlib.Core.Path.{ap, ◌∙◌}
use lib.ListN.{length, length-append}
use Rattle.mapper.proofs.Writing.{nor_turn, nor_end, nor_whole}
use Rattle.mapper.proofs.text.Text.nor.Goals as goal

pub loop-o-preserved : goal.loop-o-preserved
loop-o-preserved c = record {
  long = omega (arith, ap length c.byte-in-loop-o.ensures, length-append c.loop-o.self, c.loop-o.invariant.long);
  left = nor_turn _ _ _ _ _ c.loop-o-test.true c.loop-o.invariant.left c.from.ensures c.at.ensures c.byte-in-loop-o.ensures;
}

pub returns : goal.returns
returns c = nor_end _ _ _ _ _ c.loop-o-test.false c.loop-o.invariant.left c.feed.ensures ∙ rw (c.byte-2.ensures, c.byte.ensures) (nor_whole _ _ _)
