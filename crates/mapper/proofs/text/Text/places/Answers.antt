use Prim.Native.Nat.{ℕ}
use native.Mathlib.Omega.{arith}
use mathlib.Core.Path.{ap}
use lib.ListN.{length, length-append}
use Rattle.mapper.proofs.Writing.{place_turn, place_end}
use Rattle.mapper.proofs.text.Text.places.Goals as goal

pub loop-o-preserved : goal.loop-o-preserved
loop-o-preserved c = record {
  long = omega (
    arith,
    ap length c.byte.ensures,
    ap length c.byte-in-loop-o.ensures,
    ap length c.feed.ensures,
    length-append {A = ℕ},
    c.loop-o.invariant.long,
  );
  left = place_turn _ _ _ _ _ c.loop-o-test.true c.loop-o.invariant.left c.byte.ensures c.from.ensures c.at.ensures c.byte-in-loop-o.ensures c.feed.ensures;
}

pub returns : goal.returns
returns c = place_end _ _ _ _ _ c.loop-o-test.false c.loop-o.invariant.left
