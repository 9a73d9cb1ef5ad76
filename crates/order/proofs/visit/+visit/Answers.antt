use Prim.Native.Nat.{◌<◌}
use native.Mathlib.Omega.{arith}
use mathlib.Core.Path.{◌≡◌, sym, ◌∙◌}
use mathlib.Core.List.{[]}
use Rattle.std.proofs.Common.{rules}
use Rattle.std.proofs.lemmas.List.{get_or_default}
use Rattle.order.specs.Visit.{ops_in}
use Rattle.order.proofs.Walking.{operand_lower, walking_turn, walking_done, walking_none}
use Rattle.order.proofs.visit.+visit.Goals as goal

pub returns-then-has : goal.returns-then-has
returns-then-has t c = walking_none _ _ _ (sym c.has.ensures ∙ c.if-has.true)

pub visit-requires : goal.visit-requires
visit-requires t c = let rows = c.args.rows.now in
    let r : c.signals-o-items.result.now ≡ ops_in rows c.args.s = c.signals-o-items.ensures ∙ get_or_default rows c.args.s _ [] (search rules) in
    let l = operand_lower (ops_in rows) c.args.s c.loop-o.o-index c.requires.lower (rw r at c.loop-o-test.true) in
    let f : c.from.result < c.args.s = rw (c.from.ensures, r) l in
    (omega (arith, f, c.decreases), (c.requires.lower, omega (arith, f, c.requires.signal)))

pub loop-o-preserved : goal.loop-o-preserved
loop-o-preserved t c = let rows = c.args.rows.now in
    let r : c.signals-o-items.result.now ≡ ops_in rows c.args.s = c.signals-o-items.ensures ∙ get_or_default rows c.args.s _ [] (search rules) in
    rw c.visit.ensures (walking_turn c.requires.lower c.loop-o.invariant (rw r at c.loop-o-test.true) (rw r at c.from.ensures))

pub returns : goal.returns
returns t c = let rows = c.args.rows.now in
    let r : c.signals-o-items.result.now ≡ ops_in rows c.args.s = c.signals-o-items.ensures ∙ get_or_default rows c.args.s _ [] (search rules) in
    c.append.ensures ∙ walking_done c.requires.lower c.loop-o.invariant (rw r at c.loop-o-test.false) (sym c.has.ensures ∙ c.if-has.false)
