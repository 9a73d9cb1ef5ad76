-- A mapping has at most twice as many instructions as the netlist has gates.
-- Assumes nothing.
use Rattle.std.proofs.Common.{arith, sym, ◌∙◌}
use Rattle.claims.specs.Twice.{TwiceAtMost}
use Rattle.rules.proofs.Answers.{good_same}
use Rattle.claims.proofs.Delivered.{map-answered}

pub twice_at_most : TwiceAtMost
twice_at_most row text out n N S e read back =
    let M = map-answered row text out n e in
    let p = good_same M.netlist N (sym M.read ∙ read) in
    let q = good_same M.sequence S (sym M.back ∙ back) in
    rw (← p, ← q) (omega (arith, M.twice))
