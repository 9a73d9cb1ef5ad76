use Rattle.std.proofs.Common.{rules, sym, ◌∙◌}
use Rattle.std.proofs.lemmas.Result.{err_from_is_err_and}
use Rattle.row.proofs.Outcomes.{refused_outcome, bits_outcome, ran_outcome}
use Rattle.row.proofs.simulate.Goals as goal

pub returns-in_err-head : goal.returns-in_err-head
returns-in_err-head c =
    let p = err_from_is_err_and c.from_residual.result c.from_residual.ensures.1 in
    rw (p.1, p.2) (refused_outcome _ _ _ _ c.in_err-head.ensures)

pub returns-then-not-are_bits : goal.returns-then-not-are_bits
returns-then-not-are_bits c = bits_outcome _ _ _ _ c.in_ok-head.ensures (sym c.are_bits.ensures ∙ c.if-not-are_bits.true)

pub returns : goal.returns
returns c = ran_outcome _ _ _ _ c.in_ok-head.ensures _ _ (sym c.are_bits.ensures ∙ c.if-not-are_bits.false) (search rules) c.run.ensures
