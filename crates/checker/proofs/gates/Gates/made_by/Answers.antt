use Rattle.std.proofs.Common.{rules}
use Rattle.checker.proofs.Gating.{made_set, made_odd}
use Rattle.checker.proofs.gates.Gates.made_by.Goals as goal
use Rattle.checker.proofs.gates.Gates.made_by.Goals.{then-i-via-then-i, then-i-via-else-i+then-not-contains}

pub returns-then-i : goal.returns-then-i
returns-then-i c = elim c.then-i.branch [
  | then-i-via-then-i w ↦ made_set c.args.self.now c.args.book.now c.args.text.now c.args.i w.if-i.true
  | then-i-via-else-i+then-not-contains w ↦ made_odd c.args.self.now c.args.book.now c.args.text.now c.args.i w.if-i.false (search rules)
]
