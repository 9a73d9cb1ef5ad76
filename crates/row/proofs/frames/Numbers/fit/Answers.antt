use Rattle.std.proofs.Common.{arith}
use Rattle.std.proofs.lemmas.Grind.{common_steps}
use Rattle.row.proofs.frames.Numbers.fit.Goals as goal

pub returns-else-contains-4 : goal.returns-else-contains-4
returns-else-contains-4 c = grind (arith, common_steps)
