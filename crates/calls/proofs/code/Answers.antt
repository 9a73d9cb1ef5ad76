use Rattle.calls.proofs.Laws.{refusal_coded}
use Rattle.calls.proofs.code.Goals as goal

pub returns-in-Err : goal.returns-in-Err
returns-in-Err c = refusal_coded _ _ _ c.in-Err.is c.minus.ensures
