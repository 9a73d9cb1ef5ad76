use Rattle.calls.proofs.Laws.{read_well, read_ill}
use Rattle.calls.proofs.bhedhmurali_read.Goals as goal

pub returns-in-Ok : goal.returns-in-Ok
returns-in-Ok c = read_well _ _ c.read.ensures _ c.in-Ok.is

pub returns-in-Err : goal.returns-in-Err
returns-in-Err c = read_ill _ _ c.read.ensures _ _ c.in-Err.is c.minus.ensures
