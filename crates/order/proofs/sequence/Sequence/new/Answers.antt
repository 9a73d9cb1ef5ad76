use Rattle.order.proofs.Marks.{tied_none}
use Rattle.order.proofs.sequence.Sequence.new.Goals as goal

pub invariant_of-result : goal.invariant_of-result
invariant_of-result c = tied_none
