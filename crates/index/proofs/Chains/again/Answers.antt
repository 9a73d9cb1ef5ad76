use Rattle.index.specs.Chains.{again_in}
use Rattle.index.proofs.Chains.again.Goals as goal

pub returns : goal.returns
unfolding again_in
returns c = rw (c.is_some.ensures, c.follow.ensures, c.at.ensures, c.at-link.ensures)
