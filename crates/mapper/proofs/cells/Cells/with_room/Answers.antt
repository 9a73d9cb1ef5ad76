use mathlib.Core.Path.{refl}
use Rattle.mapper.specs.Held.{at_once, later}
use Rattle.mapper.proofs.cells.Cells.with_room.Goals as goal

pub returns-in-Some : goal.returns-in-Some
returns-in-Some c = at_once _ refl c.in-Some.ensures refl

pub returns : goal.returns
returns c = later _ c.in_default.ensures c.set_spent.ensures c.seek-2.ensures
