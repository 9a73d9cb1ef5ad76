-- `frames::place_after` meets its contract: past the line feed, which stands inside the text; else the same place.
use Rattle.std.proofs.Common.{arith}
use Rattle.frames.proofs.Laws.{frame_inside, place_past, place_stays}
use Rattle.frames.proofs.place_after.Goals as goal

pub returns-in_default : goal.returns-in_default
returns-in_default c = place_stays _ _ _ c.read_line.ensures _ c.in_default.is

pub overflow_add-result : goal.overflow_add-result
overflow_add-result c = omega (arith, frame_inside _ _ _ c.read_line.ensures _ c.in-Ok.is)

pub overflow_add-result-2 : goal.overflow_add-result-2
overflow_add-result-2 c = omega (arith, frame_inside _ _ _ c.read_line.ensures _ c.in-Ok.is)

pub returns : goal.returns
returns c = place_past _ _ _ c.read_line.ensures _ c.in-Ok.is
