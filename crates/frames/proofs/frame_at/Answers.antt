-- `frames::frame_at` meets its contract: a good line's digits stand inside the text; else the part is what stands at the text's end, nothing.
use Rattle.std.proofs.Common.{arith}
use Rattle.frames.proofs.Laws.{frame_inside, frame_there, frame_end, start_there, start_end, stands}
use Rattle.frames.proofs.frame_at.Goals as goal

pub returns-in_default : goal.returns-in_default
returns-in_default c = (frame_end _ _ _ c.read_line.ensures _ c.in_default.is, stands c.args.text _ (start_end _ _ _ c.read_line.ensures _ c.in_default.is))

pub overflow_add-end : goal.overflow_add-end
overflow_add-end c = omega (arith, frame_inside _ _ _ c.read_line.ensures _ c.in-Ok.is)

pub slice_bounds-result-end-2 : goal.slice_bounds-result-end-2
slice_bounds-result-end-2 c = omega (arith, frame_inside _ _ _ c.read_line.ensures _ c.in-Ok.is)

pub returns : goal.returns
returns c = (frame_there _ _ _ c.read_line.ensures _ c.in-Ok.is, stands c.args.text _ (start_there _ _ _ c.read_line.ensures _ c.in-Ok.is))
