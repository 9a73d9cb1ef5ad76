-- `frames::piece_at` meets its contract: the count of the part that `next` gives and the reader's place afterwards make the result.
use Rattle.std.proofs.Common.{ap}
use Rattle.frames.specs.Reader.{piece_at}
use Rattle.frames.proofs.piece_at.Goals as goal

pub returns : goal.returns
unfolding piece_at
returns c = let now = c.next-part.ensures.0.0 in let moves = ap (λ r. r.at) c.next-part.ensures.1 in cc
