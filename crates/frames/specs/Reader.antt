-- What the frame reader holds, gives and becomes, in terms of document 01's frame reader.
-- Assumes nothing.
use Rattle.std.specs.Prelude.{ℕ, zero, suc, ◌+◌, List, eqb, length}
use Rattle.std.specs.Borrow.{Bor}
use Rattle.rules.specs.Basics.{pick}
use Rattle.rules.specs.Calls.{frame_outcome, place_outcome}
use Rattle.frames.specs.declared.Frames.{Frames}
use Rattle.frames.specs.declared.Piece.{Piece}

-- where the frame's part begins: at its place, or at the text's end where the part is empty
unfoldable pub start_of : List ℕ → ℕ → ℕ
unfolding pick
start_of text at = pick (eqb (length (frame_outcome text at)) 0) (length text) at

-- the part is the caller's own text there: the same block of memory, so many bytes further on
abbrev pub spot_in : Bor (List ℕ) → ℕ → ℕ × ℕ
spot_in text at = (text.ref_ptr.0, start_of text.now at + text.ref_ptr.1)

-- a reader at the text's start
abbrev pub at_start : Bor (List ℕ) → Frames
at_start text = record { text = text; at = 0 }

-- the digits that a reader gives next, and where they stand
abbrev pub gives : Frames → List ℕ
gives r = frame_outcome r.text.now r.at

abbrev pub spot : Frames → ℕ × ℕ
spot r = spot_in r.text r.at

-- the reader afterwards: the same text, at the place after the frame or where it stays
abbrev pub moved : Frames → Frames
moved r = record { text = r.text; at = place_outcome r.text.now r.at }

-- how wide the frame at a place is, and the place after it
unfoldable pub piece_at : List ℕ → ℕ → Piece
piece_at text at = record { width = length (frame_outcome text at); next = place_outcome text at }

-- how many frames stand one after the other from a place on, at most so many
unfoldable pub frames_from : ℕ → List ℕ → ℕ → ℕ
unfolding pick
frames_from zero text at = 0
frames_from (suc most) text at = pick (eqb (length (frame_outcome text at)) 0) 0 (suc (frames_from most text (place_outcome text at)))

-- how many frames a text begins with; a text of n characters has at most n
unfoldable pub frames_in : List ℕ → ℕ
unfolding frames_from
frames_in text = frames_from (length text) text 0
