-- Every text that map answers is passed by check for that netlist.
-- Assumes nothing.
use Rattle.std.specs.Prelude.{ℕ, ◌≡◌, List, length, take}
use Rattle.rules.specs.Form.{form01}
use Rattle.rules.specs.Refusals.{good}
use Rattle.rules.specs.Lines.{Line, line}
use Rattle.rules.specs.Sequence.{Sequence, SequenceHead, sequence_head_of, sequence_of}
use Rattle.rules.specs.Calls.{map_outcome, check_outcome}

-- a sequence text reads well, and check passes it for a netlist text with its number of instructions
abbrev pub Passed : List ℕ → List ℕ → Type 0
Passed text t = (S : Sequence) × (sequence_of form01 t ≡ good S) × (check_outcome text t ≡ good (length S.instructions))

-- for all rows, netlist texts and buffers: the text that map answers is passed
abbrev pub MappedPasses : Type 0
MappedPasses = (row : ℕ) (text out : List ℕ) (n : ℕ) → (map_outcome row text out).answer ≡ good n → Passed text (take n (map_outcome row text out).lent)

-- that number is the one its head states
abbrev pub HeadCounts : Type 0
HeadCounts = (t : List ℕ) (S : Sequence) → sequence_of form01 t ≡ good S
    → (l : Line) × (h : SequenceHead) × (line form01 t ≡ good l) × (sequence_head_of form01 l.bytes ≡ good h) × (h.instructions ≡ length S.instructions)
