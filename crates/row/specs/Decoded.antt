-- A sequence where it stands in a text: instructions and places decoded line by line, without a check, and what a reading says.
-- Assumes nothing.
use Rattle.std.specs.Prelude.{ℕ, zero, suc, ◌+◌, ◌*◌, List, [], ◌∷◌, Option, Some, None, Result, eqb, leb, length, drop}
use Rattle.rules.specs.declared.Refusal.{Refusal}
use Rattle.rules.specs.Basics.{pick}
use Rattle.rules.specs.Refusals.{Res, meaning_by}
use Rattle.rules.specs.Lines.{value_of}
use Rattle.rules.specs.Sequence as rules
use Rattle.rules.specs.Sequence.{Set, Nor}
use Rattle.lines.specs.Line.{byte_at}
use Rattle.row.specs.declared.Head.{Head}

-- ---- the cells of a line

-- up to the line feed (10), or to the text's end
unfoldable pub cells_in : List ℕ → List ℕ
cells_in [] = []
cells_in (h ∷ []) = []
cells_in (h ∷ l ∷ t) = pick (eqb h 10) [] ((16 * value_of h + value_of l) ∷ cells_in t)

-- the cells from a place on, the first of them, and the place where they end
unfoldable pub cells_from : List ℕ → ℕ → List ℕ
cells_from text at = cells_in (drop at text)

unfoldable pub first_of : List ℕ → Option ℕ
first_of [] = None
first_of (c ∷ cs) = Some c

unfoldable pub cell_at : List ℕ → ℕ → Option ℕ
cell_at text at = first_of (cells_from text at)

unfoldable pub end_from : List ℕ → ℕ → ℕ
end_from text at = at + 2 * length (cells_from text at)

-- ---- instructions and places

-- the written cell, then the operand cells; a line that names no cell does nothing
unfoldable pub nor_on : List ℕ → rules.Instruction
nor_on [] = Set []
nor_on (w ∷ os) = Nor w os

-- the instruction whose line begins at a place; past the text's end nothing is done
unfoldable pub instruction_at : List ℕ → ℕ → rules.Instruction
instruction_at text at =
    pick (leb (length text) at) (Set [])
    (pick (eqb (byte_at text at) 0x12) (Set (cells_from text (at + 2))) (nor_on (cells_from text (at + 2))))

-- the place of the line after it
unfoldable pub next_at : List ℕ → ℕ → ℕ
next_at text at = pick (leb (length text) at) at (end_from text (at + 2) + 1)

-- k things line by line from a place on, by what stands at a place and where the next line begins
unfoldable pub each_line : {A : Type 0} → (ℕ → A) → (ℕ → ℕ) → ℕ → ℕ → List A
each_line said next at zero = []
each_line said next at (suc k) = said at ∷ each_line said next (next at) k

unfoldable pub instructions_at : List ℕ → ℕ → ℕ → List rules.Instruction
unfolding each_line
instructions_at text = each_line (instruction_at text) (next_at text)

-- a place's line has two bytes
unfoldable pub places_at : List ℕ → ℕ → ℕ → List ℕ
unfolding each_line
places_at text = each_line (λ at. byte_at text (at + 2)) (λ at. at + 5)

-- ---- what a reading says of its text: the sequence that stands there, or the refusal

abbrev pub sequence_at : List ℕ → Head → rules.Sequence
sequence_at text h = record {
  row = h.row;
  inputs = h.inputs;
  outputs = h.outputs;
  instructions = instructions_at text h.code h.instructions;
  places = places_at text h.places h.outputs;
}

abbrev pub sequence_in : List ℕ → Result Head Refusal → Res rules.Sequence
sequence_in text r = meaning_by (sequence_at text) r
