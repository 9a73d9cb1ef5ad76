-- An instruction where it stands in a text, and what it says.
-- Assumes nothing.
use Rattle.std.specs.Prelude.{ℕ, ◌+◌, ◌-◌, ◌*◌, true, List, eqb, leb, length}
use Rattle.rules.specs.Basics.{pick}
use Rattle.rules.specs.Sequence as rules
use Rattle.rules.specs.Sequence.{Set, Nor}
use Rattle.lines.specs.Line.{byte_at, bytes_from}
use Rattle.row.specs.Decoded.{cells_from, each_line}
use Rattle.instruction.specs.declared.Instruction.{Instruction}

-- a line that names no cell, with the place of the next
abbrev pub idle_at : ℕ → Instruction
idle_at next = record { set = true; first = 0; cells = 0; next = next }

-- the instruction whose line begins at a place; past the text's end nothing is done
unfoldable pub counted : List ℕ → ℕ → ℕ → Instruction
counted text at k =
    pick (eqb k 0) (idle_at (at + 3)) (record { set = eqb (byte_at text at) 0x12; first = at + 2; cells = k; next = at + 2 + 2 * k + 1 })

unfoldable pub instruction_at : List ℕ → ℕ → Instruction
instruction_at text at = pick (leb (length text) at) (idle_at at) (counted text at (length (cells_from text (at + 2))))

-- what it says: the cells that a set line names, or the written cell and the operand cells after it
unfoldable pub instruction_in : List ℕ → Instruction → rules.Instruction
instruction_in text i =
    pick i.set (Set (bytes_from text i.first i.cells))
    (Nor (byte_at text i.first) (bytes_from text (i.first + 2) (i.cells - 1)))

-- k instructions line by line from a place on
unfoldable pub instructions_at : List ℕ → ℕ → ℕ → List rules.Instruction
unfolding each_line
instructions_at text = each_line (λ at. instruction_in text (instruction_at text at)) (λ at. (instruction_at text at).next)
