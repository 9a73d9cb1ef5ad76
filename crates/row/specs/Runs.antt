-- What a run does to the row.
-- Assumes nothing.
use Rattle.std.specs.Prelude.{ℕ, zero, suc, List}
use Rattle.rules.specs.Values.{nor}
use Rattle.rules.specs.Device.{execute}
use Rattle.row.specs.declared.device.Operands.{Operands}
use Rattle.row.specs.Decoded.{cells_from, end_from, instruction_at, next_at}

-- the operand cells from a place on: 1 when all are 0, and where they end
unfoldable pub operands_at : List ℕ → ℕ → List ℕ → Operands
operands_at text at row = record { value = nor row (cells_from text at); end = end_from text at }

-- One instruction is one cycle: k of them from a place on, with the row after each.
unfoldable pub run_at : List ℕ → ℕ → ℕ → List ℕ → List ℕ
run_at text at zero row = row
run_at text at (suc k) row = run_at text (next_at text at) k (execute (instruction_at text at) row)
