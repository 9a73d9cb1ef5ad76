-- The key of a NOR line's operand signals.
-- Assumes nothing.
use Rattle.std.specs.Prelude.{ℕ, List, Option, Some, None, ltb}
use Rattle.std.proofs.Math.Option as maybe
use Rattle.std.proofs.Math.Option.{none, some}
use Rattle.rules.specs.Basics.{pick, sort}
use Rattle.rules.specs.Book.{Cell, unknown, ready, holds}
use Rattle.index.specs.Chains.{key_of}

-- the key of the signals, put in order
unfoldable pub key_over : maybe.Option (List ℕ) → Option ℕ
key_over none = None
key_over (some ss) = Some (key_of (sort ss))

-- a cell with a signal past 1023, which no netlist has, counts as one that holds none
unfoldable pub low_cell : Cell → Cell
low_cell unknown = unknown
low_cell ready = ready
low_cell (holds s) = pick (ltb s 1024) (holds s) unknown
