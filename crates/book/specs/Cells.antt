-- The book's cells in document 01's words: a signal, ready, or unknown.
-- Assumes nothing.
use Rattle.std.specs.Prelude.{ℕ, List, ◌++◌, map, take, drop, replicate}
use Rattle.std.proofs.lemmas.List.Edits.{sets}
use Rattle.rules.specs.Basics.{upto}
use Rattle.rules.specs.Book as rules
use Rattle.rules.specs.Book.{unknown, ready, holds}
use Rattle.book.specs.declared.Cell.{Cell}
use Rattle.book.specs.declared.Cell.TheVariants.{Unknown, Ready, Holds}
use Rattle.book.specs.declared.Book.{Book}

-- a cell of the code, and the cell that the code has for one
unfoldable pub cell_in : Cell → rules.Cell
cell_in Unknown = unknown
cell_in Ready = ready
cell_in (Holds s) = holds s

unfoldable pub cell_of : rules.Cell → Cell
cell_of unknown = Unknown
cell_of ready = Ready
cell_of (holds s) = Holds s

-- the book as rules has it: what is said of the cells of the row
unfoldable pub book_in : Book → List rules.Cell
book_in b = map cell_in (take b.row b.cells)

-- a book that says something else of the same row; the cells past it stay
unfoldable pub book_of : Book → List rules.Cell → Book
book_of b book = record { row = b.row; inputs = b.inputs; cells = map cell_of book ++ drop b.row b.cells }

abbrev pub blank_cells : List Cell
blank_cells = replicate 256 Unknown

-- At first input cells hold their signals, all others are unknown.
unfoldable pub first_of : ℕ → ℕ → Book
first_of row inputs = record { row = row; inputs = inputs; cells = sets blank_cells 0 (map Holds (upto 0 inputs)) }
