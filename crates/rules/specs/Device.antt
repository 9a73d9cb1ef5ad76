-- Document 01, "Values and the device": the row. 004, Table I, for the device.
-- Assumes nothing.
use Rattle.std.specs.Prelude.{ℕ, zero, suc, min, Bool, List, [], ◌∷◌, eqb, get_or, length, set}
use Rattle.rules.specs.Basics.{pick, mem, set_all}
use Rattle.rules.specs.Sequence.{Instruction, Set, Nor}
use Rattle.rules.specs.Values.{nor}

-- Set puts 1 in each named cell. NOR puts 1 in the written cell when that cell held 1 before and all operands are 0; otherwise 0. Other cells stay.
unfoldable pub execute : Instruction → List ℕ → List ℕ
unfolding set_all nor pick
execute (Set cs) r = set_all 1 cs r
execute (Nor w os) r = set r w (pick (eqb (get_or r w 0) 1) (nor r os) 0)

-- It takes a budget; the row is then the row after exactly those. Budget 0 changes nothing.
unfoldable pub run : ℕ → List Instruction → List ℕ → List ℕ
unfolding execute
run zero is r = r
run (suc b) [] r = r
run (suc b) (i ∷ is) r = run b is (execute i r)

-- One instruction is one cycle. The number of cycles run, the smaller of the budget and the instruction count
unfoldable pub cycles : ℕ → List Instruction → ℕ
cycles budget is = min budget (length is)

-- an instruction sets or writes a cell
unfoldable pub touches : ℕ → Instruction → Bool
unfolding mem
touches c (Set cs) = mem c cs
touches c (Nor w os) = eqb c w
