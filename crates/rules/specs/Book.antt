-- Document 01, "The checker's rule".
-- Assumes nothing.
use Rattle.std.specs.Prelude.{ℕ, suc, ◌-◌, Bool, true, false, ◌&&◌, eqb, ltb, get_or, length, set, replicate}
use mathlib.Core.List.{List, [], ◌∷◌, ◌++◌, map}
use Rattle.std.proofs.Math.Option.{Option, none, some}
use Rattle.rules.specs.Basics.{pick, any, upto, sort, same_list, set_all}
use Rattle.rules.specs.Form.{Form}
use Rattle.rules.specs.Refusals.{Res, good, refused, ◌>>=◌, ◌>>◌, require, or_refuse}
use Rattle.rules.specs.Netlist.{Netlist, netlist_of}
use Rattle.rules.specs.Sequence.{Instruction, Set, Nor, Sequence, sequence_of}

-- it says of each cell: a signal, ready, or unknown
pub data Cell : Type 0 where
  unknown ready : Cell
  holds : ℕ → Cell

-- At first input cells hold their signals, all others are unknown.
unfoldable pub first_book : ℕ → ℕ → List Cell
unfolding upto
first_book inputs row = map holds (upto 0 inputs) ++ replicate (row - inputs) unknown

-- the signals that operand cells hold; none if an operand cell is ready or unknown
unfoldable pub if_holds : Cell → Option (List ℕ) → Option (List ℕ)
if_holds unknown o = none
if_holds ready o = none
if_holds (holds s) none = none
if_holds (holds s) (some ss) = some (s ∷ ss)

unfoldable pub signals : List Cell → List ℕ → Option (List ℕ)
unfolding if_holds
signals book [] = some []
signals book (c ∷ cs) = if_holds (get_or book c unknown) (signals book cs)

-- the gate with this operand list, among gates counted from k
unfoldable pub gate_with : List ℕ → ℕ → List (List ℕ) → Option ℕ
unfolding pick same_list
gate_with os k [] = none
gate_with os k (g ∷ gs) = pick (same_list os g) (some k) (gate_with os (suc k) gs)

module _ (N : Netlist) where
  -- a cell that no instruction may set or write: an input cell
  abbrev pub fixed : ℕ → Bool
  fixed c = ltb c N.inputs

  -- the operand signals, put in order, are a gate's operand list
  unfoldable pub gate_on : Option (List ℕ) → Option ℕ
  unfolding gate_with sort
  gate_on none = none
  gate_on (some ss) = gate_with (sort ss) N.inputs N.gates

  -- the gate that a NOR makes, by what the book says of the written cell and of the operand cells
  -- 14 if the written cell isn't ready, 15 if an operand cell is ready or unknown, or if the operand signals are no gate's operand list
  unfoldable pub made : Cell → Option (List ℕ) → Res ℕ
  unfolding or_refuse gate_on
  made unknown ss = refused 14
  made ready ss = or_refuse 15 (gate_on ss)
  made (holds s) ss = refused 14

  -- Set: 13 if an input cell is named; else all named become ready, used before or not.
  -- NOR: 13 if an input cell is written. Else the cell holds that gate.
  unfoldable pub step : Instruction → List Cell → Res (List Cell)
  unfolding pick set_all made signals ◌>>=◌
  step (Set cs) book = pick (any fixed cs) (refused 13) (good (set_all ready cs book))
  step (Nor w os) book = pick (fixed w) (refused 13) (made (get_or book w unknown) (signals book os) >>= λ g. good (set book w (holds g)))

  -- instruction by instruction
  unfoldable pub steps : List Instruction → List Cell → Res (List Cell)
  unfolding step ◌>>=◌
  steps [] book = good book
  steps (i ∷ is) book = step i book >>= steps is

unfoldable pub is_holding : Cell → ℕ → Bool
is_holding unknown s = false
is_holding ready s = false
is_holding (holds t) s = eqb t s

-- At the end each place holds its output.
unfoldable pub placed : List Cell → List ℕ → List ℕ → Bool
unfolding is_holding
placed book [] os = true
placed book (p ∷ ps) [] = true
placed book (p ∷ ps) (o ∷ os) = is_holding (get_or book p unknown) o && placed book ps os

-- Checking: 11, then instruction by instruction 13, 14, 15, then 16. Passed answers the number of instructions.
unfoldable pub checked : Netlist → Sequence → Res ℕ
unfolding first_book steps placed ◌>>=◌ ◌>>◌ require
checked N S = do
  require (eqb S.inputs N.inputs) 11
  require (eqb S.outputs (length N.outputs)) 11
  book ← steps N S.instructions (first_book N.inputs S.row)
  require (placed book S.places N.outputs) 16
  good (length S.instructions)

-- Checking: netlist, sequence text (1, 2, 3, 5, 12), 11, ..
unfoldable pub checked_text : Form → List ℕ → List ℕ → Res ℕ
unfolding netlist_of sequence_of checked ◌>>=◌
checked_text F netlist sequence = do
  N ← netlist_of F netlist
  S ← sequence_of F sequence
  checked N S
