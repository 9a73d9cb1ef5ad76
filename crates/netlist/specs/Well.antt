-- What callers may rely on where a netlist was read: the numbers of document 01, as facts about the netlist and about the flat arrays.
-- Assumes nothing.
use Rattle.std.specs.Prelude.{ℕ, ◌+◌, ◌*◌, ◌<◌, ◌≤◌, ◌≡◌, true, false, [], get_or, length}
use Rattle.rules.specs.Basics.{mem, ascending, repeats}
use Rattle.rules.specs.Netlist as rules
use Rattle.rules.specs.Netlist.{all_used, twins}
use Rattle.netlist.specs.declared.Netlist.{Netlist}

-- a netlist whose lines read well, before 6 and 7 are asked
pub record WellLines (N : rules.Netlist) : Type 0 where
  pub inputs_least : 1 ≤ N.inputs
  pub inputs_most : N.inputs ≤ 64
  pub gates_least : 1 ≤ length N.gates
  pub gates_most : length N.gates ≤ 512
  pub outputs_least : 1 ≤ length N.outputs
  pub outputs_most : length N.outputs ≤ 64
  -- 1 to 4 operand signals, lower than the gate's own, strictly ascending
  pub some : (j : ℕ) → j < length N.gates → 1 ≤ length (get_or N.gates j [])
  pub few : (j : ℕ) → length (get_or N.gates j []) ≤ 4
  pub lower : (j o : ℕ) → mem o (get_or N.gates j []) ≡ true → o < N.inputs + j
  pub ascend : (j : ℕ) → ascending (get_or N.gates j []) ≡ true
  -- an output is a gate
  pub outputs_high : (o : ℕ) → mem o N.outputs ≡ true → N.inputs ≤ o
  pub outputs_low : (o : ℕ) → mem o N.outputs ≡ true → o < N.inputs + length N.gates

-- a netlist that was read well
pub record Well (N : rules.Netlist) : Type 0 where
  pub lines : WellLines N
  -- every gate is read or an output, no twins
  pub used : all_used N ≡ true
  pub single : twins N.gates ≡ false
  pub distinct : repeats N.outputs ≡ false

-- the same of the flat arrays: numbers within the limits, operands lower than their reader, outputs gates
pub record WellFlat (n : Netlist) : Type 0 where
  pub inputs_least : 1 ≤ n.inputs
  pub inputs_most : n.inputs ≤ 64
  pub gates_least : 1 ≤ n.gates
  pub gates_most : n.gates ≤ 512
  pub outputs_least : 1 ≤ n.outputs
  pub outputs_most : n.outputs ≤ 64
  pub some : (g : ℕ) → g < n.gates → 1 ≤ get_or n.counts g 0
  pub few : (g : ℕ) → g < n.gates → get_or n.counts g 0 ≤ 4
  pub lower : (g k : ℕ) → g < n.gates → k < get_or n.counts g 0 → get_or n.ops (4 * g + k) 0 < n.inputs + g
  pub outputs_high : (k : ℕ) → k < n.outputs → n.inputs ≤ get_or n.outs k 0
  pub outputs_low : (k : ℕ) → k < n.outputs → get_or n.outs k 0 < n.inputs + n.gates
