-- Who still wants a signal: its readers that have not been executed, and the outputs.
-- Assumes nothing.
use Rattle.std.specs.Prelude.{ℕ, ◌+◌, ◌≤◌, ◌≡◌, List, get_or, length}
use Rattle.netlist.specs.declared.Netlist.{Netlist}
use Rattle.netlist.specs.Flat.{from, gates_in}
use Rattle.order.specs.Wanted.{times, waiting}

-- every member is counted as often as it stands there
pub record Counted (os left : List ℕ) : Type 0 where
  pub enough : (s : ℕ) → times s os ≤ get_or left s 0

pub record CountedDown (os left left' : List ℕ) : Type 0 where
  pub wide : length left' ≡ length left
  pub is : (s : ℕ) → get_or left' s 0 + times s os ≡ get_or left s 0

-- each signal's readers that have not been executed, and its places among the outputs, are counted
pub record Wanted (n : Netlist) (done left : List ℕ) : Type 0 where
  pub is : (s : ℕ) → get_or left s 0 ≡ waiting done n.inputs (gates_in n.ops n.counts n.gates) s + times s (from n.outs 0 n.outputs)
