-- There are never more than twice as many instructions as gates.
-- Assumes nothing.
use Rattle.std.specs.Prelude.{ℕ, ◌*◌, ◌≤◌, ◌≡◌, List, length, take}
use Rattle.rules.specs.Form.{form01}
use Rattle.rules.specs.Refusals.{good}
use Rattle.rules.specs.Netlist.{Netlist, netlist_of}
use Rattle.rules.specs.Sequence.{Sequence, sequence_of}
use Rattle.rules.specs.Calls.{map_outcome}

-- for all rows, netlist texts and buffers: the sequence that map answers has at most two instructions for each gate of the netlist
abbrev pub TwiceAtMost : Type 0
TwiceAtMost = (row : ℕ) (text out : List ℕ) (n : ℕ) (N : Netlist) (S : Sequence)
    → (map_outcome row text out).answer ≡ good n → netlist_of form01 text ≡ good N → sequence_of form01 (take n (map_outcome row text out).lent) ≡ good S
    → length S.instructions ≤ 2 * length N.gates
