-- Document 01, "The mapping rule": the whole.
-- Assumes nothing.
use Rattle.std.specs.Prelude.{ℕ, ◌-◌, List, map, ltb, length}
use Rattle.rules.specs.Basics.{within}
use Rattle.rules.specs.Form.{Form}
use Rattle.rules.specs.Refusals.{Res, good, ◌>>=◌, ◌>>◌, require}
use Rattle.rules.specs.Netlist.{Netlist, netlist_of}
use Rattle.rules.specs.Sequence.{Sequence, sequence_text}
use Rattle.rules.specs.Order.{order}
use Rattle.rules.specs.Cells.{State, Slot, cell_of, execute_gates, all_spent, opening}

-- Places name the outputs' cells.
unfoldable pub sequence_from : Netlist → ℕ → State → Sequence
unfolding cell_of
sequence_from N row st = record {
  row = row;
  inputs = N.inputs;
  outputs = length N.outputs;
  instructions = st.code;
  places = map (cell_of st.slots) N.outputs;
}

-- gates executed in an order, from an opening, with a rule for set lines
unfoldable pub mapped_by : Netlist → List ℕ → (List Slot → List ℕ) → State → ℕ → Res Sequence
unfolding execute_gates sequence_from ◌>>=◌
mapped_by N gs renew st row = do
  end ← execute_gates N renew gs st
  good (sequence_from N row end)

-- Work cells run from the number of inputs to the end of the row. With none, answer 9. The sequence opens by setting all work cells.
unfoldable pub mapped : Netlist → ℕ → Res Sequence
unfolding mapped_by order all_spent opening ◌>>◌ require
mapped N row = do
  require (ltb N.inputs row) 9
  mapped_by N (order N) all_spent (opening N (row - N.inputs) row) row

-- Mapping: 8, netlist, 9.
unfoldable pub mapped_text : Form → ℕ → List ℕ → Res (List ℕ)
unfolding netlist_of mapped sequence_text ◌>>=◌ ◌>>◌ require
mapped_text F row text = do
  require (within 2 F.row_most row) 8
  N ← netlist_of F text
  S ← mapped N row
  good (sequence_text F S)
