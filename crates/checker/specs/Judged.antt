-- A sequence that was read, and a netlist whose head agrees with it.
-- Assumes nothing.
use Rattle.std.specs.Prelude.{ℕ, ◌<◌, ◌≤◌, ◌≡◌, List}
use Rattle.rules.specs.Form.{form01}
use Rattle.rules.specs.Refusals.{Res, ◌>>=◌}
use Rattle.rules.specs.Netlist as rules
use Rattle.rules.specs.Sequence.{sequence_of}
use Rattle.rules.specs.Book.{checked}
use Rattle.row.specs.declared.Head.{Head}
use Rattle.netlist.specs.declared.Netlist.{Netlist}
use Rattle.netlist.specs.Flat.{netlist_in}
use Rattle.netlist.specs.Well.{Well}

-- a netlist that was read well, and a sequence's head that agrees with it
pub record Agreed (n : Netlist) (text : List ℕ) (h : Head) : Type 0 where
  pub well : Well (netlist_in n)
  pub inputs_agree : h.inputs ≡ n.inputs
  pub outputs_agree : h.outputs ≡ n.outputs
  pub row_most : h.row ≤ 256
  pub inputs_few : h.inputs < h.row

-- Checking, where the netlist was read: sequence text, 11, ..
unfoldable pub judged_of : rules.Netlist → List ℕ → Res ℕ
judged_of N text = do
  S ← sequence_of form01 text
  checked N S
