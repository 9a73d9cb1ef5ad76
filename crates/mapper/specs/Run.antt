-- One gate executed by the code, and the whole run beside the rule's.
-- Assumes nothing.
use Rattle.std.specs.Prelude.{ℕ, ◌+◌, ◌-◌, ◌<◌, ◌≤◌, ◌≡◌, List, [], ◌++◌, map, get_or, length, set, Result, Ok, Err}
use Rattle.rules.specs.declared.Refusal.{Refusal}
use Rattle.rules.specs.Basics.{keep, set_all}
use Rattle.rules.specs.Form.{form01}
use Rattle.rules.specs.Refusals.{Res, good, refused, number_of}
use Rattle.rules.specs.Sequence.{Instruction, Nor, instruction_text, texts}
use Rattle.rules.specs.Cells.{State, cell_of, execute_gates, all_spent, opening}
use Rattle.netlist.specs.declared.Netlist.{Netlist}
use Rattle.netlist.specs.Flat.{gate_in, netlist_in}
use Rattle.netlist.specs.Well.{WellFlat}
use Rattle.mapper.specs.declared.cells.Hold.TheVariants.{Spent, Keeps}
use Rattle.mapper.specs.declared.cells.Cells.{Cells}
use Rattle.mapper.specs.declared.signals.Signals.{Signals}
use Rattle.mapper.specs.Text.{entry}
use Rattle.mapper.specs.Held.{first_cells, is_free}
use Rattle.order.specs.Visit.{Steps}
use Rattle.mapper.specs.Wanted.{Counted, CountedDown, Wanted}

-- input i is in cell i
pub record Seated (inputs : ℕ) (left : List ℕ) (g : Signals) : Type 0 where
  pub inputs_are : g.inputs ≡ inputs
  pub inputs_in : (s : ℕ) → s < inputs → get_or g.table s 0 ≡ s
  pub others : (s : ℕ) → inputs ≤ s → get_or g.table s 0 ≡ 0
  pub left_is : g.left ≡ left
  pub wide : length g.table ≡ 576

-- the operands of a signal
abbrev pub operands_in : Netlist → ℕ → List ℕ
operands_in n s = gate_in n.ops n.counts (s - n.inputs)

-- those that nobody wants any more
abbrev pub freed : ℕ → List ℕ → List ℕ → List ℕ
freed inputs os left = keep (is_free inputs left) os

-- their cells are spent
pub record Released (os : List ℕ) (g : Signals) (st st' : Cells) : Type 0 where
  pub held : st'.held ≡ set_all Spent (map (entry g.table) (freed g.inputs os g.left)) st.held
  pub row : st'.row ≡ st.row
  pub next : st'.next ≡ st.next
  pub lines : st'.lines ≡ st.lines

-- they have none any more
pub record Forgotten (os : List ℕ) (g g' : Signals) : Type 0 where
  pub inputs : g'.inputs ≡ g.inputs
  pub table : g'.table ≡ set_all 0 (freed g.inputs os g.left) g.table
  pub left : g'.left ≡ g.left

-- what is asked to place a signal in the cell at the cursor
pub record Placeable (n : Netlist) (s : ℕ) (st : Cells) (g : Signals) (text : List ℕ) : Type 0 where
  pub inputs : g.inputs ≡ n.inputs
  pub gate : n.inputs ≤ s
  pub known : s - n.inputs < 512
  pub few : get_or n.counts (s - n.inputs) 0 ≤ 4
  pub counted : Counted (operands_in n s) g.left
  pub cell : st.next < 256
  pub short : length text ≤ 15800
  pub lines : st.lines ≤ 60000

pub record Placed (n : Netlist) (s : ℕ) (st : Cells) (g : Signals) (text : List ℕ) (st' : Cells) (g' : Signals) (text' : List ℕ) : Type 0 where
  pub inputs : g'.inputs ≡ n.inputs
  pub line : text' ≡ text ++ instruction_text form01 (Nor st.next (map (entry g.table) (operands_in n s)))
  pub down : CountedDown (operands_in n s) g.left g'.left
  pub held : st'.held ≡ set_all Spent (map (entry g.table) (freed n.inputs (operands_in n s) g'.left)) (set st.held st.next Keeps)
  pub row : st'.row ≡ st.row
  pub next : st'.next ≡ st.next
  pub lines : st'.lines ≡ st.lines + 1
  pub table : g'.table ≡ set (set_all 0 (freed n.inputs (operands_in n s) g'.left) g.table) s st.next

-- the texts of instructions
abbrev pub code_text : List Instruction → List ℕ
code_text is = texts (instruction_text form01) is

-- before the first gate
unfoldable pub opened : Netlist → ℕ → State
unfolding opening netlist_in
opened n row = opening (netlist_in n) (row - n.inputs) row

unfoldable pub ran : Netlist → ℕ → List ℕ → Res State
unfolding execute_gates all_spent opened netlist_in
ran n row gs = execute_gates (netlist_in n) all_spent gs (opened n row)

-- the run's text, its lines, and each signal's cell
pub record Mapped (n : Netlist) (row : ℕ) (gs : List ℕ) (st : Cells) (g : Signals) (text : List ℕ) : Type 0 where
  pub end : State
  pub is : ran n row gs ≡ good end
  pub text_is : text ≡ code_text end.code
  pub count : st.lines ≡ length end.code
  pub table : (s : ℕ) → get_or g.table s 0 ≡ cell_of end.slots s
  pub short : length text ≤ 15500
  pub few : st.lines ≤ 2000

unfoldable pub RunOf : Netlist → ℕ → List ℕ → Signals → List ℕ → Result Cells Refusal → Type 0
RunOf n row gs g text (Ok st) = Mapped n row gs st g text
RunOf n row gs g text (Err r) = ran n row gs ≡ refused (number_of r)

-- what is asked to run
pub record Runnable (n : Netlist) (row : ℕ) (gs : List ℕ) (st : Cells) (g : Signals) (text : List ℕ) : Type 0 where
  pub well : WellFlat n
  pub room : n.inputs < row
  pub size : row ≤ 256
  pub most : length gs ≤ 576
  pub steps : Steps n.inputs (n.inputs + n.gates) gs
  pub wanted : Wanted n [] g.left
  pub first : st ≡ first_cells n.inputs row
  pub seated : Seated n.inputs g.left g
  pub empty : text ≡ []
