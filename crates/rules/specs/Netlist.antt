-- Document 01, "Lines": a netlist, its text, and the netlist reader.
-- Assumes nothing.
use Rattle.std.specs.Prelude.{ℕ, zero, suc, ◌+◌, ◌-◌, Bool, false, ◌&&◌, ◌||◌, not, eqb, leb, length}
use mathlib.Core.List.{List, [], ◌∷◌, ◌++◌}
use Rattle.std.proofs.Math.Dec.{ltb}
use Rattle.std.proofs.Math.ListN.{get_or}
use Rattle.rules.specs.Basics.{pick, within, all, any, mem, repeats, ascending, same_list, upto}
use Rattle.rules.specs.Form.{Form, two}
use Rattle.rules.specs.Refusals.{Res, good, refused, ◌>>=◌, ◌>>◌, require, or_refuse}
use Rattle.rules.specs.Lines.{line, nothing, numbers, fields}

-- Inputs are signals 0 up; the next signals are the gates, in line order. A gate is its operand list.
pub record Netlist : Type 0 where
  pub inputs : ℕ
  pub gates : List (List ℕ)
  pub outputs : List ℕ

-- the operands of the gate that is signal s
unfoldable pub operands_of : Netlist → ℕ → List ℕ
operands_of N s = get_or N.gates (s - N.inputs) []

-- the signals that are gates
unfoldable pub gate_signals : Netlist → List ℕ
unfolding upto
gate_signals N = upto N.inputs (length N.gates)

-- some gate reads signal s
unfoldable pub is_read : Netlist → ℕ → Bool
unfolding mem
is_read N s = any (mem s) N.gates

-- ---- the lines of a netlist, by their bytes

-- 2: another kind was due
unfoldable pub due : ℕ → List ℕ → Res (List ℕ)
unfolding pick
due k [] = refused 2
due k (b ∷ l) = pick (eqb b k) (good l) (refused 2)

pub record Head : Type 0 where
  pub inputs : ℕ
  pub gates : ℕ
  pub outputs : ℕ

module _ (F : Form) where
  -- 01 netlist head: inputs (1 byte), gates (2), outputs (1)
  unfoldable pub head_of : List ℕ → Res Head
  unfolding due fields ◌>>=◌ ◌>>◌ require or_refuse
  head_of bytes = do
    l ← due F.netlist_head bytes
    ns ← or_refuse 2 (fields (F.cell_width ∷ two ∷ F.cell_width ∷ []) l)
    require (within 1 F.inputs_most (get_or ns 0 0)) 3
    require (within 1 F.gates_most (get_or ns 1 0)) 3
    require (within 1 F.outputs_most (get_or ns 2 0)) 3
    good (record { inputs = get_or ns 0 0; gates = get_or ns 1 0; outputs = get_or ns 2 0 })

  -- 02 gate: 1 to 4 operand signals, 2 bytes each. A gate reads only signals lower than its own, strictly ascending.
  unfoldable pub gate_of : ℕ → List ℕ → Res (List ℕ)
  unfolding due numbers ◌>>=◌ ◌>>◌ require or_refuse ascending
  gate_of own bytes = do
    l ← due F.gate_kind bytes
    os ← or_refuse 2 (numbers two l)
    require (within 1 4 (length os)) 2
    require (all (λ o. ltb o own) os) 4
    require (ascending os) 5
    good os

  -- 03 output: one signal, 2 bytes. An output is a gate.
  unfoldable pub output_of : Head → List ℕ → Res ℕ
  unfolding due fields ◌>>=◌ ◌>>◌ require or_refuse
  output_of h bytes = do
    l ← due F.output_kind bytes
    ns ← or_refuse 2 (fields (two ∷ []) l)
    require (leb h.inputs (get_or ns 0 0) && ltb (get_or ns 0 0) (h.inputs + h.gates)) 4
    good (get_or ns 0 0)
  -- ---- reading line after line

-- what was read, and the part of the text that follows
pub record Part (A : Type 0) : Type 0 where
  pub got : A
  pub tail : List ℕ

-- k more lines, each by a rule that knows the line's own number, behind those read so far
unfoldable pub lines : {A : Type 0} → Form → (ℕ → List ℕ → Res A) → ℕ → ℕ → List A → List ℕ → Res (Part (List A))
unfolding line ◌>>=◌
lines F rule zero own sofar text = good (record { got = sofar; tail = text })
lines F rule (suc k) own sofar text = do
  l ← line F text
  a ← rule own l.bytes
  lines F rule k (suc own) (sofar ++ (a ∷ [])) l.rest

module _ (F : Form) where
  -- A netlist is one 01, then its gates, then its outputs.
  unfoldable pub netlist_lines : List ℕ → Res (Part Netlist)
  unfolding line head_of gate_of output_of lines ◌>>=◌
  netlist_lines text = do
    l ← line F text
    h ← head_of F l.bytes
    gs ← lines F (gate_of F) h.gates h.inputs [] l.rest
    os ← lines F (λ _. output_of F h) h.outputs 0 [] gs.tail
    good (record { got = record { inputs = h.inputs; gates = gs.got; outputs = os.got }; tail = os.tail })

-- ---- after the last line

-- Every gate is read by some gate or is an output.
unfoldable pub all_used : Netlist → Bool
unfolding gate_signals is_read mem
all_used N = all (λ s. is_read N s || mem s N.outputs) (gate_signals N)

-- two gates have the same operand list
unfoldable pub twins : List (List ℕ) → Bool
unfolding same_list
twins [] = false
twins (g ∷ gs) = any (same_list g) gs || twins gs

-- After the last line, 6 goes before 7. No two gates have the same operand list and no output stands twice.
unfoldable pub well_formed : Netlist → Res Netlist
unfolding all_used twins repeats ◌>>◌ require
well_formed N = do
  require (all_used N) 6
  require (not (twins N.gates)) 7
  require (not (repeats N.outputs)) 7
  good N

-- the part of the text that follows the last output line; where a line gives 1 to 5 it is the empty part at the text's end
unfoldable pub tail_of : Res (Part Netlist) → List ℕ
tail_of (good p) = p.tail
tail_of (refused r) = []

module _ (F : Form) where
  unfoldable pub netlist_tail : List ℕ → List ℕ
  unfolding netlist_lines tail_of
  netlist_tail text = tail_of (netlist_lines F text)

  -- The library's own entry points refuse with 2 if a good line stands there, 1 if a bad one does, before 6 and 7.
  unfoldable pub netlist_of : List ℕ → Res Netlist
  unfolding netlist_lines nothing well_formed ◌>>=◌ ◌>>◌
  netlist_of text = do
    p ← netlist_lines F text
    nothing F p.tail
    well_formed p.got
