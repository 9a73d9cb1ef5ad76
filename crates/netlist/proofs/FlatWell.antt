-- A netlist that was read is well, and so are its flat arrays.
use Prim.Native.Nat.{ℕ, ◌+◌, ◌*◌, ◌<◌}
use native.Mathlib.Omega.{arith}
use mathlib.Core.Path.{◌≡◌, sym}
use mathlib.Core.Bool.{true}
use mathlib.Core.List.{List, []}
use lib.ListN.{get_or, length, drop}
use Rattle.std.specs.Prelude.{Ok}
use Rattle.rules.specs.Basics.{mem}
use Rattle.rules.specs.Form.{form01}
use Rattle.rules.specs.Netlist.{netlist_lines, netlist_of}
use Rattle.netlist.specs.declared.Netlist.{Netlist}
use Rattle.netlist.specs.declared.Front.{Front}
use Rattle.netlist.specs.Flat.{from, gate_in, gates_in, netlist_in, reading_of, part_of, front_of}
use Rattle.netlist.specs.Well.{Well, WellLines, WellFlat}
use Rattle.netlist.proofs.Arrays.{length_from, mem-from, length-gate, length-gates, get_or-gates}
use Rattle.netlist.proofs.Well.{well_lines, well, well_front}

module _ (n : Netlist) (w : WellLines (netlist_in n)) where
  abbrev gates : List (List ℕ)
  gates = gates_in n.ops n.counts n.gates

  gates_long : length gates ≡ n.gates
  gates_long = length-gates n.ops n.counts n.gates

  outputs_long : length (from n.outs 0 n.outputs) ≡ n.outputs
  outputs_long = length_from n.outs 0 n.outputs

  gate_at : (g : ℕ) → g < n.gates → get_or gates g [] ≡ gate_in n.ops n.counts g
  gate_at g h = get_or-gates n.ops n.counts n.gates g [] h

  gate_long : (g : ℕ) → g < n.gates → length (get_or gates g []) ≡ get_or n.counts g 0
  gate_long g h = rw (gate_at g h) (length-gate n.ops n.counts g)

  operand_in : (g k : ℕ) → g < n.gates → k < get_or n.counts g 0 → mem (get_or n.ops (4 * g + k) 0) (get_or gates g []) ≡ true
  unfolding gate_in
  operand_in g k h l = rw (gate_at g h) (mem-from n.ops (4 * g) (get_or n.counts g 0) k l)

  output_in : (k : ℕ) → k < n.outputs → mem (get_or n.outs k 0) (from n.outs 0 n.outputs) ≡ true
  output_in k h = let e : 0 + k ≡ k = omega arith in rw e at (mem-from n.outs 0 n.outputs k h)

  pub flat : WellFlat n
  unfolding netlist_in
  flat = record {
    inputs_least = w.inputs_least;
    inputs_most = w.inputs_most;
    gates_least = omega (arith, gates_long, w.gates_least);
    gates_most = omega (arith, gates_long, w.gates_most);
    outputs_least = omega (arith, outputs_long, w.outputs_least);
    outputs_most = omega (arith, outputs_long, w.outputs_most);
    some = λ g h. omega (arith, gate_long g h, w.some g (omega (arith, gates_long)));
    few = λ g h. omega (arith, gate_long g h, w.few g);
    lower = λ g k h l. w.lower g (get_or n.ops (4 * g + k) 0) (operand_in g k h l);
    outputs_high = λ k h. w.outputs_high (get_or n.outs k 0) (output_in k h);
    outputs_low = λ k h. omega (arith, gates_long, w.outputs_low (get_or n.outs k 0) (output_in k h));
  }

-- what `read_lines` answers
pub lines_flat : (text : List ℕ) (f : Front) → part_of text (Ok f) ≡ netlist_lines form01 text → WellFlat f.netlist
lines_flat text f e = flat f.netlist (well_lines text (record { got = netlist_in f.netlist; tail = drop f.tail text }) (sym e))

-- what `read` answers
module _ (text : List ℕ) (n : Netlist) (e : reading_of (Ok n) ≡ netlist_of form01 text) where
  pub read_well : Well (netlist_in n)
  read_well = well text (netlist_in n) (sym e)

  pub read_flat : WellFlat n
  read_flat = flat n read_well.lines

-- what `read_front` answers
pub front_well : (text : List ℕ) (f : Front) → part_of text (Ok f) ≡ front_of text → Well (netlist_in f.netlist)
front_well text f e = well_front text (record { got = netlist_in f.netlist; tail = drop f.tail text }) (sym e)
