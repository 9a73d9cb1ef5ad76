-- The limits that the order relies on, and the whole plan.
-- Assumes nothing.
use Rattle.std.specs.Prelude.{ℕ, zero, suc, ◌+◌, ◌*◌, ◌<◌, ◌≤◌, ◌≡◌, Bool, true, ◌&&◌, List, [], leb, ltb, get_or, take}
use Rattle.rules.specs.Basics.{pick, all}
use Rattle.rules.specs.Order.{order}
use Rattle.netlist.specs.declared.Netlist.{Netlist}
use Rattle.netlist.specs.Flat.{from, gate_in, gates_in, netlist_in}
use Rattle.order.specs.declared.Plan.{Plan}
use Rattle.order.specs.Wanted.{times, waiting}

-- at most four operands, all lower than a limit
unfoldable pub gate_fits : List ℕ → List ℕ → ℕ → ℕ → Bool
unfolding gate_in
gate_fits ops counts limit g = leb (get_or counts g 0) 4 && all (λ o. ltb o limit) (gate_in ops counts g)

-- the k gates from g on, each with operands lower than itself
unfoldable pub gates_fit : ℕ → List ℕ → List ℕ → ℕ → ℕ → Bool
unfolding gate_fits
gates_fit inputs ops counts g zero = true
gates_fit inputs ops counts g (suc k) = gate_fits ops counts (inputs + g) g && gates_fit inputs ops counts (g + 1) k

-- numbers within document 01's, operands lower than their reader, outputs signals
unfoldable pub is_flat : Netlist → Bool
unfolding gates_fit from
is_flat n =
    leb n.inputs 64 && (leb n.gates 512 && (leb n.outputs 64 && (gates_fit n.inputs n.ops n.counts 0 n.gates
    && all (λ o. ltb o (n.inputs + n.gates)) (from n.outs 0 n.outputs))))

-- the same as facts
pub record Fits (n : Netlist) : Type 0 where
  pub inputs_most : n.inputs ≤ 64
  pub gates_most : n.gates ≤ 512
  pub outputs_most : n.outputs ≤ 64
  pub few : (g : ℕ) → g < n.gates → get_or n.counts g 0 ≤ 4
  pub lower : (g k : ℕ) → g < n.gates → k < get_or n.counts g 0 → get_or n.ops (4 * g + k) 0 < n.inputs + g
  pub outputs_low : (k : ℕ) → k < n.outputs → get_or n.outs k 0 < n.inputs + n.gates

-- the gates in the order of their execution, and how many want a signal before the first: its readers and its places among the outputs
unfoldable pub order_in : Netlist → List ℕ
unfolding pick is_flat order netlist_in
order_in n = pick (is_flat n) (order (netlist_in n)) []

unfoldable pub wanted_in : Netlist → ℕ → ℕ
unfolding pick is_flat waiting times gates_in from
wanted_in n s = pick (is_flat n) (waiting [] n.inputs (gates_in n.ops n.counts n.gates) s + times s (from n.outs 0 n.outputs)) 0

pub record Planned (n : Netlist) (r : Plan) : Type 0 where
  pub fits : r.count ≤ 576
  pub order : take r.count r.seq ≡ order_in n
  pub behind : (i : ℕ) → r.count ≤ i → get_or r.seq i 0 ≡ 0
  pub wanted : (s : ℕ) → get_or r.left s 0 ≡ wanted_in n s
