-- A gate that nobody wants is what the rule releases, and an executed gate wants nothing.
-- Assumes nothing.
use Prim.Native.Nat.{ℕ, ◌+◌, ◌-◌, ◌<◌, ◌≤◌}
use native.Mathlib.Omega.{arith}
use mathlib.Core.Path.{◌≡◌, refl, sym, ap, ◌∙◌}
use mathlib.Core.Bool.{Bool, true, false, ◌&&◌, not}
use mathlib.Core.List.{List, [], ◌∷◌, ◌++◌}
use lib.Dec.{eqb, leb}
use lib.ListN.{get_or}
use Rattle.rules.specs.Basics.{mem}
use Rattle.rules.specs.Cells.{served, released}
use Rattle.netlist.specs.declared.Netlist.{Netlist}
use Rattle.netlist.specs.Flat.{from, gate_in, gates_in, netlist_in}
use Rattle.netlist.proofs.Arrays.{length-gates, get_or-gates}
use Rattle.order.specs.Wanted.{times, waiting}
use Rattle.order.proofs.Readership.{zero_sum, times_none, waiting_served, waiting_less}
use Rattle.mapper.specs.Held.{is_free}
use Rattle.mapper.specs.Wanted.{Counted, CountedDown, Wanted}

and_swap : (a b c : Bool) → (a && (b && c)) ≡ (a && (c && b))
and_swap true true true = refl
and_swap true true false = refl
and_swap true false true = refl
and_swap true false false = refl
and_swap false b c = refl

-- a gate that nobody wants is released
pub wanted_released : (n : Netlist) {done left : List ℕ} → Wanted n done left → (o : ℕ) → released (netlist_in n) done o ≡ is_free n.inputs left o
unfolding released netlist_in
wanted_released n {done} {left} w o =
    let gs = gates_in n.ops n.counts n.gates in
    let outs = from n.outs 0 n.outputs in
    let e : eqb (get_or left o 0) 0 ≡ (served done n.inputs gs o && not (mem o outs)) =
    ap (λ k. eqb k 0) (w.is o) ∙ zero_sum (waiting done n.inputs gs o) (times o outs) ∙ rw (waiting_served done n.inputs gs o, times_none o outs) in
    and_swap (leb n.inputs o) (not (mem o outs)) (served done n.inputs gs o) ∙ ap (λ b. leb n.inputs o && b) (sym e)

-- the operands of a gate that has not been executed are counted; once it is executed they are counted without it
module _ (n : Netlist) (s : ℕ) (gate : n.inputs ≤ s) (known : s < n.inputs + n.gates) {done left : List ℕ} (fresh : mem s done ≡ false) (w : Wanted n done left) where
  gs : List (List ℕ)
  gs = gates_in n.ops n.counts n.gates

  less : (x : ℕ) → waiting done n.inputs gs x ≡ waiting (done ++ (s ∷ [])) n.inputs gs x + times x (gate_in n.ops n.counts (s - n.inputs))
  unfolding gs
  less x =
      let e : n.inputs + (s - n.inputs) ≡ s = omega arith in
      rw (← get_or-gates n.ops n.counts n.gates (s - n.inputs) [] (omega arith))
      (rw e at (waiting_less done n.inputs gs x (s - n.inputs) (omega (arith, length-gates n.ops n.counts n.gates)) (rw e fresh)))

  pub still_counted : Counted (gate_in n.ops n.counts (s - n.inputs)) left
  unfolding gs
  still_counted = record { enough = λ x. omega (arith, w.is x, less x) }

  pub wanted_after : {left' : List ℕ} → CountedDown (gate_in n.ops n.counts (s - n.inputs)) left left' → Wanted n (done ++ (s ∷ [])) left'
  unfolding gs
  wanted_after d = record { is = λ x. omega (arith, w.is x, less x, d.is x) }
