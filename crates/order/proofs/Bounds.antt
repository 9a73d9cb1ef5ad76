-- Limits as the code asks them, and as facts.
-- Assumes nothing.
use Prim.Native.Nat.{ℕ, zero, suc, ◌+◌, ◌*◌, ◌<◌, ◌≤◌}
use native.Mathlib.Omega.{arith}
use mathlib.Core.Path.{◌≡◌, refl, ap}
use mathlib.Core.Bool.{true, ◌&&◌}
use mathlib.Core.List.{List}
use lib.Dec.{leb, ltb}
use borrow.Author.Tests.{leb-true, le-leb, ltb-true, lt-ltb}
use lib.ListN.{get_or}
use Rattle.std.specs.List.{range_with_len}
use Rattle.rules.specs.Basics.{all}
use Rattle.rules.proofs.Laws.{and_true}
use Rattle.rules.proofs.Lists.{all_of, all_mem}
use Rattle.netlist.specs.declared.Netlist.{Netlist}
use Rattle.netlist.specs.Flat.{from, gate_in}
use Rattle.netlist.specs.Well.{WellFlat}
use Rattle.netlist.proofs.Arrays.{mem-from, from_mem}
use Rattle.order.specs.Plan.{gate_fits, gates_fit, is_flat, Fits}

-- the library's word for all gates from g on
pub gates_is : (inputs : ℕ) (ops counts : List ℕ) (g k : ℕ) → all (λ g. gate_fits ops counts (inputs + g) g) (range_with_len g k) ≡ gates_fit inputs ops counts g k
unfolding gates_fit
gates_is inputs ops counts g zero = refl
gates_is inputs ops counts g (suc k) = ap (λ b. gate_fits ops counts (inputs + g) g && b) (gates_is inputs ops counts (g + 1) k)

-- ---- as facts

gates_member : (inputs : ℕ) (ops counts : List ℕ) (g k j : ℕ) → gates_fit inputs ops counts g k ≡ true → j < k → gate_fits ops counts (inputs + (g + j)) (g + j) ≡ true
unfolding gates_fit
gates_member inputs ops counts g zero j e h = absurd (omega arith)
gates_member inputs ops counts g (suc k) zero e h =
    let z : g + 0 ≡ g = omega arith in
    rw z (and_true (gate_fits ops counts (inputs + g) g) (gates_fit inputs ops counts (g + 1) k) e).0
gates_member inputs ops counts g (suc k) (suc j) e h =
    let z : g + suc j ≡ g + 1 + j = omega arith in
    rw z (gates_member inputs ops counts (g + 1) k j (and_true (gate_fits ops counts (inputs + g) g) (gates_fit inputs ops counts (g + 1) k) e).1 (omega arith))

gates_of : (inputs : ℕ) (ops counts : List ℕ) (g k : ℕ) → ((j : ℕ) → g ≤ j → j < g + k → gate_fits ops counts (inputs + j) j ≡ true) → gates_fit inputs ops counts g k ≡ true
unfolding gates_fit
gates_of inputs ops counts g zero h = refl
gates_of inputs ops counts g (suc k) h = rw (h g (omega arith) (omega arith)) (gates_of inputs ops counts (g + 1) k (λ j a b. h j (omega arith) (omega arith)))

pub flat_fits : (n : Netlist) → is_flat n ≡ true → Fits n
unfolding is_flat gate_fits gate_in
flat_fits n e =
    let a = and_true (leb n.inputs 64) _ e in
    let b = and_true (leb n.gates 512) _ a.1 in
    let c = and_true (leb n.outputs 64) _ b.1 in
    let d = and_true (gates_fit n.inputs n.ops n.counts 0 n.gates) _ c.1 in
    record {
      inputs_most = leb-true n.inputs 64 a.0;
      gates_most = leb-true n.gates 512 b.0;
      outputs_most = leb-true n.outputs 64 c.0;
      few = λ g h. leb-true (get_or n.counts g 0) 4 (gate g h d.0).0;
      lower = λ g k h l.
          ltb-true (get_or n.ops (4 * g + k) 0) (n.inputs + g)
          (all_mem (λ o. ltb o (n.inputs + g)) (from n.ops (4 * g) (get_or n.counts g 0)) (gate g h d.0).1 (get_or n.ops (4 * g + k) 0) (mem-from n.ops (4 * g) (get_or n.counts g 0) k l));
      outputs_low = λ k l.
          let z : 0 + k ≡ k = omega arith in
          ltb-true (get_or n.outs k 0) (n.inputs + n.gates)
          (all_mem (λ o. ltb o (n.inputs + n.gates)) (from n.outs 0 n.outputs) d.1 (get_or n.outs k 0) (rw z at (mem-from n.outs 0 n.outputs k l)));
    }
  where
    gate : (g : ℕ) → g < n.gates → gates_fit n.inputs n.ops n.counts 0 n.gates ≡ true
        → (leb (get_or n.counts g 0) 4 ≡ true) × (all (λ o. ltb o (n.inputs + g)) (from n.ops (4 * g) (get_or n.counts g 0)) ≡ true)
    gate g h f =
        let z : 0 + g ≡ g = omega arith in
        and_true (leb (get_or n.counts g 0) 4) (all (λ o. ltb o (n.inputs + g)) (from n.ops (4 * g) (get_or n.counts g 0)))
        (rw z at (gates_member n.inputs n.ops n.counts 0 n.gates g f h))

-- a netlist that was read keeps to the limits
pub well_flat : (n : Netlist) → WellFlat n → is_flat n ≡ true
unfolding is_flat gate_fits gate_in
well_flat n w =
    rw (
      le-leb n.inputs 64 w.inputs_most,
      le-leb n.gates 512 w.gates_most,
      le-leb n.outputs 64 w.outputs_most,
      gates_of n.inputs n.ops n.counts 0 n.gates (λ g a b. gate g (omega arith)),
    )
    (all_of (λ o. ltb o (n.inputs + n.gates)) (from n.outs 0 n.outputs) (λ o m.
    let r = from_mem n.outs 0 n.outputs o m in
    let z : 0 + r.0 ≡ r.0 = omega arith in
    lt-ltb o (n.inputs + n.gates) (rw (← r.2, z) (w.outputs_low r.0 r.1))))
  where
    gate : (g : ℕ) → g < n.gates → (leb (get_or n.counts g 0) 4 && all (λ o. ltb o (n.inputs + g)) (from n.ops (4 * g) (get_or n.counts g 0))) ≡ true
    gate g h =
        rw (le-leb (get_or n.counts g 0) 4 (w.few g h))
        (all_of (λ o. ltb o (n.inputs + g)) (from n.ops (4 * g) (get_or n.counts g 0)) (λ o m.
        let r = from_mem n.ops (4 * g) (get_or n.counts g 0) o m in
        lt-ltb o (n.inputs + g) (rw (← r.2) (w.lower g r.0 h r.1))))
