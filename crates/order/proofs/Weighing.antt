-- All weights: the table that the code fills is the rule's, and the slices that the visit reads hold the rule's order.
-- Assumes nothing.
use Prim.Native.Nat.{ℕ, zero, suc, ◌+◌, ◌-◌, ◌*◌, ◌<◌, ◌≤◌}
use native.Mathlib.Omega.{arith}
use native.Mathlib.Decide.{dec_lt}
use mathlib.Core.Path.{◌≡◌, refl, ◌∙◌}
use mathlib.Core.Bool.{true}
use mathlib.Core.List.{List, [], ◌∷◌, ◌++◌}
use lib.Dec.{leb, ltb}
use borrow.Author.Tests.{leb-true}
use lib.ListN.{get_or, length, replicate, length-append, length-replicate, get_or-append}
use Rattle.rules.specs.Basics.{mem, keep, larger}
use Rattle.rules.specs.Values.{table}
use Rattle.rules.specs.Netlist.{operands_of}
use Rattle.rules.specs.Weight.{high_to_low, gate_operands, largest_sum, weight_from, weight_in, weigh, weights}
use Rattle.rules.specs.Order.{visit_order}
use Rattle.rules.proofs.Laws.{by_pick, cons_self}
use Rattle.rules.proofs.Lists.{keep_mem}
use Rattle.netlist.specs.declared.Netlist.{Netlist}
use Rattle.netlist.specs.Flat.{gate_in, gates_in, netlist_in}
use Rattle.netlist.proofs.Arrays.{length-gate, length-gates, get_or-gates, from_mem}
use Rattle.order.specs.Plan.{Fits}
use Rattle.order.proofs.Lists.{gates_past}

-- ---- a weight is at most 3 over the heaviest operand's

larger_small : (a b m : ℕ) → a ≤ m → b ≤ m → larger a b ≤ m
unfolding larger
larger_small a b m h k = by_pick (λ x. x ≤ m) (ltb a b) (λ _. k) (λ _. h)

sum_small : (w : ℕ → ℕ) (m : ℕ) → ((s : ℕ) → w s ≤ m) → (k sofar : ℕ) (os : List ℕ) → length os + k ≤ 4 → sofar ≤ m + 3 → largest_sum w k sofar os ≤ m + 3
unfolding largest_sum
sum_small w m h k sofar [] l b = b
sum_small w m h k sofar (o ∷ os) l b =
    sum_small w m h (suc k) (larger sofar (w o + k)) os (omega arith) (larger_small sofar (w o + k) (m + 3) b (omega (arith, h o)))

pub weight_small : (w : ℕ → ℕ) (m : ℕ) → ((s : ℕ) → w s ≤ m) → (os : List ℕ) → length os ≤ 4 → weight_from w os ≤ m + 3
unfolding weight_from
weight_small w m h [] l = omega arith
weight_small w m h (o ∷ os) l = sum_small w m h 0 0 (o ∷ os) (omega arith) (omega arith)

-- ---- the table grown gate by gate

module _ (f : List ℕ → List ℕ → ℕ) where
  table_snoc : (vs : List ℕ) (gs : List (List ℕ)) (g : List ℕ) → table f vs (gs ++ (g ∷ [])) ≡ table f vs gs ++ (f (table f vs gs) g ∷ [])
  unfolding table
  table_snoc vs [] g = refl
  table_snoc vs (h ∷ gs) g = table_snoc (vs ++ (f vs h ∷ [])) gs g

  table_length : (vs : List ℕ) (gs : List (List ℕ)) → length (table f vs gs) ≡ length vs + length gs
  unfolding table
  table_length vs [] = omega arith
  table_length vs (g ∷ gs) = omega (arith, table_length (vs ++ (f vs g ∷ [])) gs, length-append vs (f vs g ∷ []))

module _ (inputs : ℕ) (ops counts : List ℕ) where
  -- the weights of the inputs and the first g gates
  abbrev pub weights_to : ℕ → List ℕ
  weights_to g = table (weigh inputs) (replicate inputs 0) (gates_in ops counts g)

  pub weights_length : (g : ℕ) → length (weights_to g) ≡ inputs + g
  weights_length g =
      table_length (weigh inputs) (replicate inputs 0) (gates_in ops counts g) ∙ rw (length-replicate, length-gates)

  pub weights_next : (g : ℕ) → weights_to (suc g) ≡ weights_to g ++ (weigh inputs (weights_to g) (gate_in ops counts g) ∷ [])
  unfolding gates_in
  weights_next g = table_snoc (weigh inputs) (replicate inputs 0) (gates_in ops counts g) (gate_in ops counts g)

  -- a weight that stands in the table stays
  pub weights_stay : (g k s : ℕ) → s < inputs + g → get_or (weights_to (g + k)) s 0 ≡ get_or (weights_to g) s 0
  weights_stay g zero s h = let e : g + 0 ≡ g = omega arith in rw e
  weights_stay g (suc k) s h =
      let e : g + suc k ≡ suc (g + k) = omega arith in
      rw (e, weights_next)
      (get_or-append (weights_to (g + k)) (weigh inputs (weights_to (g + k)) (gate_in ops counts (g + k)) ∷ []) 0 s (omega (arith, weights_length (g + k)))
      ∙ weights_stay g k s h)

  -- the rule's order of the signal s, among so many gates
  abbrev pub order_of : ℕ → ℕ → List ℕ
  order_of gates s = high_to_low (weight_in (weights_to gates)) (gate_operands inputs (get_or (gates_in ops counts gates) (s - inputs) []))

pub rule_order : (n : Netlist) (s : ℕ) → visit_order (netlist_in n) s ≡ order_of n.inputs n.ops n.counts n.gates s
unfolding visit_order netlist_in operands_of weights
rule_order n s = refl

-- ---- a gate has at most four operands, lower than it is

-- a gate of such a netlist stands in its arrays
pub gate_held : (n : Netlist) → Fits n → {g : ℕ} → g < n.gates → (g < 512) × (get_or n.counts g 0 ≤ 4)
gate_held n w {g} h = (omega (arith, w.gates_most, h), w.few g h)

pub few_operands : (n : Netlist) → Fits n → (g : ℕ) → g < n.gates → length (gate_in n.ops n.counts g) ≤ 4
few_operands n w g h = omega (arith, length-gate n.ops n.counts g, w.few g h)

pub operand_low : (n : Netlist) → Fits n → (g o : ℕ) → g < n.gates → mem o (gate_in n.ops n.counts g) ≡ true → o < n.inputs + g
unfolding gate_in
operand_low n w g o h e =
    let r = from_mem n.ops (4 * g) (get_or n.counts g 0) o e in
    rw (← r.2) (w.lower g r.0 h r.1)

-- the gates among a list's members
pub mem-gates : (inputs o : ℕ) (l : List ℕ) → mem o (gate_operands inputs l) ≡ true → (inputs ≤ o) × (mem o l ≡ true)
unfolding gate_operands
mem-gates inputs o l e = let r = keep_mem (leb inputs) l o e in (leb-true inputs o r.1, r.0)

no_gates : (inputs : ℕ) → gate_operands inputs [] ≡ []
unfolding gate_operands keep
no_gates inputs = refl

-- a list with no member is empty
none_in : (l : List ℕ) → ((o : ℕ) → mem o l ≡ true → ⊥) → l ≡ []
none_in [] h = refl
none_in (a ∷ l) h = absurd (h a (cons_self a l))

-- a signal that is no gate has no gate operand
module _ (n : Netlist) (w : Fits n) where
  pub order_input : (s : ℕ) → s < n.inputs → order_of n.inputs n.ops n.counts n.gates s ≡ []
  unfolding high_to_low
  order_input s h =
      let z : s - n.inputs ≡ 0 = omega arith in
      rw (z, go (dec_lt 0 n.gates))
    where
      go : Dec (0 < n.gates) → gate_operands n.inputs (get_or (gates_in n.ops n.counts n.gates) 0 []) ≡ []
      go (yes k) =
          rw (get_or-gates n.ops n.counts n.gates 0 [] k)
          (none_in (gate_operands n.inputs (gate_in n.ops n.counts 0))
          (λ o m. let r = mem-gates n.inputs o (gate_in n.ops n.counts 0) m in omega (arith, r.0, operand_low n w 0 o k r.1)))
      go (no k) = rw (gates_past n.ops n.counts n.gates 0 (omega (arith, k))) (no_gates n.inputs)

  pub order_past : (s : ℕ) → n.inputs + n.gates ≤ s → order_of n.inputs n.ops n.counts n.gates s ≡ []
  unfolding high_to_low gate_operands keep
  order_past s h = rw (gates_past n.ops n.counts n.gates (s - n.inputs) (omega arith))
