-- The loop over the gates: g of them weighed.
-- Assumes nothing.
use Prim.Native.Nat.{ℕ, zero, suc, ◌+◌, ◌-◌, ◌*◌, ◌<◌, ◌≤◌}
use native.Mathlib.Omega.{arith}
use native.Mathlib.Numerals.{add-one}
use native.Mathlib.Decide.{ℕ_discrete, dec_lt}
use mathlib.Core.Path.{◌≡◌, refl, sym, ap, ◌∙◌, fun_ext}
use mathlib.Core.Bool.{true}
use mathlib.Core.List.{List, [], ◌∷◌, ◌++◌}
use lib.ListN.{get_or, length, set, replicate, length-replicate, length-set, get_or-eq_default}
use lib.Seq.{get_or-set_same, get_or-set_other, get_or_at}
use Rattle.rules.specs.Basics.{mem}
use Rattle.rules.specs.Values.{table}
use Rattle.rules.specs.Weight.{high_to_low, gate_operands, weight_in, weight_from, weigh}
use Rattle.netlist.specs.declared.Netlist.{Netlist}
use Rattle.netlist.specs.Flat.{gate_in, gates_in}
use Rattle.netlist.proofs.Arrays.{get_or-gates}
use Rattle.order.specs.Plan.{Fits}
use Rattle.order.specs.Tables.{Light, Visits}
use Rattle.order.proofs.Lists.{replicate-zero}
use Rattle.order.proofs.Members.{sorted_same}
use Rattle.order.proofs.Sorting.{sorted_few}
use Rattle.order.proofs.Weighing.{weights_to, weights_length, weights_next, weights_stay, order_of, order_input, order_past, weight_small, few_operands, operand_low, mem-gates, rule_order}

pub record Weighting (n : Netlist) (wts : List ℕ) (rows : List (List ℕ)) (g : ℕ) : Type 0 where
  pub inside : g ≤ n.gates
  pub wide : length wts ≡ 576
  pub long : length rows ≡ 576
  pub light : Light wts (3 * g)
  pub same : (s : ℕ) → get_or wts s 0 ≡ get_or (weights_to n.inputs n.ops n.counts g) s 0
  pub done : (j : ℕ) → j < g → get_or rows (n.inputs + j) [] ≡ order_of n.inputs n.ops n.counts n.gates (n.inputs + j)
  pub rest : (s : ℕ) → ((j : ℕ) → j < g → s ≡ n.inputs + j → ⊥) → get_or rows s [] ≡ []

pub weighting_start : (n : Netlist) (wts : List ℕ) (rows : List (List ℕ)) → wts ≡ replicate 576 0 → length rows ≡ 576 → ((s : ℕ) → s < 576 → get_or rows s [] ≡ []) → Weighting n wts rows 0
unfolding table gates_in
weighting_start n wts rows e l b =
    let z : (s : ℕ) → get_or wts s 0 ≡ 0 = λ s. rw e (replicate-zero 576 s) in
    record {
      inside = omega arith;
      wide = rw e (length-replicate {A = ℕ} 576 0);
      long = l;
      light = record { all = λ i. omega (arith, z i) };
      same = λ s. z s ∙ sym (replicate-zero n.inputs s);
      done = λ j h. absurd (omega arith);
      rest = λ s h. go s (dec_lt s 576);
    }
  where
    go : (s : ℕ) → Dec (s < 576) → get_or rows s [] ≡ []
    go s (yes h) = b s h
    go s (no h) = get_or-eq_default rows [] (omega (arith, h))

-- one more place of a list, or another
get_or-snoc : (l : List ℕ) (v s : ℕ) → (s ≡ length l → ⊥) → get_or (l ++ (v ∷ [])) s 0 ≡ get_or l s 0
get_or-snoc [] v zero h = absurd (h refl)
get_or-snoc [] v (suc s) h = refl
get_or-snoc (x ∷ l) v zero h = refl
get_or-snoc (x ∷ l) v (suc s) h = get_or-snoc l v s (λ e. h (ap suc e))

set_light : (l : List ℕ) (i v m k : ℕ) → v ≤ m → k ≤ m → Light l k → Light (set l i v) m
set_light l i v m k h t w = record { all = go l i w.all }
  where
    go : (l : List ℕ) (i : ℕ) → ((j : ℕ) → get_or l j 0 ≤ k) → (j : ℕ) → get_or (set l i v) j 0 ≤ m
    go [] i f j = omega arith
    go (x ∷ l) zero f zero = h
    go (x ∷ l) zero f (suc j) = omega (arith, f (suc j))
    go (x ∷ l) (suc i) f zero = omega (arith, f 0)
    go (x ∷ l) (suc i) f (suc j) = go l i (λ n. f (suc n)) j

-- the table after one weight more, beside the rule's
table_turn : (wts t : List ℕ) (p v u : ℕ) → ((s : ℕ) → get_or wts s 0 ≡ get_or t s 0) → length t ≡ p → p < length wts → v ≡ u
    → (s : ℕ) → get_or (set wts p v) s 0 ≡ get_or (t ++ (u ∷ [])) s 0
table_turn wts t p v u same l h e s = go (ℕ_discrete s p)
  where
    go : Dec (s ≡ p) → get_or (set wts p v) s 0 ≡ get_or (t ++ (u ∷ [])) s 0
    go (yes q) = rw q (get_or-set_same wts p v 0 h ∙ e ∙ sym (get_or_at t u [] 0 p l))
    go (no q) = get_or-set_other wts p s v 0 q ∙ same s ∙ sym (get_or-snoc t u s (λ z. q (z ∙ l)))

-- a gate's gate operands, and its weight
module _ (n : Netlist) (w : Fits n) {wts : List ℕ} {rows : List (List ℕ)} {g : ℕ} (v : Weighting n wts rows g) (h : g < n.gates) {f : List ℕ}
    (e : f ≡ high_to_low (weight_in wts) (gate_operands n.inputs (gate_in n.ops n.counts g))) where
  pub few_gates : length f ≤ 4
  few_gates = rw e (omega (arith, sorted_few (weight_in wts) n.inputs (gate_in n.ops n.counts g), few_operands n w g h))

  pub weight_most : weight_from (weight_in wts) f ≤ 3 * g + 3
  weight_most = weight_small (weight_in wts) (3 * g) v.light.all f few_gates

  final : (o : ℕ) → mem o (gate_operands n.inputs (gate_in n.ops n.counts g)) ≡ true → weight_in wts o ≡ weight_in (weights_to n.inputs n.ops n.counts n.gates) o
  final o m =
      let z : g + (n.gates - g) ≡ n.gates = omega arith in
      v.same o ∙ sym (rw z at (weights_stay n.inputs n.ops n.counts g (n.gates - g) o (operand_low n w g o h (mem-gates n.inputs o (gate_in n.ops n.counts g) m).1)))

  pub weighting_turn : {u : ℕ} → u ≡ weight_from (weight_in wts) f → Weighting n (set wts (n.inputs + g) u) (set rows (n.inputs + g) f) (g + 1)
  unfolding weigh
  weighting_turn {u} q = record {
    inside = omega arith;
    wide = length-set wts (n.inputs + g) u ∙ v.wide;
    long = length-set rows (n.inputs + g) f ∙ v.long;
    light = set_light wts (n.inputs + g) u (3 * (g + 1)) (3 * g) (omega (arith, q, weight_most)) (omega arith) v.light;
    same = λ s. rw (add-one g, weights_next n.inputs n.ops n.counts g)
        (table_turn wts (weights_to n.inputs n.ops n.counts g) (n.inputs + g) u _ v.same (weights_length n.inputs n.ops n.counts g) (omega (arith, v.wide, w.inputs_most, w.gates_most)) (rw (q, e, alike)) s);
    done = λ j l. done j (ℕ_discrete j g) (omega arith);
    rest = λ s k. get_or-set_other rows (n.inputs + g) s f [] (λ z. k g (omega arith) z) ∙ v.rest s (λ j l. k j (omega arith));
  }
    where
      alike : weight_in wts ≡ weight_in (weights_to n.inputs n.ops n.counts g)
      alike = fun_ext v.same

      done : (j : ℕ) → Dec (j ≡ g) → j ≤ g → get_or (set rows (n.inputs + g) f) (n.inputs + j) [] ≡ order_of n.inputs n.ops n.counts n.gates (n.inputs + j)
      done j (yes k) l =
          let z : n.inputs + g - n.inputs ≡ g = omega arith in
          rw (k, z, get_or-gates n.ops n.counts n.gates g [] h)
          (get_or-set_same rows (n.inputs + g) f [] (omega (arith, v.long, w.inputs_most, w.gates_most))
          ∙ e ∙ sorted_same (weight_in wts) (weight_in (weights_to n.inputs n.ops n.counts n.gates)) (gate_operands n.inputs (gate_in n.ops n.counts g)) final)
      done j (no k) l = get_or-set_other rows (n.inputs + g) (n.inputs + j) f [] (λ z. k (omega arith)) ∙ v.done j (omega (arith, k))

pub weighting_end : (n : Netlist) → Fits n → {wts : List ℕ} {rows : List (List ℕ)} {g : ℕ} → Weighting n wts rows g → n.gates ≤ g → Visits n rows
weighting_end n w {rows = rows} {g = g} v h = record { same = λ s. go s (dec_lt s n.inputs) (dec_lt s (n.inputs + n.gates)) ∙ sym (rule_order n s) }
  where
    go : (s : ℕ) → Dec (s < n.inputs) → Dec (s < n.inputs + n.gates) → get_or rows s [] ≡ order_of n.inputs n.ops n.counts n.gates s
    go s (yes l) t = v.rest s (λ j k e. omega arith) ∙ sym (order_input n w s l)
    go s (no l) (yes t) =
        let e : s ≡ n.inputs + (s - n.inputs) = omega (arith, l) in
        rw e (v.done (s - n.inputs) (omega (arith, l)))
    go s (no l) (no t) = v.rest s (λ j k e. omega (arith, t, v.inside)) ∙ sym (order_past n w s (omega (arith, t)))
