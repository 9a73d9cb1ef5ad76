-- The order of a well-formed netlist: operands first, each gate once, all gates. Any order among a gate's operands serves.
-- Assumes nothing.
use Rattle.std.proofs.Common.{ℕ, zero, suc, ◌+◌, ◌-◌, ◌<◌, ◌≤◌, arith, ◌≡◌, refl, sym, ◌∙◌, Bool, true, false, not, List, [], ◌∷◌, eqb, leb, leb-true, le-leb, length}
use Rattle.std.proofs.lemmas.List.{get_or_default}
use Rattle.std.proofs.lemmas.List.Folds.{Any-from_list_any}
use Rattle.rules.specs.Basics.{mem, each}
use Rattle.rules.specs.Netlist.{Netlist, operands_of, gate_signals, is_read}
use Rattle.rules.specs.Weight.{gate_operands, goes_before, insert_by, high_to_low, weight_in, weights}
use Rattle.rules.specs.Order.{roots, visit_order, visit, order}
use Rattle.rules.proofs.Laws.{by_pick, mem-nil, or_swap}
use Rattle.rules.proofs.Lists.{keep_mem, mem-keep, upto_mem, upto_in}
use Rattle.claims.proofs.Visits.{Runs, runs_mem, Visited, wider, each_visited, visit_visited}
use Rattle.rules.proofs.Reading.{Well, Gate, well_gate}

abbrev pub gate_operands_of : Netlist → ℕ → List ℕ
gate_operands_of N g = gate_operands N.inputs (operands_of N g)

-- `ops`: the gate operands of each gate, in any order
module _ (N : Netlist) (W : Well N) (ops : ℕ → List ℕ) (same : (g o : ℕ) → mem o (ops g) ≡ mem o (gate_operands_of N g)) where
  operand : (g o : ℕ) → mem o (ops g) ≡ true → (mem o (operands_of N g) ≡ true) × (N.inputs ≤ o)
  unfolding gate_operands
  operand g o e = let z = keep_mem (leb N.inputs) (operands_of N g) o (sym (same g o) ∙ e) in (z.0, leb-true N.inputs o z.1)

  pub visits_operand : (g o : ℕ) → mem o (operands_of N g) ≡ true → N.inputs ≤ o → mem o (ops g) ≡ true
  unfolding gate_operands
  visits_operand g o e h = same g o ∙ mem-keep (leb N.inputs) (operands_of N g) o e (le-leb N.inputs o h)

  low : (g o : ℕ) → Gate N g → mem o (ops g) ≡ true → (o < g) × Gate N o
  low g o k e = let z = operand g o e in let l = (well_gate N W g k).lower o z.0 in (l, omega arith)

  roots_gate : (o : ℕ) → mem o (roots N) ≡ true → Gate N o
  unfolding roots gate_signals
  roots_gate o e = upto_in N.inputs (length N.gates) o (keep_mem (λ s. not (is_read N s)) (gate_signals N) o e).0

  is_root : (x : ℕ) → Gate N x → is_read N x ≡ false → mem x (roots N) ≡ true
  unfolding roots gate_signals
  is_root x g e = mem-keep (λ s. not (is_read N s)) (gate_signals N) x (upto_mem N.inputs (length N.gates) x g.0 g.1) (rw e)

  unfoldable pub order_by : List ℕ
  order_by = each (λ g d. visit ops (suc g) g d) (roots N) []

  visited : Visited ops (Gate N) low (N.inputs + length N.gates) [] order_by × ((o : ℕ) → mem o (roots N) ≡ true → mem o order_by ≡ true)
  unfolding order_by
  visited =
      each_visited ops (Gate N) low (λ g d. visit ops (suc g) g d) (N.inputs + length N.gates) (Gate N)
      (λ o d k. let (u, w) = visit_visited ops (Gate N) low (suc o) o d (omega arith) k in (wider ops (Gate N) low (omega arith) u, w)) (roots N) [] roots_gate

  pub by_runs : Runs ops [] order_by
  unfolding Runs
  by_runs = visited.0.runs tt

  pub by_gates : (x : ℕ) → mem x order_by ≡ true → Gate N x
  by_gates = visited.0.gates (λ x e. absurd (mem-nil x e))

  read_at : (x : ℕ) → is_read N x ≡ true → (r : ℕ) × Gate N r × (mem x (operands_of N r) ≡ true)
  unfolding is_read operands_of
  read_at x e =
      let (j, os, h, is, f) = Any-from_list_any (mem x) N.gates e in
      let z : N.inputs + j - N.inputs ≡ j = omega arith in
      (N.inputs + j, omega arith, rw (z, get_or_default N.gates j [] os h, is) f)

  from_above : (k x : ℕ) → Gate N x → N.inputs + length N.gates ≤ x + k → mem x order_by ≡ true
  from_above zero x g h = absurd (omega arith)
  from_above (suc k) x g h = go (is_read N x) refl (from_above k)
    where
      go : (t : Bool) → is_read N x ≡ t → ((r : ℕ) → Gate N r → N.inputs + length N.gates ≤ r + k → mem r order_by ≡ true) → mem x order_by ≡ true
      go true e rec =
          let (r, gate, f) = read_at x e in
          let b = (well_gate N W r gate).lower x f in
          runs_mem ops [] order_by r x by_runs (rec r gate (omega arith)) (visits_operand r x f g.0)
      go false e rec = visited.1 x (is_root x g e)

  pub by_all : (x : ℕ) → Gate N x → mem x order_by ≡ true
  by_all x g = from_above (N.inputs + length N.gates) x g (omega arith)

-- ---- from high weight to low is such an order

insert_mem : (w : ℕ → ℕ) (a : ℕ) (l : List ℕ) (x : ℕ) → mem x (insert_by w a l) ≡ mem x (a ∷ l)
unfolding insert_by mem
insert_mem w a [] x = refl
insert_mem w a (b ∷ l) x =
    by_pick (λ (k : List ℕ). mem x k ≡ mem x (a ∷ b ∷ l)) (goes_before w a b) (λ _. refl)
    (λ _. rw (insert_mem w a l x) (or_swap (eqb x b) (eqb x a) (mem x l)))

sort_mem : (w : ℕ → ℕ) (l : List ℕ) (x : ℕ) → mem x (high_to_low w l) ≡ mem x l
unfolding high_to_low mem
sort_mem w [] x = refl
sort_mem w (a ∷ l) x = insert_mem w a (high_to_low w l) x ∙ rw (sort_mem w l x)

visit_same : (N : Netlist) (g o : ℕ) → mem o (visit_order N g) ≡ mem o (gate_operands_of N g)
unfolding visit_order
visit_same N g o = sort_mem (weight_in (weights N)) (gate_operands N.inputs (operands_of N g)) o

module _ (N : Netlist) (W : Well N) where
  pub order_runs : Runs (visit_order N) [] (order N)
  unfolding order order_by
  order_runs = by_runs N W (visit_order N) (visit_same N)

  pub order_gates : (x : ℕ) → mem x (order N) ≡ true → Gate N x
  unfolding order order_by
  order_gates = by_gates N W (visit_order N) (visit_same N)

  pub order_all : (x : ℕ) → Gate N x → mem x (order N) ≡ true
  unfolding order order_by
  order_all = by_all N W (visit_order N) (visit_same N)

  pub order_operand : (g o : ℕ) → mem o (operands_of N g) ≡ true → N.inputs ≤ o → mem o (visit_order N g) ≡ true
  order_operand = visits_operand N W (visit_order N) (visit_same N)
