-- The whole order: what the code visits is the rule's order, and that has each gate at most once.
-- Assumes nothing.
use Prim.Native.Nat.{ℕ, zero, suc, ◌+◌, ◌-◌, ◌<◌, ◌≤◌}
use native.Mathlib.Omega.{arith}
use native.Mathlib.Decide.{dec_lt}
use mathlib.Core.Path.{◌≡◌, refl, ap, ◌∙◌, fun_ext}
use mathlib.Core.Bool.{Bool, true, false, not}
use mathlib.Core.List.{List, [], ◌∷◌, ◌++◌}
use lib.Dec.{eqb}
use lib.ListN.{get_or, length, take, replicate, length-append, get_or-append}
use lib.Seq.{get_or_at, take-append-le, take_at}
use Rattle.rules.specs.Basics.{pick, mem, keep, each, upto}
use Rattle.rules.specs.Netlist.{is_read, gate_signals}
use Rattle.rules.specs.Weight.{gate_operands, weight_in}
use Rattle.rules.specs.Order.{visit, visit_order, roots, order}
use Rattle.rules.proofs.Laws.{mem-nil, cons_self, cons_more}
use Rattle.rules.proofs.Lists.{keep_mem, upto_in}
use Rattle.netlist.specs.declared.Netlist.{Netlist}
use Rattle.netlist.specs.Flat.{from, gates_in, netlist_in}
use Rattle.order.specs.Tables.{Visits}
use Rattle.order.specs.Visit.{ops_in, Lower, Listed, Steps, unread, order_from}
use Rattle.order.specs.Wanted.{times, Placed, CountedUp, Readers}
use Rattle.netlist.proofs.Arrays.{length-gates, get_or-gates, from_mem}
use Rattle.order.specs.Plan.{Fits, is_flat, order_in, wanted_in, Planned}
use Rattle.order.proofs.Lists.{gates_past, replicate-zero}
use Rattle.order.proofs.Weighing.{mem-gates, operand_low, weights_to, rule_order}
use Rattle.order.proofs.Members.{mem-sorted}
use Rattle.order.proofs.Walking.{keeps_higher, each_keeps}
use Rattle.order.proofs.Readership.{waiting_read}

-- ---- the rule's gate operands are gates, lower than their reader

module _ (n : Netlist) (w : Fits n) where
  pub visits_gate : (s o : ℕ) → mem o (visit_order (netlist_in n) s) ≡ true → (n.inputs ≤ o) × (o < s)
  visits_gate s o m =
      let p = mem-gates n.inputs o (get_or (gates_in n.ops n.counts n.gates) (s - n.inputs) [])
      (mem-sorted (weight_in (weights_to n.inputs n.ops n.counts n.gates)) o (gate_operands n.inputs (get_or (gates_in n.ops n.counts n.gates) (s - n.inputs) [])) (rw (rule_order n s) at m)) in
      go (dec_lt (s - n.inputs) n.gates) p.0 p.1
    where
      go : Dec (s - n.inputs < n.gates) → n.inputs ≤ o → mem o (get_or (gates_in n.ops n.counts n.gates) (s - n.inputs) []) ≡ true → (n.inputs ≤ o) × (o < s)
      go (yes h) l q =
          let k = operand_low n w (s - n.inputs) o h (rw (get_or-gates n.ops n.counts n.gates (s - n.inputs) [] h) at q) in
          (l, omega arith)
      go (no h) l q = absurd (mem-nil o (rw (gates_past n.ops n.counts n.gates (s - n.inputs) (omega (arith, h))) at q))

  pub visits_lower : Lower (visit_order (netlist_in n))
  visits_lower = record { low = λ s o m. (visits_gate s o m).1 }

-- ---- each gate at most once

steps_none : (first end : ℕ) → Steps first end []
steps_none first end = record { once = λ i h. absurd (omega arith); low = λ i h. absurd (omega arith); high = λ i h. absurd (omega arith) }

module _ {first end : ℕ} where
  steps_snoc : (d : List ℕ) (s : ℕ) → Steps first end d → mem s d ≡ false → first ≤ s → s < end → Steps first end (d ++ (s ∷ []))
  steps_snoc d s w e l h = record { once = λ i k. once i (part i k); low = λ i k. low i (part i k); high = λ i k. high i (part i k) }
    where
      last : get_or (d ++ (s ∷ [])) (length d) 0 ≡ s
      last = get_or_at d s [] 0 (length d) refl

      part : (i : ℕ) → i < length (d ++ (s ∷ [])) → Dec (i < length d) × (i ≤ length d)
      part i k = (dec_lt i (length d), omega (arith, length-append d (s ∷ [])))

      old : (i : ℕ) → i < length d → get_or (d ++ (s ∷ [])) i 0 ≡ get_or d i 0
      old i k = get_or-append d (s ∷ []) 0 i k

      once : (i : ℕ) → Dec (i < length d) × (i ≤ length d) → mem (get_or (d ++ (s ∷ [])) i 0) (take i (d ++ (s ∷ []))) ≡ false
      once i p = go p.0
        where
          go : Dec (i < length d) → mem (get_or (d ++ (s ∷ [])) i 0) (take i (d ++ (s ∷ []))) ≡ false
          go (yes k) = rw (old i k, take-append-le i d (s ∷ []) p.1) (w.once i k)
          go (no k) = let z : i ≡ length d = omega (arith, p.1, k) in rw (z, last, take_at d (s ∷ []) (length d) refl) e

      low : (i : ℕ) → Dec (i < length d) × (i ≤ length d) → first ≤ get_or (d ++ (s ∷ [])) i 0
      low i p = go p.0
        where
          go : Dec (i < length d) → first ≤ get_or (d ++ (s ∷ [])) i 0
          go (yes k) = rw (old i k) (w.low i k)
          go (no k) = let z : i ≡ length d = omega (arith, p.1, k) in rw (z, last) l

      high : (i : ℕ) → Dec (i < length d) × (i ≤ length d) → get_or (d ++ (s ∷ [])) i 0 < end
      high i p = go p.0
        where
          go : Dec (i < length d) → get_or (d ++ (s ∷ [])) i 0 < end
          go (yes k) = rw (old i k) (w.high i k)
          go (no k) = let z : i ≡ length d = omega (arith, p.1, k) in rw (z, last) h

  steps_each : (f : ℕ → List ℕ → List ℕ) (os : List ℕ) → ((o : ℕ) → mem o os ≡ true → (d : List ℕ) → Steps first end d → Steps first end (f o d))
      → (d : List ℕ) → Steps first end d → Steps first end (each f os d)
  unfolding each
  steps_each f [] h d w = w
  steps_each f (o ∷ os) h d w = steps_each f os (λ x m. h x (cons_more x o os m)) (f o d) (h o (cons_self o os) d w)

  steps_visit : (ops : ℕ → List ℕ) → Lower ops → ((s o : ℕ) → mem o (ops s) ≡ true → first ≤ o) → (a s : ℕ) (d : List ℕ) → first ≤ s → s < end → Steps first end d
      → Steps first end (visit ops a s d)
  unfolding visit pick
  steps_visit ops u l zero s d p q w = w
  steps_visit ops u l (suc a) s d p q w =
      go (mem s d) refl
      (steps_each (λ o e. visit ops a o e) (ops s) (λ o m e v. let z = u.low s o m in steps_visit ops u l a o e (l s o m) (omega arith) v) d w)
      (each_keeps (λ o e. visit ops a o e) s (ops s) (λ o m e. keeps_higher ops u a s o e (u.low s o m)) d)
    where
      go : (b : Bool) → mem s d ≡ b → Steps first end (each (λ o e. visit ops a o e) (ops s) d) → mem s (each (λ o e. visit ops a o e) (ops s) d) ≡ mem s d
          → Steps first end (pick b d (each (λ o e. visit ops a o e) (ops s) d ++ (s ∷ [])))
      go true e v k = w
      go false e v k = steps_snoc (each (λ o x. visit ops a o x) (ops s) d) s v (k ∙ e) p q

pub order_steps : (n : Netlist) → Fits n → Steps n.inputs (n.inputs + n.gates) (order (netlist_in n))
unfolding order roots gate_signals netlist_in
order_steps n w =
    steps_each (λ g d. visit (visit_order (netlist_in n)) (suc g) g d) (roots (netlist_in n))
    (λ s m d v.
    let r = upto_in n.inputs (length (gates_in n.ops n.counts n.gates)) s (keep_mem (λ x. not (is_read (netlist_in n) x)) (gate_signals (netlist_in n)) s m).0 in
    steps_visit (visit_order (netlist_in n)) (visits_lower n w) (λ x o q. (visits_gate n w x o q).0) (suc s) s d r.0 (omega (arith, r.1, length-gates n.ops n.counts n.gates)) v)
    [] (steps_none n.inputs (n.inputs + n.gates))

-- ---- what the code visits

module _ (n : Netlist) {rows : List (List ℕ)} (v : Visits n rows) where
  same_ops : ops_in rows ≡ visit_order (netlist_in n)
  same_ops = fun_ext v.same

  pub rows_lower : Fits n → Lower (ops_in rows)
  rows_lower w = rw same_ops (visits_lower n w)

  pub in_order : {left : List ℕ} → Readers n left → order_from (ops_in rows) left n.inputs (n.inputs + n.gates - n.inputs) [] ≡ order (netlist_in n)
  unfolding order_from order roots gate_signals is_read netlist_in
  in_order {left} u =
      let e : n.inputs + n.gates - n.inputs ≡ length (gates_in n.ops n.counts n.gates) = omega (arith, length-gates n.ops n.counts n.gates) in
      let q : unread left ≡ (λ s. not (is_read (netlist_in n) s)) =
      fun_ext (λ s. ap (λ x. eqb x 0) (u.is s) ∙ waiting_read n.inputs (gates_in n.ops n.counts n.gates) s) in
      ap (λ (ops : ℕ → List ℕ). each (λ g d. visit ops (suc g) g d) (keep (unread left) (upto n.inputs (n.inputs + n.gates - n.inputs))) []) same_ops
      ∙ ap (λ (p : ℕ → Bool). each (λ g d. visit (visit_order (netlist_in n)) (suc g) g d) (keep p (upto n.inputs (n.inputs + n.gates - n.inputs))) []) q
      ∙ ap (λ (k : ℕ). each (λ g d. visit (visit_order (netlist_in n)) (suc g) g d) (keep (λ s. not (is_read (netlist_in n) s)) (upto n.inputs k)) []) e

-- ---- the whole plan

-- past the limits there is nothing
pub plan_none : (n : Netlist) → is_flat n ≡ false → Planned n (record { count = 0; seq = replicate 576 0; left = replicate 576 0 })
unfolding order_in wanted_in pick
plan_none n e = record { fits = omega arith; order = rw e; behind = λ i _. replicate-zero 576 i; wanted = λ s. rw e (replicate-zero 576 s) }

-- the outputs are wanted too
pub plan_some : (n : Netlist) {d seq left left' : List ℕ} {r : ℕ} → is_flat n ≡ true → d ≡ order (netlist_in n) → Listed d r seq → Readers n left
    → CountedUp (from n.outs 0 n.outputs) left left' → Planned n (record { count = r; seq = seq; left = left' })
unfolding order_in wanted_in pick
plan_some n e o l w c = record {
  fits = l.fits;
  order = rw e (l.is ∙ o);
  behind = l.behind;
  wanted = λ s. rw e (c.is s ∙ ap (λ k. k + times s (from n.outs 0 n.outputs)) (w.is s));
}

-- the outputs are signals
pub outputs_placed : (n : Netlist) → Fits n → (k : ℕ) → k ≤ n.outputs → {left : List ℕ} → length left ≡ 576 → Placed (from n.outs 0 k) left
outputs_placed n w k h l = record {
  inside = λ o m.
      let r = from_mem n.outs 0 k o m in
      let z : 0 + r.0 ≡ r.0 = omega arith in
      let low : o < n.inputs + n.gates = rw (← r.2, z) (w.outputs_low r.0 (omega (arith, r.1))) in
      omega (arith, low, l, w.inputs_most, w.gates_most);
}
