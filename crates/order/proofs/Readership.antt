-- Readers counted gate by gate; a signal that nobody reads is the rule's root.
-- Assumes nothing.
use Prim.Native.Nat.{ℕ, zero, suc, ◌+◌, ◌*◌, ◌<◌, ◌≤◌}
use native.Mathlib.Omega.{arith}
use native.Mathlib.Numerals.{add-one}
use mathlib.Core.Path.{◌≡◌, refl, sym, ◌∙◌, subst}
use mathlib.Core.Bool.{Bool, true, false, ◌&&◌, ◌||◌, not}
use mathlib.Core.List.{List, [], ◌∷◌, ◌++◌}
use lib.Dec.{eqb}
use borrow.Author.Tests.{ne_eqb}
use lib.ListN.{get_or, length, replicate, length-replicate}
use Rattle.rules.specs.Basics.{pick, mem, any}
use Rattle.rules.specs.Cells.{served}
use Rattle.rules.proofs.Laws.{snoc_self}
use Rattle.netlist.specs.declared.Netlist.{Netlist}
use Rattle.netlist.specs.Flat.{gate_in, gates_in}
use Rattle.order.specs.Plan.{Fits}
use Rattle.order.specs.Tables.{Light}
use Rattle.order.specs.Wanted.{times, waiting, Placed, CountedUp, Readers}
use Rattle.order.proofs.Marks.{mem-other}
use Rattle.order.proofs.Counting.{times_most}
use Rattle.order.proofs.Weighing.{few_operands, operand_low}
use Rattle.order.proofs.Lists.{replicate-zero}

-- ---- zero or not

pub zero_sum : (a b : ℕ) → eqb (a + b) 0 ≡ (eqb a 0 && eqb b 0)
zero_sum zero b = let e : 0 + b ≡ b = omega arith in rw e
zero_sum (suc a) b = rw (ne_eqb (suc a + b) 0 (λ e. omega arith), ne_eqb (suc a) 0 (λ e. omega arith))

zero_suc : (a : ℕ) → eqb (suc a) 0 ≡ false
zero_suc a = ne_eqb (suc a) 0 (λ e. omega arith)

-- a number that stands nowhere in a list
pub times_none : (s : ℕ) (l : List ℕ) → eqb (times s l) 0 ≡ not (mem s l)
unfolding times mem pick
times_none s [] = refl
times_none s (a ∷ l) = go (eqb s a) (times_none s l)
  where
    go : (b : Bool) → eqb (times s l) 0 ≡ not (mem s l) → eqb (pick b (suc (times s l)) (times s l)) 0 ≡ not (b || mem s l)
    go true e = zero_suc (times s l)
    go false e = e

-- ---- readers that have not been executed

waiting_snoc : (k : ℕ) (gs : List (List ℕ)) (g : List ℕ) (s : ℕ) → waiting [] k (gs ++ (g ∷ [])) s ≡ waiting [] k gs s + times s g
unfolding waiting mem pick
waiting_snoc k [] g s = omega arith
waiting_snoc k (h ∷ gs) g s = omega (arith, waiting_snoc (suc k) gs g s)

-- before any is executed it does not matter where they are counted from
waiting_from : (k m : ℕ) (gs : List (List ℕ)) (s : ℕ) → waiting [] k gs s ≡ waiting [] m gs s
unfolding waiting mem pick
waiting_from k m [] s = refl
waiting_from k m (g ∷ gs) s = rw (waiting_from (suc k) (suc m) gs s)

or_true : (c d : Bool) → d ≡ ((not c || true) && d)
or_true true d = refl
or_true false d = refl

or_nothing : (c d : Bool) → (not c && d) ≡ ((not c || false) && d)
or_nothing true d = refl
or_nothing false d = refl

pub waiting_served : (done : List ℕ) (k : ℕ) (gs : List (List ℕ)) (s : ℕ) → eqb (waiting done k gs s) 0 ≡ served done k gs s
unfolding waiting served pick
waiting_served done k [] s = refl
waiting_served done k (g ∷ gs) s =
    zero_sum (pick (mem k done) 0 (times s g)) (waiting done (suc k) gs s) ∙ rw (waiting_served done (suc k) gs s) (go (mem k done))
  where
    go : (b : Bool) → (eqb (pick b 0 (times s g)) 0 && served done (suc k) gs s) ≡ ((not (mem s g) || b) && served done (suc k) gs s)
    go true = or_true (mem s g) (served done (suc k) gs s)
    go false = rw (times_none s g) (or_nothing (mem s g) (served done (suc k) gs s))

-- no gate reads it
pub waiting_read : (k : ℕ) (gs : List (List ℕ)) (s : ℕ) → eqb (waiting [] k gs s) 0 ≡ not (any (mem s) gs)
unfolding waiting mem pick
waiting_read k [] s = refl
waiting_read k (g ∷ gs) s = zero_sum (times s g) (waiting [] (suc k) gs s) ∙ rw (times_none s g, waiting_read (suc k) gs s) (go (mem s g) (any (mem s) gs))
  where
    go : (a b : Bool) → (not a && not b) ≡ not (a || b)
    go true b = refl
    go false b = refl

-- a signal executed that is no gate from k on changes nothing
waiting_before : (done : List ℕ) (x k : ℕ) (gs : List (List ℕ)) (s : ℕ) → x < k → waiting (done ++ (x ∷ [])) k gs s ≡ waiting done k gs s
unfolding waiting
waiting_before done x k [] s h = refl
waiting_before done x k (g ∷ gs) s h = rw (mem-other x k done (λ e. omega arith), waiting_before done x (suc k) gs s (omega arith))

-- gate j from k on executed: it waits no more
pub waiting_less : (done : List ℕ) (k : ℕ) (gs : List (List ℕ)) (s j : ℕ) → j < length gs → mem (k + j) done ≡ false
    → waiting done k gs s ≡ waiting (done ++ ((k + j) ∷ [])) k gs s + times s (get_or gs j [])
unfolding waiting pick
waiting_less done k [] s j h e = absurd (omega arith)
waiting_less done k (g ∷ gs) s zero h e =
    let z : k + 0 ≡ k = omega arith in
    let f : mem k done ≡ false = rw z at e in
    let here : waiting done k (g ∷ gs) s ≡ waiting (done ++ (k ∷ [])) k (g ∷ gs) s + times s g =
    rw (snoc_self done k, waiting_before done k (suc k) gs s (omega arith), f) (omega arith) in
    subst (λ (x : ℕ). waiting done k (g ∷ gs) s ≡ waiting (done ++ (x ∷ [])) k (g ∷ gs) s + times s g) (sym z) here
waiting_less done k (g ∷ gs) s (suc j) h e =
    let z : k + suc j ≡ suc k + j = omega arith in
    let later : waiting done k (g ∷ gs) s ≡ waiting (done ++ ((suc k + j) ∷ [])) k (g ∷ gs) s + times s (get_or gs j []) =
    rw (mem-other (suc k + j) k done (λ q. omega arith)) (omega (arith, waiting_less done (suc k) gs s j (omega arith) (rw z at e))) in
    subst (λ (x : ℕ). waiting done k (g ∷ gs) s ≡ waiting (done ++ (x ∷ [])) k (g ∷ gs) s + times s (get_or gs j [])) (sym z) later

-- ---- the loop over the gates

pub record Reading (ops counts left : List ℕ) (gates g : ℕ) : Type 0 where
  pub inside : g ≤ gates
  pub wide : length left ≡ 576
  pub light : Light left (4 * g)
  pub is : (s : ℕ) → get_or left s 0 ≡ waiting [] 0 (gates_in ops counts g) s

pub reading_start : {ops counts left : List ℕ} {gates : ℕ} → left ≡ replicate 576 0 → Reading ops counts left gates 0
unfolding waiting gates_in
reading_start {left = left} e =
    let b : (i : ℕ) → get_or left i 0 ≡ 0 = λ i. rw e (replicate-zero 576 i) in
    record { inside = omega arith; wide = rw e (length-replicate {A = ℕ} 576 0); light = record { all = λ i. omega (arith, b i) }; is = b }

pub reading_light : (n : Netlist) → Fits n → {left : List ℕ} {g : ℕ} → Reading n.ops n.counts left n.gates g → Light left 4000
reading_light n w r = record { all = λ i. omega (arith, r.light.all i, r.inside, w.gates_most) }

-- a gate's operands are signals
pub operands_placed : (n : Netlist) → Fits n → (g : ℕ) → g < n.gates → (left : List ℕ) → n.inputs + n.gates ≤ length left → Placed (gate_in n.ops n.counts g) left
operands_placed n w g h left l = record { inside = λ o m. omega (arith, operand_low n w g o h m, l) }

module _ (n : Netlist) (w : Fits n) {left : List ℕ} {g : ℕ} (r : Reading n.ops n.counts left n.gates g) (h : g < n.gates) where
  pub reading_turn : {left' : List ℕ} → CountedUp (gate_in n.ops n.counts g) left left' → Reading n.ops n.counts left' n.gates (g + 1)
  unfolding gates_in
  reading_turn c = record {
    inside = omega arith;
    wide = c.wide ∙ r.wide;
    light = record { all = λ i. omega (arith, c.is i, r.light.all i, times_most i (gate_in n.ops n.counts g), few_operands n w g h) };
    is = λ s. c.is s ∙ rw (add-one g, waiting_snoc 0 (gates_in n.ops n.counts g) (gate_in n.ops n.counts g) s, r.is s);
  }

pub reading_end : (n : Netlist) → {left : List ℕ} {g : ℕ} → Reading n.ops n.counts left n.gates g → n.gates ≤ g → Readers n left
reading_end n {g = g} r h = let e : g ≡ n.gates = omega (arith, r.inside) in record { is = λ s. rw (← e) (r.is s ∙ waiting_from 0 n.inputs (gates_in n.ops n.counts g) s) }
