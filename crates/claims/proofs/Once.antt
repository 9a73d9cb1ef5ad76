-- What runs once is not repeated, and gates that run once, all of them, are as many as there are.
-- Assumes nothing.
use Rattle.std.proofs.Common.{ℕ, ◌≤◌, arith, ◌≡◌, refl, sym, ◌∙◌, true, false, List, [], ◌∷◌, ◌++◌, length}
use Rattle.std.specs.Cmp.{nat_eq_equiv}
use Rattle.std.proofs.lemmas.Map.Made.{length-le_from_is_member}
use Rattle.rules.proofs.Lists.{upto_mem, upto_in, asc_upto, asc_once, length-upto, distinct}
use Rattle.std.proofs.lemmas.Bool.{or_from, false_from_ne_true}
use Rattle.rules.specs.Basics.{mem, repeats, upto}
use Rattle.rules.specs.Netlist.{Netlist}
use Rattle.rules.specs.Order.{visit_order, order}
use Rattle.rules.proofs.Laws.{cons_cases, mem-nil, snoc_more, snoc_self, mem_any}
use Rattle.claims.proofs.Visits.{Runs}
use Rattle.rules.proofs.Reading.{Well}
use Rattle.claims.proofs.Whole.{order_runs, order_gates, order_all}

runs_new : (ops : ℕ → List ℕ) (d l : List ℕ) (x : ℕ) → Runs ops d l → mem x d ≡ true → mem x l ≡ true → ⊥
unfolding Runs
runs_new ops d [] x r e f = mem-nil x f
runs_new ops d (g ∷ l) x r e f =
    cons_cases ⊥ x g l f
    (λ p. let e' : mem g d ≡ true = rw p at e in let k = r.1 in cc)
    (λ p. runs_new ops (d ++ (g ∷ [])) l x r.2 (snoc_more x d g e) p)

pub runs_once : (ops : ℕ → List ℕ) (d l : List ℕ) → Runs ops d l → repeats l ≡ false
unfolding Runs repeats
runs_once ops d [] r = refl
runs_once ops d (g ∷ l) r =
    or_from (mem g l) (repeats l) (false_from_ne_true (mem g l) (runs_new ops (d ++ (g ∷ [])) l g r.2 (snoc_self d g))) (runs_once ops (d ++ (g ∷ [])) l r.2)

-- a list in which no entry stands twice is no longer than one that has all its entries
no_longer : (l m : List ℕ) → repeats l ≡ false → ((x : ℕ) → mem x l ≡ true → mem x m ≡ true) → length l ≤ length m
no_longer l m e h = length-le_from_is_member nat_eq_equiv l m (distinct l e) (λ x f. sym (mem_any x m) ∙ h x (mem_any x l ∙ f))

-- the order has as many entries as there are gates
pub order_length : (N : Netlist) → Well N → length (order N) ≡ length N.gates
order_length N W =
    let signals = upto N.inputs (length N.gates) in
    let few = no_longer (order N) signals (runs_once (visit_order N) [] (order N) (order_runs N W))
    (λ x e. let g = order_gates N W x e in upto_mem N.inputs (length N.gates) x g.0 g.1) in
    let many = no_longer signals (order N) (asc_once signals (asc_upto N.inputs (length N.gates)))
    (λ x e. order_all N W x (upto_in N.inputs (length N.gates) x e)) in
    omega (arith, few, many, length-upto N.inputs (length N.gates))
