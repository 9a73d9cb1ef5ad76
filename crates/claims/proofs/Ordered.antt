-- What a true order gives to whoever executes gates along it.
-- Assumes nothing.
use Rattle.std.proofs.Common.{ℕ, ◌≡◌, refl, sym, ◌∙◌, true, false, List, [], ◌∷◌, ◌++◌, append_assoc, leb, leb-true, length}
use Rattle.std.proofs.lemmas.Bool.{or_parts, or_right, false_from_ne_true}
use Rattle.rules.specs.Basics.{mem, repeats}
use Rattle.rules.specs.Netlist.{Netlist, operands_of, gate_signals}
use Rattle.rules.specs.Weight.{gate_operands}
use Rattle.rules.proofs.Laws.{cons_cases, cons_self, mem-append, mem-nil}
use Rattle.claims.specs.TrueOrder.{TrueOrder}
use Rattle.rules.proofs.Lists.{keep_mem, upto_mem, upto_in}
use Rattle.claims.proofs.Visits.{Runs}
use Rattle.rules.proofs.Reading.{Gate}
use Rattle.claims.proofs.Whole.{gate_operands_of}

-- what stands in a list without repetition does not stand before itself
first_time : (d : List ℕ) (g : ℕ) (l : List ℕ) → repeats (d ++ (g ∷ l)) ≡ false → mem g d ≡ true → ⊥
unfolding repeats
first_time [] g l e m = mem-nil g m
first_time (x ∷ d) g l e m =
    let (p, q) = or_parts (mem x (d ++ (g ∷ l))) (repeats (d ++ (g ∷ l))) e in
    cons_cases ⊥ g x d m
    (λ z. let h : mem x (d ++ (g ∷ l)) ≡ true = rw (← z) (mem-append g d (g ∷ l) ∙ or_right (mem g d) (mem g (g ∷ l)) (cons_self g l)) in cc)
    (λ z. first_time d g l q z)

module _ (N : Netlist) (gs : List ℕ) (T : TrueOrder N gs) where
  runs_from : (d l : List ℕ) → gs ≡ d ++ l → Runs (gate_operands_of N) d l
  unfolding Runs gate_operands
  runs_from d [] e = tt
  runs_from d (g ∷ l) e = (
    λ o m. let (u, v) = keep_mem (leb N.inputs) (operands_of N g) o m in T.operands_first d l g o e u (leb-true N.inputs o v),
    false_from_ne_true (mem g d) (first_time d g l (rw e at T.once)),
    runs_from (d ++ (g ∷ [])) l (e ∙ sym (append_assoc d (g ∷ []) l)),
  )

  pub true_runs : Runs (gate_operands_of N) [] gs
  true_runs = runs_from [] gs refl

  pub true_gates : (x : ℕ) → mem x gs ≡ true → Gate N x
  unfolding gate_signals
  true_gates x e = upto_in N.inputs (length N.gates) x (sym (T.the_gates x) ∙ e)

  pub true_all : (x : ℕ) → Gate N x → mem x gs ≡ true
  unfolding gate_signals
  true_all x g = T.the_gates x ∙ upto_mem N.inputs (length N.gates) x g.0 g.1
