-- The checker finds a gate by its operand list: operands ascend, and no two gates have the same.
-- Assumes nothing.
use Rattle.std.proofs.Common.{ℕ, zero, suc, ◌+◌, ◌-◌, ◌<◌, arith, ◌≡◌, refl, ap, ◌∙◌, true, false, List, [], ◌∷◌, ltb, ltb-true, le-leb, get_or, length}
use mathlib.Core.Option.{Option, some}
use Rattle.std.proofs.lemmas.List.Folds.{list_any_at}
use Rattle.std.proofs.lemmas.Bool.{and_parts, or_parts, false_from_ne_true}
use Rattle.rules.specs.Basics.{pick, any, ascending, same_list, insert, sort}
use Rattle.rules.specs.Netlist.{Netlist, operands_of, twins}
use Rattle.rules.specs.Book.{gate_with, gate_on}
use Rattle.rules.proofs.Laws.{same_list_eq, same_list_refl}
use Rattle.rules.proofs.Reading.{Well, Gate, well_gate}

sort_ascending : (l : List ℕ) → ascending l ≡ true → sort l ≡ l
unfolding ascending sort insert pick
sort_ascending [] e = refl
sort_ascending (a ∷ []) e = refl
sort_ascending (a ∷ b ∷ l) e =
    let (p, q) = and_parts (ltb a b) (ascending (b ∷ l)) e in
    let h = ltb-true a b p in
    rw (sort_ascending (b ∷ l) q, le-leb a b (omega arith))

own_gate : (k : ℕ) (gs : List (List ℕ)) → twins gs ≡ false → (j : ℕ) → j < length gs → gate_with (get_or gs j []) k gs ≡ some (k + j)
unfolding twins gate_with pick
own_gate k [] e j h = absurd (omega arith)
own_gate k (g ∷ gs) e zero h = let z : k ≡ k + 0 = omega arith in rw (same_list_refl g) (ap {B = Option ℕ} some z)
own_gate k (g ∷ gs) e (suc j) h =
    let (p, q) = or_parts (any (same_list g) gs) (twins gs) e in
    let z : suc k + j ≡ k + suc j = omega arith in
    rw (other p) (own_gate (suc k) gs q j (omega arith) ∙ ap {B = Option ℕ} some z)
  where
    -- else g's list would stand again behind it
    other : any (same_list g) gs ≡ false → same_list (get_or gs j []) g ≡ false
    other p = false_from_ne_true _ (λ u.
        let w = same_list_eq (get_or gs j []) g u in
        let y = list_any_at (same_list g) gs j [] (omega arith) (rw w (same_list_refl g)) in
        cc)

pub gate_found : (N : Netlist) → Well N → (g : ℕ) → Gate N g → gate_on N (some (operands_of N g)) ≡ some g
unfolding gate_on operands_of
gate_found N W g gate =
    let z : N.inputs + (g - N.inputs) ≡ g = omega arith in
    rw (sort_ascending (operands_of N g) (well_gate N W g gate).rising)
    (own_gate N.inputs N.gates W.single (g - N.inputs) (omega arith) ∙ ap {B = Option ℕ} some z)
