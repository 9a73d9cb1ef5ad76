-- Document 01, "The mapping rule": Order.
-- Assumes nothing.
use Rattle.std.specs.Prelude.{ℕ, zero, suc, not, List, [], ◌∷◌, ◌++◌}
use Rattle.rules.specs.Basics.{pick, mem, keep, each}
use Rattle.rules.specs.Netlist.{Netlist, operands_of, gate_signals, is_read}
use Rattle.rules.specs.Weight.{gate_operands, high_to_low, weight_in, weights}

-- Roots are gates that no gate reads.
unfoldable pub roots : Netlist → List ℕ
unfolding keep is_read gate_signals
roots N = keep (λ s. not (is_read N s)) (gate_signals N)

-- its gate operands from high weight to low, equal weights lower number first
unfoldable pub visit_order : Netlist → ℕ → List ℕ
unfolding high_to_low gate_operands operands_of weights
visit_order N g = high_to_low (weight_in (weights N)) (gate_operands N.inputs (operands_of N g))

-- To visit a gate: if it has been executed, do nothing; else visit its gate operands, then execute it.
-- The first number bounds the depth: operands are lower than their reader, so one more than the gate's number is enough.
unfoldable pub visit : (ℕ → List ℕ) → ℕ → ℕ → List ℕ → List ℕ
unfolding each mem pick
visit ops zero g done = done
visit ops (suc deep) g done = let after = each (λ o d. visit ops deep o d) (ops g) done ++ (g ∷ []) in pick (mem g done) done after

-- Visit the roots, lowest number first.
unfoldable pub order : Netlist → List ℕ
unfolding each visit visit_order roots
order N = each (λ g done. visit (visit_order N) (suc g) g done) (roots N) []
