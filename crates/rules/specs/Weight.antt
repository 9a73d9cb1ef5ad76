-- Document 01, "The mapping rule": Weight (000's CU).
-- Assumes nothing.
use Rattle.std.specs.Prelude.{ℕ, suc, ◌+◌, Bool, ◌&&◌, ◌||◌, List, [], ◌∷◌, eqb, ltb, leb, get_or, replicate}
use Rattle.rules.specs.Basics.{pick, larger, keep}
use Rattle.rules.specs.Netlist.{Netlist}
use Rattle.rules.specs.Values.{table}

-- Inputs don't count.
unfoldable pub gate_operands : ℕ → List ℕ → List ℕ
unfolding keep
gate_operands inputs os = keep (leb inputs) os

-- from high weight to low, equal weights lower number first
abbrev pub goes_before : (ℕ → ℕ) → ℕ → ℕ → Bool
goes_before weight a b = ltb (weight b) (weight a) || (eqb (weight a) (weight b) && ltb a b)

unfoldable pub insert_by : (ℕ → ℕ) → ℕ → List ℕ → List ℕ
unfolding pick
insert_by weight a [] = a ∷ []
insert_by weight a (b ∷ l) = pick (goes_before weight a b) (a ∷ b ∷ l) (b ∷ insert_by weight a l)

unfoldable pub high_to_low : (ℕ → ℕ) → List ℕ → List ℕ
unfolding insert_by
high_to_low weight [] = []
high_to_low weight (a ∷ l) = insert_by weight a (high_to_low weight l)

-- add 0, 1, 2, 3 in that order; the largest sum, or the largest so far
unfoldable pub largest_sum : (ℕ → ℕ) → ℕ → ℕ → List ℕ → ℕ
unfolding larger
largest_sum weight k sofar [] = sofar
largest_sum weight k sofar (o ∷ os) = largest_sum weight (suc k) (larger sofar (weight o + k)) os

-- A gate with no gate among its operands weighs 1. Otherwise the largest sum is the weight.
unfoldable pub weight_from : (ℕ → ℕ) → List ℕ → ℕ
unfolding largest_sum
weight_from weight [] = 1
weight_from weight (o ∷ os) = largest_sum weight 0 0 (o ∷ os)

-- a signal's weight in a table of weights
abbrev pub weight_in : List ℕ → ℕ → ℕ
weight_in ws s = get_or ws s 0

unfoldable pub weigh : ℕ → List ℕ → List ℕ → ℕ
unfolding weight_from high_to_low gate_operands
weigh inputs ws os = weight_from (weight_in ws) (high_to_low (weight_in ws) (gate_operands inputs os))

-- the weight of each signal; inputs have none
unfoldable pub weights : Netlist → List ℕ
unfolding table weigh
weights N = table (weigh N.inputs) (replicate N.inputs 0) N.gates
