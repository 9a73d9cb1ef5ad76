-- Document 01, "Values and the device": the values of a netlist.
-- Assumes nothing.
use Rattle.std.specs.Prelude.{ℕ, Bool, ◌&&◌, List, [], ◌∷◌, ◌++◌, map, eqb, leb, get_or, length}
use Rattle.rules.specs.Basics.{pick, all}
use Rattle.rules.specs.Netlist.{Netlist}

-- A gate is 1 when all its operands are 0, else 0. The same for signals of a netlist and for cells of a row.
unfoldable pub nor : List ℕ → List ℕ → ℕ
unfolding pick
nor vs [] = 1
nor vs (o ∷ os) = pick (eqb (get_or vs o 0) 0) (nor vs os) 0

-- a table grown gate by gate: each new entry is worked out from the table so far
unfoldable pub table : {G : Type 0} → (List ℕ → G → ℕ) → List ℕ → List G → List ℕ
table f vs [] = vs
table f vs (g ∷ gs) = table f (vs ++ (f vs g ∷ [])) gs

-- the value of each signal
unfoldable pub values : Netlist → List ℕ → List ℕ
unfolding table nor
values N ins = table nor ins N.gates

-- the outputs in order
unfoldable pub output_values : Netlist → List ℕ → List ℕ
unfolding values
output_values N ins = map (λ o. get_or (values N ins) o 0) N.outputs

-- so many bytes, each 0 or 1 (else 17)
unfoldable pub are_bits : ℕ → List ℕ → Bool
are_bits n bits = eqb (length bits) n && all (λ b. leb b 1) bits
