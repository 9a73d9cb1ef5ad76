-- Demands 2 and 3 as predicates over any map, evaluate, check and simulate.
-- Assumes nothing.
use Rattle.std.specs.Prelude.{ℕ, ◌≡◌, List, take}
use Rattle.rules.specs.Refusals.{good}
use Rattle.rules.specs.Calls.{map_outcome, evaluate_outcome, check_outcome, simulate_outcome}
use Rattle.claims.specs.Shapes.{MapCall, EvaluateCall, CheckCall, SimulateCall}
use Rattle.claims.specs.Defended.{DefendedBy}

-- the four calls, as anyone may have written them
pub record Product : Type 0 where
  pub map : MapCall
  pub evaluate : EvaluateCall
  pub check : CheckCall
  pub simulate : SimulateCall

-- Demand 2: on every input each call does what document 01 says.
pub record Demand2 (P : Product) : Type 0 where
  pub map : (row : ℕ) (text out : List ℕ) → P.map row text out ≡ map_outcome row text out
  pub evaluate : (text inputs out : List ℕ) → P.evaluate text inputs out ≡ evaluate_outcome text inputs out
  pub check : (netlist sequence : List ℕ) → P.check netlist sequence ≡ check_outcome netlist sequence
  pub simulate : (text row : List ℕ) (budget : ℕ) → P.simulate text row budget ≡ simulate_outcome text row budget

-- Every text that the map answers is passed by the check, for its netlist.
abbrev pub MappedPass : Product → Type 0
MappedPass P =
    (row : ℕ) (netlist out : List ℕ) (n : ℕ) → (P.map row netlist out).answer ≡ good n
    → (k : ℕ) × (P.check netlist (take n (P.map row netlist out).lent) ≡ good k)

-- Demand 3: what the check passes, the row does; and what is mapped passes.
pub record Demand3 (P : Product) : Type 0 where
  pub defended : DefendedBy P.check P.simulate P.evaluate
  pub mapped_pass : MappedPass P

-- the calls of document 01
abbrev pub ours : Product
ours = record { map = map_outcome; evaluate = evaluate_outcome; check = check_outcome; simulate = simulate_outcome }
