-- What the four calls take and give, whoever wrote them.
-- Assumes nothing.
use Rattle.std.specs.Prelude.{ℕ, List}
use Rattle.rules.specs.Refusals.{Res}
use Rattle.rules.specs.Calls.{Outcome}

-- map(row size, netlist, out)
abbrev pub MapCall : Type 0
MapCall = ℕ → List ℕ → List ℕ → Outcome

-- evaluate(netlist, inputs, out)
abbrev pub EvaluateCall : Type 0
EvaluateCall = List ℕ → List ℕ → List ℕ → Outcome

-- check(netlist, sequence)
abbrev pub CheckCall : Type 0
CheckCall = List ℕ → List ℕ → Res ℕ

-- simulate(sequence, row, budget)
abbrev pub SimulateCall : Type 0
SimulateCall = List ℕ → List ℕ → ℕ → Outcome
