-- Document 01, "How tight the contracts are": the wrong programs to try, each beside right ones.
-- Assumes nothing.
use Rattle.std.specs.Prelude.{ℕ, zero, suc, List, ◌++◌, drop, replicate}
use Rattle.rules.specs.Form.{form01}
use Rattle.rules.specs.Refusals.{Res, good, refused}
use Rattle.rules.specs.Calls.{map_outcome, evaluate_outcome, check_outcome, simulate_outcome}
use Rattle.claims.specs.Shapes.{MapCall, EvaluateCall, CheckCall, SimulateCall}
use Rattle.claims.specs.Demands.{Product}

abbrev pub with_map : MapCall → Product
with_map f = record { map = f; evaluate = evaluate_outcome; check = check_outcome; simulate = simulate_outcome }

abbrev pub with_evaluate : EvaluateCall → Product
with_evaluate f = record { map = map_outcome; evaluate = f; check = check_outcome; simulate = simulate_outcome }

abbrev pub with_check : CheckCall → Product
with_check f = record { map = map_outcome; evaluate = evaluate_outcome; check = f; simulate = simulate_outcome }

abbrev pub with_simulate : SimulateCall → Product
with_simulate f = record { map = map_outcome; evaluate = evaluate_outcome; check = check_outcome; simulate = f }

-- a mapper answering 9 always
unfoldable pub answers_nine : MapCall
answers_nine row text out = record { answer = refused 9; lent = out }

-- a checker passing all, whatever numbers it passes them with
unfoldable pub passes_all : (List ℕ → List ℕ → ℕ) → CheckCall
passes_all counts netlist sequence = good (counts netlist sequence)

-- a checker refusing all, whatever numbers it refuses them with
unfoldable pub refuses_all : (List ℕ → List ℕ → ℕ) → CheckCall
refuses_all numbers netlist sequence = refused (numbers netlist sequence)

-- an evaluator giving 0: where evaluate gives outputs, each is 0
unfoldable pub zeroed : Res ℕ → List ℕ → List ℕ
zeroed (good n) out = replicate n 0 ++ drop n out
zeroed (refused r) out = out

unfoldable pub gives_zero : EvaluateCall
unfolding zeroed
gives_zero text inputs out = let answer = (evaluate_outcome text inputs out).answer in record { answer = answer; lent = zeroed answer out }

-- a simulator that leaves the row
unfoldable pub leaves_row : SimulateCall
leaves_row text row budget = record { answer = (simulate_outcome text row budget).answer; lent = row }

-- one that does the whole run in cycle one and idles after; no sequence has more instructions than the most
unfoldable pub at_once : SimulateCall
at_once text row zero = simulate_outcome text row 0
at_once text row (suc b) = record { answer = (simulate_outcome text row (suc b)).answer; lent = (simulate_outcome text row form01.instructions_most).lent }

-- one that reports the budget as cycles run
unfoldable pub reported : ℕ → Res ℕ → Res ℕ
reported budget (good n) = good budget
reported budget (refused r) = refused r

unfoldable pub reports_budget : SimulateCall
unfolding reported
reports_budget text row budget =
    record { answer = reported budget (simulate_outcome text row budget).answer; lent = (simulate_outcome text row budget).lent }
