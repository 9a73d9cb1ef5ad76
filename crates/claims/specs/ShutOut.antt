-- Document 01: demand 2 shuts out each wrong program; demand 3 also shuts out both checkers and the idle simulator.
-- Assumes nothing.
use Rattle.std.specs.Prelude.{ℕ, List}
use Rattle.claims.specs.Demands.{Demand2, Demand3, ours}
use Rattle.claims.specs.Wrong.{with_map, with_evaluate, with_check, with_simulate, answers_nine, passes_all, refuses_all, gives_zero, leaves_row, at_once, reports_budget}

-- What document 01 says meets both.
pub record OursMeet : Type 0 where
  pub demand2 : Demand2 ours
  pub demand3 : Demand3 ours

-- Demand 2 shuts out each.
pub record ShutOutBy2 : Type 0 where
  pub answers-nine : ¬ Demand2 (with_map answers_nine)
  pub passes-all : (counts : List ℕ → List ℕ → ℕ) → ¬ Demand2 (with_check (passes_all counts))
  pub refuses-all : (numbers : List ℕ → List ℕ → ℕ) → ¬ Demand2 (with_check (refuses_all numbers))
  pub gives-zero : ¬ Demand2 (with_evaluate gives_zero)
  pub leaves-row : ¬ Demand2 (with_simulate leaves_row)
  pub at-once : ¬ Demand2 (with_simulate at_once)
  pub reports-budget : ¬ Demand2 (with_simulate reports_budget)

-- Demand 3 by itself shuts out both checkers and the simulator that leaves the row; the first and the last are not defended, the second passes nothing mapped.
pub record ShutOutBy3 : Type 0 where
  pub passes-all : (counts : List ℕ → List ℕ → ℕ) → ¬ Demand3 (with_check (passes_all counts))
  pub refuses-all : (numbers : List ℕ → List ℕ → ℕ) → ¬ Demand3 (with_check (refuses_all numbers))
  pub leaves-row : ¬ Demand3 (with_simulate leaves_row)

pub record ShutOut : Type 0 where
  pub by2 : ShutOutBy2
  pub by3 : ShutOutBy3
