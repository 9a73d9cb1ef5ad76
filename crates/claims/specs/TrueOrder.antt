-- The order in which the mapping rule executes gates is a true order.
-- Assumes nothing.
use Rattle.std.specs.Prelude.{ℕ, ◌≤◌, ◌≡◌, true, false, List, ◌∷◌, ◌++◌, length}
use Rattle.rules.specs.Basics.{mem, repeats}
use Rattle.rules.specs.Form.{form01}
use Rattle.rules.specs.Refusals.{good}
use Rattle.rules.specs.Netlist.{Netlist, operands_of, gate_signals, netlist_of}
use Rattle.rules.specs.Order.{order}

-- a list of signals has each gate of a netlist exactly once, and each behind its gate operands
pub record TrueOrder (N : Netlist) (gs : List ℕ) : Type 0 where
  pub once : repeats gs ≡ false
  pub as_many : length gs ≡ length N.gates
  pub the_gates : (s : ℕ) → mem s gs ≡ mem s (gate_signals N)
  pub operands_first : (before after : List ℕ) (g o : ℕ) → gs ≡ before ++ (g ∷ after) → mem o (operands_of N g) ≡ true → N.inputs ≤ o → mem o before ≡ true

-- the order of every netlist that reads well is such a list
abbrev pub OrderIsTrue : Type 0
OrderIsTrue = (text : List ℕ) (N : Netlist) → netlist_of form01 text ≡ good N → TrueOrder N (order N)
