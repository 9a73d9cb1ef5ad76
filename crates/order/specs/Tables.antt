-- What the tables of the order hold: a number for each signal, and each signal's gate operands in the order of visiting.
-- Assumes nothing.
use Rattle.std.specs.Prelude.{ℕ, ◌≤◌, ◌≡◌, List, [], get_or}
use Rattle.rules.specs.Order.{visit_order}
use Rattle.netlist.specs.Flat.{netlist_in}
use Rattle.netlist.specs.declared.Netlist.{Netlist}

-- no entry is over m
pub record Light (l : List ℕ) (m : ℕ) : Type 0 where
  pub all : (i : ℕ) → get_or l i 0 ≤ m

-- the rows are the rule's order of every signal; past the last there is none
pub record Visits (n : Netlist) (rows : List (List ℕ)) : Type 0 where
  pub same : (s : ℕ) → get_or rows s [] ≡ visit_order (netlist_in n) s
