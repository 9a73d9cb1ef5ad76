-- Who still wants a signal: its readers that have not been executed, and the outputs.
-- Assumes nothing.
use Rattle.std.specs.Prelude.{ℕ, suc, ◌+◌, ◌<◌, ◌≡◌, true, List, [], ◌∷◌, eqb, get_or, length}
use Rattle.rules.specs.Basics.{pick, mem}
use Rattle.netlist.specs.declared.Netlist.{Netlist}
use Rattle.netlist.specs.Flat.{gates_in}

-- how often a number stands in a list
unfoldable pub times : ℕ → List ℕ → ℕ
unfolding pick
times s [] = 0
times s (a ∷ l) = pick (eqb s a) (suc (times s l)) (times s l)

-- how often gates, counted from k, that have not been executed read signal s
unfoldable pub waiting : List ℕ → ℕ → List (List ℕ) → ℕ → ℕ
unfolding pick mem times
waiting done k [] s = 0
waiting done k (g ∷ gs) s = pick (mem k done) 0 (times s g) + waiting done (suc k) gs s

-- every member has a place
pub record Placed (os : List ℕ) (left : List ℕ) : Type 0 where
  pub inside : (o : ℕ) → mem o os ≡ true → o < length left

pub record CountedUp (os left left' : List ℕ) : Type 0 where
  pub wide : length left' ≡ length left
  pub is : (s : ℕ) → get_or left' s 0 ≡ get_or left s 0 + times s os

-- each signal's readers are counted
pub record Readers (n : Netlist) (left : List ℕ) : Type 0 where
  pub is : (s : ℕ) → get_or left s 0 ≡ waiting [] n.inputs (gates_in n.ops n.counts n.gates) s
