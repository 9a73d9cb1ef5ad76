-- The netlist that flat arrays stand for, and what a reading says.
-- Assumes nothing.
use Rattle.std.specs.Prelude.{ℕ, zero, suc, ◌+◌, ◌*◌, Bool, ◌||◌, List, [], ◌∷◌, ◌++◌, get_or, drop, Result}
use Rattle.rules.specs.Basics.{repeats}
use Rattle.rules.specs.declared.Refusal.{Refusal}
use Rattle.rules.specs.Form.{form01}
use Rattle.rules.specs.Refusals.{Res, good, ◌>>=◌, meaning_by}
use Rattle.rules.specs.Netlist as rules
use Rattle.rules.specs.Netlist.{Part, netlist_lines, well_formed, twins}
use Rattle.netlist.specs.declared.Netlist.{Netlist}
use Rattle.netlist.specs.declared.Front.{Front}

-- n numbers from a place on
unfoldable pub from : List ℕ → ℕ → ℕ → List ℕ
from l at zero = []
from l at (suc n) = get_or l at 0 ∷ from l (at + 1) n

-- the operands of gate g; the first n gates
unfoldable pub gate_in : List ℕ → List ℕ → ℕ → List ℕ
unfolding from
gate_in ops counts g = from ops (4 * g) (get_or counts g 0)

unfoldable pub gates_in : List ℕ → List ℕ → ℕ → List (List ℕ)
unfolding gate_in
gates_in ops counts zero = []
gates_in ops counts (suc n) = gates_in ops counts n ++ (gate_in ops counts n ∷ [])

-- the netlist that the arrays stand for
unfoldable pub netlist_in : Netlist → rules.Netlist
unfolding gates_in from
netlist_in n = record { inputs = n.inputs; gates = gates_in n.ops n.counts n.gates; outputs = from n.outs 0 n.outputs }

-- what a reading says: the netlist, or the refusal
abbrev pub reading_of : Result Netlist Refusal → Res rules.Netlist
reading_of r = meaning_by netlist_in r

-- the netlist with the text after its last output line, or the refusal
abbrev pub part_of : List ℕ → Result Front Refusal → Res (Part rules.Netlist)
part_of text r = meaning_by (λ f. record { got = netlist_in f.netlist; tail = drop f.tail text }) r

-- what 6 and 7 say of a netlist
abbrev pub formed_of : Netlist → Result (Unit {0}) Refusal → Res rules.Netlist
formed_of n r = meaning_by (λ _. netlist_in n) r

-- the netlist that a text begins with, and the text after it: its lines, then 6, then 7
unfoldable pub front_of : List ℕ → Res (Part rules.Netlist)
unfolding netlist_lines well_formed ◌>>=◌
front_of text = do
  p ← netlist_lines form01 text
  N ← well_formed p.got
  good (record { got = N; tail = p.tail })

-- twin gates or twin outputs
unfoldable pub any_twins : rules.Netlist → Bool
unfolding twins repeats
any_twins N = twins N.gates || repeats N.outputs
