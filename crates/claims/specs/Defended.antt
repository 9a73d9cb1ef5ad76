-- Demand 3, the first half: what the checker passes, the row does.
-- Assumes nothing.
use Rattle.std.specs.Prelude.{ℕ, ◌<◌, ◌≤◌, ◌≡◌, true, false, List, get_or, length, take}
use Rattle.rules.specs.Basics.{any}
use Rattle.rules.specs.Form.{form01}
use Rattle.rules.specs.Refusals.{good}
use Rattle.rules.specs.Netlist.{Netlist, netlist_of}
use Rattle.rules.specs.Sequence.{Sequence, sequence_of}
use Rattle.rules.specs.Values.{are_bits}
use Rattle.rules.specs.Device.{touches}
use Rattle.rules.specs.Calls.{Outcome, check_outcome, simulate_outcome, evaluate_outcome}
use Rattle.claims.specs.Shapes.{EvaluateCall, CheckCall, SimulateCall}

-- One run: `after` is what simulate leaves of `row`, `evaluated out` what evaluate leaves in a lent buffer `out`.
pub record RunsRight (N : Netlist) (S : Sequence) (row : List ℕ) (after : Outcome) (evaluated : List ℕ → Outcome) : Type 0 where
  -- It is not refused, and its cycles are the instruction count.
  pub answers : after.answer ≡ good (length S.instructions)
  -- The row keeps its length.
  pub keeps_length : length after.lent ≡ length row
  -- Every input cell has the value it began with.
  pub keeps_inputs : (c : ℕ) → c < N.inputs → get_or after.lent c 0 ≡ get_or row c 0
  -- Every cell that no instruction sets or writes has the value it began with.
  pub keeps_others : (c : ℕ) → any (touches c) S.instructions ≡ false → get_or after.lent c 0 ≡ get_or row c 0
  -- Evaluate, lent bytes enough, is not refused the inputs that the row began with.
  pub evaluates : (out : List ℕ) → length N.outputs ≤ length out → (evaluated out).answer ≡ good (length N.outputs)
  -- Each output's place is a cell of the row and holds what evaluate gives.
  pub outputs : (out : List ℕ) → length N.outputs ≤ length out → (k : ℕ) → k < length N.outputs
      → (get_or S.places k 0 < length row) × (get_or after.lent (get_or S.places k 0) 0 ≡ get_or (evaluated out).lent k 0)

-- Both texts read, n is the instruction count, and every run that may end does what the netlist says.
pub record Honoured (simulate : SimulateCall) (evaluate : EvaluateCall) (netlist sequence : List ℕ) (n : ℕ) : Type 0 where
  pub N : Netlist
  pub S : Sequence
  pub reads_netlist : netlist_of form01 netlist ≡ good N
  pub reads_sequence : sequence_of form01 sequence ≡ good S
  pub counts : n ≡ length S.instructions
  -- There is one place an output.
  pub places : length S.places ≡ length N.outputs
  -- For every row of the stated length of zeros and ones and every budget that lets the sequence end, the run is right.
  pub runs : (row : List ℕ) (budget : ℕ) → are_bits S.row row ≡ true → n ≤ budget
      → RunsRight N S row (simulate sequence row budget) (evaluate netlist (take N.inputs row))

-- Whatever texts a check passes are honoured.
abbrev pub DefendedBy : CheckCall → SimulateCall → EvaluateCall → Type 0
DefendedBy check simulate evaluate = (netlist sequence : List ℕ) (n : ℕ) → check netlist sequence ≡ good n → Honoured simulate evaluate netlist sequence n

-- What the checker of document 01 passes is honoured by its simulator and its evaluator.
abbrev pub Defended : Type 0
Defended = DefendedBy check_outcome simulate_outcome evaluate_outcome
