-- What the steps of the reader answer, in terms of document 01's rules for lines.
-- Assumes nothing.
use Rattle.std.specs.Prelude.{ℕ, ◌+◌, ◌*◌, ◌≤◌, List, [], length, drop, Result}
use Rattle.rules.specs.declared.Refusal.{Refusal}
use Rattle.rules.specs.Basics.{within}
use Rattle.rules.specs.Form.{form01, two}
use Rattle.rules.specs.Refusals.{Res, good, ◌>>=◌, ◌>>◌, require, or_refuse, meaning_by}
use Rattle.rules.specs.Lines.{line, numbers}
use Rattle.rules.specs.Netlist as rules
use Rattle.rules.specs.Netlist.{Part, due, head_of, gate_of, output_of, lines}
use Rattle.netlist.specs.declared.Netlist.{Netlist}
use Rattle.netlist.specs.declared.line.Head.{Head}

-- one line by a rule: what it gives, and the text after it
unfoldable pub line_by : {A : Type 0} → (List ℕ → Res A) → List ℕ → Res (Part A)
unfolding line ◌>>=◌
line_by rule text = do
  l ← line form01 text
  a ← rule l.bytes
  good (record { got = a; tail = l.rest })

-- what a step answers: what was got, with the text from a place on, or the refusal
abbrev pub part : {A B : Type 0} → List ℕ → (A → B) → (A → ℕ) → Result A Refusal → Res (Part B)
part text got place r = meaning_by (λ a. record { got = got a; tail = drop (place a) text }) r

-- ---- the head

abbrev pub head_in : Head → rules.Head
head_in h = record { inputs = h.inputs; gates = h.gates; outputs = h.outputs }

abbrev pub head_line : List ℕ → Res (Part rules.Head)
head_line text = line_by (head_of form01) text

-- a head's numbers are within the limits, and its line stands inside the text
abbrev pub HeadFits : List ℕ → Head → Type 0
HeadFits text h = (h.inputs ≤ 64) × (h.gates ≤ 512) × (h.outputs ≤ 64) × (11 ≤ length text)

-- ---- a gate

-- the operands that a gate's line names, before 4 and 5 are asked
unfoldable pub operands_in : List ℕ → Res (List ℕ)
unfolding due numbers ◌>>=◌ ◌>>◌ require or_refuse
operands_in bytes = do
  l ← due form01.gate_kind bytes
  os ← or_refuse 2 (numbers two l)
  require (within 1 4 (length os)) 2
  good os

abbrev pub operands_line : List ℕ → ℕ → Res (Part (List ℕ))
operands_line text at = line_by operands_in (drop at text)

-- by the signal that the gate is
abbrev pub gate_line : List ℕ → ℕ → ℕ → Res (Part (List ℕ))
gate_line text at own = line_by (gate_of form01 own) (drop at text)

-- k operands stand inside the text, with the line feed behind them
abbrev pub OperandsFit : List ℕ → ℕ → ℕ → Type 0
OperandsFit text at k = (1 ≤ k) × (k ≤ 4) × (at + 4 * k + 3 ≤ length text)

-- ---- an output

-- a netlist's numbers are within the limits
abbrev pub Sized : Netlist → Type 0
Sized n = (n.inputs ≤ 64) × (n.gates ≤ 512) × (n.outputs ≤ 64)

abbrev pub head_from : Netlist → rules.Head
head_from n = record { inputs = n.inputs; gates = n.gates; outputs = n.outputs }

abbrev pub output_line : List ℕ → ℕ → Netlist → Res (Part ℕ)
output_line text at n = line_by (output_of form01 (head_from n)) (drop at text)

-- ---- line after line

abbrev pub gate_lines : List ℕ → ℕ → Netlist → Res (Part (List (List ℕ)))
gate_lines text start n = lines form01 (gate_of form01) n.gates n.inputs [] (drop start text)

abbrev pub output_lines : List ℕ → ℕ → Netlist → Res (Part (List ℕ))
output_lines text start n = lines form01 (λ _. output_of form01 (head_from n)) n.outputs 0 [] (drop start text)
