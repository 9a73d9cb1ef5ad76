-- The public calls: the answer and every lent byte afterwards, for every input. Contracts cite these.
-- Assumes nothing.
use Rattle.std.specs.Prelude.{ℕ, Result, List, ◌++◌, ltb, length, drop}
use Rattle.rules.specs.declared.Refusal.{Refusal}
use Rattle.rules.specs.Basics.{pick}
use Rattle.rules.specs.Form.{form01}
use Rattle.rules.specs.Refusals.{Res, good, refused, ◌>>=◌, ◌>>◌, require, meaning}
use Rattle.rules.specs.Lines.{frame_at, place_after}
use Rattle.rules.specs.Netlist.{netlist_of, netlist_tail}
use Rattle.rules.specs.Sequence.{Sequence, sequence_of}
use Rattle.rules.specs.Values.{output_values, are_bits}
use Rattle.rules.specs.Device.{run, cycles}
use Rattle.rules.specs.Mapping.{mapped_text}
use Rattle.rules.specs.Book.{checked_text}
use Rattle.rules.specs.Programs.{mapping_program, checking_program}

-- the answer, and the lent bytes afterwards
pub record Outcome : Type 0 where
  pub answer : Res ℕ
  pub lent : List ℕ

-- an answer of the code and the lent bytes after it
abbrev pub outcome_of : Result ℕ Refusal → List ℕ → Outcome
outcome_of r lent = record { answer = meaning r; lent = lent }

-- A refusal returns its number only. Every lent buffer keeps every byte.
-- The text fills the first bytes of the lent buffer, the rest stays, and the answer is its length; 10 exactly when the text is longer than the buffer.
unfoldable pub delivered : Res (List ℕ) → List ℕ → Outcome
unfolding pick
delivered (refused r) out = record { answer = refused r; lent = out }
delivered (good text) out =
    pick (ltb (length out) (length text)) (record { answer = refused 10; lent = out })
    (record { answer = good (length text); lent = text ++ drop (length text) out })

-- map(row, text, out): 8, netlist, 9, 10
unfoldable pub map_outcome : ℕ → List ℕ → List ℕ → Outcome
unfolding delivered mapped_text form01
map_outcome row text out = delivered (mapped_text form01 row text) out

-- Evaluating: netlist, 17
unfoldable pub evaluated : List ℕ → List ℕ → Res (List ℕ)
unfolding netlist_of are_bits output_values form01 ◌>>=◌ ◌>>◌ require
evaluated text inputs = do
  N ← netlist_of form01 text
  require (are_bits N.inputs inputs) 17
  good (output_values N inputs)

-- evaluate(text, inputs, out): netlist, 17, 10. The first bytes of the output buffer receive the outputs in order, the rest stays, and the answer is their number.
unfoldable pub evaluate_outcome : List ℕ → List ℕ → List ℕ → Outcome
unfolding delivered evaluated
evaluate_outcome text inputs out = delivered (evaluated text inputs) out

-- check(netlist, sequence): no bytes are lent for writing
unfoldable pub check_outcome : List ℕ → List ℕ → Res ℕ
unfolding checked_text form01
check_outcome netlist sequence = checked_text form01 netlist sequence

-- Simulating: sequence text, 17
unfoldable pub simulated : List ℕ → List ℕ → Res Sequence
unfolding sequence_of are_bits form01 ◌>>=◌ ◌>>◌ require
simulated text row = do
  S ← sequence_of form01 text
  require (are_bits S.row row) 17
  good S

-- the number of cycles run, and the row after exactly those
unfoldable pub ran_for : ℕ → List ℕ → Res Sequence → Outcome
unfolding run cycles
ran_for budget row (refused r) = record { answer = refused r; lent = row }
ran_for budget row (good S) = record { answer = good (cycles budget S.instructions); lent = run budget S.instructions row }

-- simulate(text, row, budget)
unfoldable pub simulate_outcome : List ℕ → List ℕ → ℕ → Outcome
unfolding simulated ran_for
simulate_outcome text row budget = ran_for budget row (simulated text row)

-- the netlist reader's tail, and the frame reader: these two calls give no number
unfoldable pub tail_outcome : List ℕ → List ℕ
unfolding netlist_tail form01
tail_outcome text = netlist_tail form01 text

unfoldable pub frame_outcome : List ℕ → ℕ → List ℕ
unfolding frame_at form01
frame_outcome text at = frame_at form01 text at

unfoldable pub place_outcome : List ℕ → ℕ → ℕ
unfolding place_after form01
place_outcome text at = place_after form01 text at

-- the programs, from standard input to standard output
unfoldable pub rowmap_output : List ℕ → List ℕ
unfolding mapping_program form01
rowmap_output input = mapping_program form01 input

unfoldable pub rowcheck_output : List ℕ → List ℕ
unfolding checking_program form01
rowcheck_output input = checking_program form01 input
