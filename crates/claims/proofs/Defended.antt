-- What the checker passes, the row does, over texts and calls.
use Rattle.std.proofs.Common.{ℕ, ◌<◌, ◌≤◌, arith, ◌≡◌, sym, ap, ◌∙◌, true, List, ◌++◌, get_or, length, take, drop}
use Rattle.rules.proofs.Reading.{netlist_read}
use Rattle.rules.specs.Form.{form01}
use Rattle.rules.specs.Refusals.{good}
use Rattle.rules.specs.Netlist.{Netlist, netlist_of}
use Rattle.rules.specs.Sequence.{Instruction, Sequence, sequence_of}
use Rattle.rules.specs.Values.{values, output_values, are_bits}
use Rattle.rules.specs.Device.{run, cycles}
use Rattle.rules.specs.Book.{checked_text}
use Rattle.rules.specs.Calls.{Outcome, check_outcome, simulate_outcome, evaluate_outcome}
use Rattle.rules.proofs.Laws.{bind_good}
use Rattle.claims.specs.Defended.{RunsRight, Defended}
use Rattle.claims.proofs.Stays.{run_ends, run_length, run_stays}
use Rattle.claims.proofs.Sound.{Checked, checked_good, inputs_stay, places_hold}
use Rattle.rules.proofs.SequenceReading.{ReadSequence, sequence_read}
use Rattle.claims.proofs.Outcomes.{simulates, evaluates, output_at, bits_length, bits_take}

cycles_end : (budget : ℕ) (is : List Instruction) → length is ≤ budget → cycles budget is ≡ length is
unfolding cycles
cycles_end budget is h = omega arith

module _ (netlist sequence : List ℕ) (N : Netlist) (S : Sequence) (n : ℕ) (readN : netlist_of form01 netlist ≡ good N)
    (readS : sequence_of form01 sequence ≡ good S) (c : Checked N S n) where
  places_count : length S.places ≡ length N.outputs
  places_count = (sequence_read form01 sequence S readS).count ∙ c.same_outputs

  runs_right : (row : List ℕ) (budget : ℕ) → are_bits S.row row ≡ true → length S.instructions ≤ budget
      → RunsRight N S row (simulate_outcome sequence row budget) (evaluate_outcome netlist (take N.inputs row))
  runs_right row budget bits ends =
      rw (simulates sequence row budget S readS bits) (record {
        answers = ap good (cycles_end budget is ends);
        keeps_length = run_length budget is row;
        keeps_inputs = λ k h. inputs_stay N S n row c budget k h;
        keeps_others = λ k h. run_stays k budget is row h;
        evaluates = λ out h. ap (λ (o : Outcome). o.answer) (ev out h);
        outputs = λ out h k hk. (in_row_lem k hk, held k hk ∙ sym (gives out h k hk));
      })
    where
      is : List Instruction
      is = S.instructions

      ins : List ℕ
      ins = take N.inputs row

      r : ReadSequence form01 S
      r = sequence_read form01 sequence S readS

      long : length row ≡ S.row
      long = bits_length S.row row bits

      room : N.inputs ≤ S.row
      room = omega (arith, r.fewer, c.same_inputs)

      ev : (out : List ℕ) → length N.outputs ≤ length out
          → evaluate_outcome netlist ins out ≡ record { answer = good (length N.outputs); lent = output_values N ins ++ drop (length N.outputs) out }
      ev out h = evaluates netlist ins out N readN (bits_take N.inputs S.row row room bits) h

      gives : (out : List ℕ) → length N.outputs ≤ length out → (k : ℕ) → k < length N.outputs
          → get_or (evaluate_outcome netlist ins out).lent k 0 ≡ get_or (values N ins) (get_or N.outputs k 0) 0
      gives out h k hk = rw (ev out h) (output_at N ins (drop (length N.outputs) out) k hk)

      held : (k : ℕ) → k < length N.outputs
          → get_or (run budget is row) (get_or S.places k 0) 0 ≡ get_or (values N ins) (get_or N.outputs k 0) 0
      held k hk =
          rw (run_ends budget is row ends) (places_hold N S n row c (λ j b. ((netlist_read form01 netlist N readN).0.lines.gate j b).lower) room places_count long k hk)

      in_row_lem : (k : ℕ) → k < length N.outputs → get_or S.places k 0 < length row
      in_row_lem k hk = rw long (r.in_row k 0 (omega (arith, places_count)))

pub defended : Defended
unfolding check_outcome checked_text
defended netlist sequence n e =
    let (N, readN, e₁) = bind_good (netlist_of form01 netlist) _ n e in
    let (S, readS, e₂) = bind_good (sequence_of form01 sequence) _ n e₁ in
    let c = checked_good N S n e₂ in
    record {
      N = N;
      S = S;
      reads_netlist = readN;
      reads_sequence = readS;
      counts = c.counted;
      places = places_count netlist sequence N S n readN readS c;
      runs = λ row budget bits enough. runs_right netlist sequence N S n readN readS c row budget bits (omega (arith, c.counted));
    }
