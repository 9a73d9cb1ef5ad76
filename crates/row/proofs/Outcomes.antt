-- What simulating comes to: the refusals, and the cycles run with the row after exactly those.
use Prim.Native.Nat.{ℕ, zero, suc, min}
use native.Mathlib.Omega.{arith}
use mathlib.Core.Path.{◌≡◌}
use mathlib.Core.Bool.{true, false}
use mathlib.Core.List.{List}
use Rattle.rules.specs.declared.Refusal.{Refusal}
use Rattle.rules.specs.declared.Refusal.TheVariants.{NotBits}
use Rattle.std.specs.Prelude.{Ok, Err}
use Rattle.rules.specs.Form.{form01}
use Rattle.rules.specs.Refusals.{good, refused, ◌>>=◌, ◌>>◌, require, number_of}
use Rattle.rules.specs.Sequence.{sequence_of}
use Rattle.rules.specs.Values.{are_bits}
use Rattle.rules.specs.Device.{execute, run, cycles}
use Rattle.rules.specs.Calls.{outcome_of, simulated, ran_for, simulate_outcome}
use Rattle.row.specs.declared.Head.{Head}
use Rattle.row.specs.Decoded.{instruction_at, next_at, instructions_at, sequence_at}
use Rattle.row.specs.Runs.{run_at}
use Rattle.row.proofs.Listing.{instructions_count}

-- the instructions of a budget are those of the smaller of the budget and the count
run_lines : (text : List ℕ) (budget k at : ℕ) (row : List ℕ) → run budget (instructions_at text at k) row ≡ run_at text at (min budget k) row
unfolding run run_at instructions_at
run_lines text zero k at row = let e : min 0 k ≡ 0 = omega arith in rw e
run_lines text (suc b) zero at row = let e : min (suc b) 0 ≡ 0 = omega arith in rw e
run_lines text (suc b) (suc k) at row =
    let e : min (suc b) (suc k) ≡ suc (min b k) = omega arith in
    rw e (run_lines text b k (next_at text at) (execute (instruction_at text at) row))

module _ (text row : List ℕ) (budget : ℕ) where
  pub refused_outcome : (r : Refusal) → refused (number_of r) ≡ sequence_of form01 text → outcome_of (Err r) row ≡ simulate_outcome text row budget
  unfolding simulate_outcome ran_for simulated ◌>>=◌
  refused_outcome r e = rw (← e)

  module _ (h : Head) (e : good (sequence_at text h) ≡ sequence_of form01 text) where
    pub bits_outcome : are_bits h.row row ≡ false → outcome_of (Err NotBits) row ≡ simulate_outcome text row budget
    unfolding simulate_outcome ran_for simulated ◌>>=◌ ◌>>◌ require
    bits_outcome f = rw (← e, f)

    pub ran_outcome : (n : ℕ) (row' : List ℕ) → are_bits h.row row ≡ true → n ≡ min budget h.instructions → row' ≡ run_at text h.code n row
        → outcome_of (Ok n) row' ≡ simulate_outcome text row budget
    unfolding simulate_outcome ran_for simulated cycles ◌>>=◌ ◌>>◌ require
    ran_outcome n row' f c r =
        rw (← e, f, run_lines text budget h.instructions h.code row, instructions_count text h.code h.instructions, r, c)
