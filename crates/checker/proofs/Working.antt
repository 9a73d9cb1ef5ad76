-- Instruction after instruction: the loop's laws.
use Rattle.std.proofs.Common.{ℕ, suc, ◌+◌, ◌-◌, ◌*◌, ◌<◌, ◌≤◌, arith, add-one, ◌≡◌, refl, sym, ap, ◌∙◌, List, length, Option, Result, Ok, Err}
use Rattle.rules.specs.declared.Refusal.{Refusal}
use Rattle.rules.specs.Refusals.{Res, good, refused, ◌>>=◌, meaning_by}
use Rattle.netlist.specs.declared.Netlist.{Netlist}
use Rattle.netlist.specs.Flat.{netlist_in}
use Rattle.rules.specs.Book as rules
use Rattle.rules.specs.Book.{step, steps}
use Rattle.row.specs.Decoded.{each_line}
use Rattle.instruction.specs.declared.Instruction.{Instruction}
use Rattle.instruction.specs.Line.{instruction_at, instruction_in, instructions_at}
use Rattle.instruction.proofs.Standing.{cells_inside}
use Rattle.book.specs.declared.Book.{Book}
use Rattle.book.specs.Cells.{book_in, book_of}
use Rattle.book.specs.Steps.{gate_in, gate_for, standing_in, stepped_of, after_of, Stepped}
use Rattle.book.proofs.Meaning.{standing_all, stepped_means}

pub inside : (text : List ℕ) (at : ℕ) (i : Instruction) → i ≡ instruction_at text at → i.first + 2 * i.cells ≤ length text
inside text at i e = rw e (cells_inside text at)

-- a step keeps the inputs
after_inputs : (b : Book) (told : Res (List rules.Cell)) → (after_of b told).inputs ≡ b.inputs
unfolding after_of book_of
after_inputs b (good book) = refl
after_inputs b (refused r) = refl

module _ (n : Netlist) (text : List ℕ) (code count : ℕ) (first : Book) where
  abbrev all : Res (List rules.Cell)
  all = steps (netlist_in n) (instructions_at text code count) (book_in first)

  -- the instructions before this place passed
  pub record Worked (b : Book) (at done : ℕ) : Type 0 where
    pub inputs : b.inputs ≡ n.inputs
    pub same : steps (netlist_in n) (instructions_at text at (count - done)) (book_in b) ≡ all

  pub worked_start : first.inputs ≡ n.inputs → Worked first code 0
  worked_start e = record { inputs = e; same = let z : count - 0 ≡ count = omega arith in rw z }

  module _ {b : Book} {at done : ℕ} (w : Worked b at done) where
    pub worked_end : count ≤ done → good (book_in b) ≡ all
    unfolding steps instructions_at each_line
    worked_end h = let z : count - done ≡ 0 = omega arith in rw z at w.same

    module _ (more : done < count) (i : Instruction) (gate : Option ℕ) (r : Result (Unit {0}) Refusal) (after : Book) (decoded : i ≡ instruction_at text at)
        (found : gate_in gate ≡ gate_for (netlist_in n) (instruction_in text i) (book_in b)) (stepped : Stepped b (stepped_of b text i (gate_in gate)) r after) where
      step_is : meaning_by (λ _. book_in after) r ≡ step (netlist_in n) (instruction_in text (instruction_at text at)) (book_in b)
      unfolding netlist_in
      step_is =
          let z : standing_in text i ≡ i = ap (standing_in text) decoded ∙ standing_all text at ∙ sym decoded in
          let f : gate_in gate ≡ gate_for (netlist_in n) (instruction_in text (standing_in text i)) (book_in b) = rw z found in
          stepped.says ∙ stepped_means (netlist_in n) b text i (gate_in gate) w.inputs f ∙ ap (λ k. step (netlist_in n) (instruction_in text k) (book_in b)) (z ∙ decoded)

      next_step : (meaning_by (λ _. book_in after) r >>= steps (netlist_in n) (instructions_at text i.next (count - suc done))) ≡ all
      unfolding steps instructions_at each_line
      next_step =
          let z : count - done ≡ suc (count - suc done) = omega arith in
          ap (λ q. q >>= steps (netlist_in n) (instructions_at text i.next (count - suc done))) step_is
          ∙ ap (λ k. step (netlist_in n) (instruction_in text (instruction_at text at)) (book_in b) >>= steps (netlist_in n) (instructions_at text k.next (count - suc done))) decoded
          ∙ (rw z at w.same)

      pub worked_turn : r ≡ Ok tt → Worked after i.next (done + 1)
      unfolding ◌>>=◌
      worked_turn e = record {
        inputs = ap (λ x. x.inputs) stepped.leaves ∙ after_inputs b (stepped_of b text i (gate_in gate)) ∙ w.inputs;
        same = rw add-one (rw e at next_step);
      }

      pub worked_stop : (x : Refusal) → r ≡ Err x → meaning_by {A = Unit {0}} (λ _. book_in after) (Err x) ≡ all
      unfolding ◌>>=◌
      worked_stop x e = rw e at next_step
