-- What one instruction makes of a book, given the gate that it makes.
-- Assumes nothing.
use Rattle.std.specs.Prelude.{ℕ, ◌-◌, ◌/◌, ◌≡◌, min, List, Option, Some, None, Result, Ok, Err, ltb, get_or, length, set}
use Rattle.std.proofs.Math.Option as maybe
use Rattle.std.proofs.Math.Option.{none, some}
use Rattle.rules.specs.declared.Refusal.{Refusal}
use Rattle.rules.specs.Basics.{pick, any, set_all}
use Rattle.rules.specs.Refusals.{Res, good, refused, ◌>>=◌, or_refuse, meaning_by}
use Rattle.rules.specs.Sequence as rules
use Rattle.rules.specs.Sequence.{Set, Nor}
use Rattle.rules.specs.Netlist.{Netlist}
use Rattle.rules.specs.Book.{Cell, unknown, ready, holds, signals, gate_on}
use Rattle.instruction.specs.declared.Instruction.{Instruction}
use Rattle.instruction.specs.Line.{instruction_in}
use Rattle.book.specs.declared.Book.{Book}
use Rattle.book.specs.Cells.{book_in, book_of}

-- the gate that an instruction makes, in document 01's words
unfoldable pub gate_in : Option ℕ → maybe.Option ℕ
gate_in None = none
gate_in (Some s) = some s

-- rules' `made` and `step`, where the gate is known already
unfoldable pub made_with : maybe.Option ℕ → Cell → Res ℕ
made_with gate unknown = refused 14
made_with gate ready = or_refuse 15 gate
made_with gate (holds s) = refused 14

unfoldable pub step_with : ℕ → maybe.Option ℕ → rules.Instruction → List Cell → Res (List Cell)
step_with inputs gate (Set cs) book = pick (any (λ c. ltb c inputs) cs) (refused 13) (good (set_all ready cs book))
step_with inputs gate (Nor w os) book =
    pick (ltb w inputs) (refused 13) (made_with gate (get_or book w unknown) >>= λ g. good (set book w (holds g)))

-- an instruction with as many cells as stand in the text
unfoldable pub standing_in : List ℕ → Instruction → Instruction
standing_in text i = record { set = i.set; first = i.first; cells = min i.cells ((length text - i.first) / 2); next = i.next }

unfoldable pub stepped_of : Book → List ℕ → Instruction → maybe.Option ℕ → Res (List Cell)
stepped_of b text i gate = step_with b.inputs gate (instruction_in text (standing_in text i)) (book_in b)

-- the book afterwards: a refused instruction leaves it
unfoldable pub after_of : Book → Res (List Cell) → Book
after_of b (good book) = book_of b book
after_of b (refused r) = b

-- the book that a step by value leaves: a refused one hands none back
unfoldable pub left_by : Book → Result Book Refusal → Book
left_by b (Ok after) = after
left_by b (Err r) = b

-- the answer of a step by value says what a step says, and no more of the book that it hands back is altered
pub record Handed (b : Book) (told : Res (List Cell)) (r : Result Book Refusal) : Type 0 where
  pub says : meaning_by book_in r ≡ told
  pub leaves : left_by b r ≡ after_of b told

-- the answer and the book afterwards say what a step says, and no more of the book is altered
pub record Stepped (b : Book) (told : Res (List Cell)) (r : Result (Unit {0}) Refusal) (after : Book) : Type 0 where
  pub says : meaning_by (λ _. book_in after) r ≡ told
  pub leaves : after ≡ after_of b told

-- the gate that an instruction makes: a set line makes none
unfoldable pub gate_for : Netlist → rules.Instruction → List Cell → maybe.Option ℕ
gate_for N (Set cs) book = none
gate_for N (Nor w os) book = gate_on N (signals book os)
