-- What the step answers is what the definition of the step says, test by test.
use Rattle.std.proofs.Common.{ℕ, ◌-◌, ◌/◌, ◌<◌, ◌≤◌, min, ◌≡◌, refl, ap, ◌∙◌, true, false, List, [], ltb, get_or, length, take, set, length-set, lt-ltb, le-ltb, Option, Some, None, Result, Ok, Err}
use Rattle.rules.specs.declared.Refusal.{Refusal}
use Rattle.rules.specs.declared.Refusal.TheVariants.{InputWritten, NotReady, NoGate}
use Rattle.std.proofs.Math.Option as maybe
use Rattle.rules.specs.Basics.{pick, any, set_all}
use Rattle.rules.specs.Refusals.{Res, good, refused, ◌>>=◌, or_refuse, number_of}
use Rattle.rules.specs.Sequence.{Set, Nor}
use Rattle.rules.specs.Book as rules
use Rattle.rules.specs.Book.{unknown, ready, holds}
use Rattle.rules.proofs.Lists.{length-set_all}
use Rattle.lines.specs.Line.{byte_at, bytes_from}
use Rattle.instruction.specs.declared.Instruction.{Instruction}
use Rattle.instruction.specs.Line.{instruction_in}
use Rattle.book.specs.declared.Cell.{Cell}
use Rattle.book.specs.declared.Cell.TheVariants.{Unknown, Ready, Holds}
use Rattle.book.specs.declared.Book.{Book}
use Rattle.book.specs.Cells.{cell_in, book_in, book_of}
use Rattle.book.specs.Steps.{gate_in, made_with, step_with, standing_in, stepped_of, after_of, left_by, Handed, Stepped}
use Rattle.book.proofs.Laws.{book_at, book_says}

-- what a line leaves of the lent book is what the step by value hands back
module _ (b after : Book) (told : Res (List rules.Cell)) (r : Result (Unit {0}) Refusal) (s : Stepped b told r after) where
  handed : r ≡ Ok tt → Handed b told (Ok after)
  unfolding left_by
  handed e = record { says = rw e at s.says; leaves = s.leaves }

  dropped : (x : Refusal) → r ≡ Err x → Handed b told (Err x)
  unfolding left_by after_of
  dropped x e = let z : refused (number_of x) ≡ told = rw e at s.says in record { says = z; leaves = rw (← z) }

-- a whole instruction, by whether it is a set line
module _ (b : Book) (text : List ℕ) (i : Instruction) (gate : Option ℕ) (r : Result (Unit {0}) Refusal) (after : Book) where
  module _ (is : i.set ≡ true) (k : ℕ) (e : k ≡ min i.cells ((length text - i.first) / 2))
      (s : Stepped b (step_with b.inputs (gate_in None) (Set (bytes_from text i.first k)) (book_in b)) r after) where
    by_set : Stepped b (stepped_of b text i (gate_in gate)) r after
    unfolding stepped_of instruction_in standing_in step_with pick
    by_set = rw (is, ← e) s

    pub set_handed : r ≡ Ok tt → Handed b (stepped_of b text i (gate_in gate)) (Ok after)
    set_handed = handed b after _ r by_set

    pub set_dropped : (x : Refusal) → r ≡ Err x → Handed b (stepped_of b text i (gate_in gate)) (Err x)
    set_dropped = dropped b after _ r by_set

  module _ (is : i.set ≡ false) (w : ℕ) (e : w ≡ byte_at text i.first) (s : Stepped b (step_with b.inputs (gate_in gate) (Nor w []) (book_in b)) r after) where
    by_nor : Stepped b (stepped_of b text i (gate_in gate)) r after
    unfolding stepped_of instruction_in standing_in step_with pick
    by_nor = rw (is, ← e) s

    pub nor_handed : r ≡ Ok tt → Handed b (stepped_of b text i (gate_in gate)) (Ok after)
    nor_handed = handed b after _ r by_nor

    pub nor_dropped : (x : Refusal) → r ≡ Err x → Handed b (stepped_of b text i (gate_in gate)) (Err x)
    nor_dropped = dropped b after _ r by_nor

-- a lent book, from what its step by value answers
module _ (b : Book) (told : Res (List rules.Cell)) (r : Result Book Refusal) (h : Handed b told r) where
  pub lent_passed : (after : Book) → r ≡ Ok after → Stepped b told (Ok tt) after
  unfolding left_by
  lent_passed after e = record { says = rw e at h.says; leaves = rw e at h.leaves }

  pub lent_refused : (x : Refusal) → r ≡ Err x → Stepped b told (Err x) b
  unfolding left_by
  lent_refused x e = record { says = rw e at h.says; leaves = rw e at h.leaves }

module _ (b : Book) where
  -- a refusal leaves the book
  refused_by : (x : Refusal) (told : Res (List rules.Cell)) → told ≡ refused (number_of x) → Stepped b told (Err x) b
  unfolding after_of
  refused_by x told e = record { says = rw e; leaves = rw e }

  passed_by : (book : List rules.Cell) (told : Res (List rules.Cell)) (after : Book) → told ≡ good book → length book ≡ length (book_in b) → after ≡ book_of b book
      → Stepped b told (Ok tt) after
  unfolding after_of
  passed_by book told after e l a = record { says = rw (e, a) (ap good (book_says b book l)); leaves = rw (e, a) }

  module _ (cs : List ℕ) (gate : maybe.Option ℕ) where
    pub set_refused : true ≡ any (λ c. ltb c b.inputs) cs → Stepped b (step_with b.inputs gate (Set cs) (book_in b)) (Err InputWritten) b
    unfolding step_with pick
    set_refused h = refused_by InputWritten _ (rw (← h))

    pub set_passed : (after : Book) → false ≡ any (λ c. ltb c b.inputs) cs → after ≡ book_of b (set_all ready cs (book_in b))
        → Stepped b (step_with b.inputs gate (Set cs) (book_in b)) (Ok tt) after
    unfolding step_with pick
    set_passed after h a = passed_by (set_all ready cs (book_in b)) _ after (rw (← h)) (length-set_all ready cs (book_in b)) a

  module _ (w : ℕ) (os : List ℕ) (gate : Option ℕ) where
    abbrev pub told : Res (List rules.Cell)
    told = step_with b.inputs (gate_in gate) (Nor w os) (book_in b)

    pub nor_written : (i : ℕ) → i ≡ w → i < b.inputs → Stepped b told (Err InputWritten) b
    unfolding step_with pick
    nor_written i e h = refused_by InputWritten _ (rw (← e, lt-ltb i b.inputs h))

    module _ (i : ℕ) (e : i ≡ w) (low : b.inputs ≤ i) (c : Cell) (held : c ≡ get_or (take b.row b.cells) w Unknown) where
      told_is : told ≡ (made_with (gate_in gate) (cell_in c) >>= λ g. good (set (book_in b) w (holds g)))
      unfolding step_with pick
      told_is = rw (rw e at (le-ltb i b.inputs low), book_at b w, ← held)

      pub nor_unready : (c ≡ Ready → ⊥) → Stepped b told (Err NotReady) b
      unfolding made_with cell_in ◌>>=◌
      nor_unready h = refused_by NotReady _ (told_is ∙ go c h)
        where
          go : (d : Cell) → (d ≡ Ready → ⊥) → (made_with (gate_in gate) (cell_in d) >>= λ g. good (set (book_in b) w (holds g))) ≡ refused 14
          go Unknown z = refl
          go Ready z = absurd (z refl)
          go (Holds s) z = refl

      pub nor_none : c ≡ Ready → gate ≡ None → Stepped b told (Err NoGate) b
      unfolding made_with cell_in gate_in ◌>>=◌ or_refuse
      nor_none r n = refused_by NoGate _ (told_is ∙ rw (r, n))

      pub nor_passed : (s : ℕ) (after : Book) → c ≡ Ready → gate ≡ Some s → after ≡ book_of b (set (book_in b) w (cell_in (Holds s))) → Stepped b told (Ok tt) after
      unfolding made_with cell_in gate_in ◌>>=◌ or_refuse
      nor_passed s after r n a = passed_by (set (book_in b) w (holds s)) _ after (told_is ∙ rw (r, n)) (length-set (book_in b) w (holds s)) a
