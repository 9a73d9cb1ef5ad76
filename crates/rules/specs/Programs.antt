-- Document 01, "Programs": from the bytes of standard input to the bytes of standard output.
-- Assumes nothing.
use Rattle.std.specs.Prelude.{ℕ, ◌+◌, List, [], ◌∷◌, ltb, get_or, length}
use Rattle.rules.specs.Basics.{pick}
use Rattle.rules.specs.Form.{Form, two}
use Rattle.rules.specs.Refusals.{Res, good, refused, ◌>>=◌, or_refuse}
use Rattle.rules.specs.Lines.{line, fields, bytes_of, written}
use Rattle.rules.specs.Netlist.{due, netlist_lines, well_formed}
use Rattle.rules.specs.Sequence.{sequence_of}
use Rattle.rules.specs.Mapping.{mapped_text}
use Rattle.rules.specs.Book.{checked}

-- Programs hold 65,536 bytes of input and as many of output
abbrev pub program_holds : ℕ
program_holds = 65536

-- 1F and the number in one byte
unfoldable pub refusal_line : ℕ → List ℕ
unfolding written
refusal_line r = written (0x1F ∷ r ∷ [])

-- 1E and the cycles (2 bytes)
unfoldable pub cycles_line : ℕ → List ℕ
unfolding written bytes_of
cycles_line n = written (0x1E ∷ bytes_of two (n ∷ []))

-- what is printed; a longer output prints 1F0A alone
unfoldable pub printed : {A : Type 0} → (A → List ℕ) → Res A → List ℕ
unfolding pick refusal_line
printed text (good a) = pick (ltb program_holds (length (text a))) (refusal_line 10) (text a)
printed text (refused r) = refusal_line r

-- a longer input prints 1F01
unfoldable pub held : {A : Type 0} → List ℕ → Res A → Res A
unfolding pick
held input r = pick (ltb program_holds (length input)) (refused 1) r

module _ (F : Form) where
  -- 0F job: row size less one (1)
  unfoldable pub job_of : List ℕ → Res ℕ
  unfolding due fields ◌>>=◌ or_refuse
  job_of bytes = do
    l ← due F.job_kind bytes
    ns ← or_refuse 2 (fields (F.cell_width ∷ []) l)
    good (get_or ns 0 0 + 1)

  -- The mapping program reads a job line and a netlist. A job line that is bad answers 1 or 2 first.
  unfoldable pub mapping_answer : List ℕ → Res (List ℕ)
  unfolding line job_of mapped_text ◌>>=◌
  mapping_answer input = do
    l ← line F input
    row ← job_of l.bytes
    mapped_text F row l.rest

  -- It prints the sequence, or 1F and the number in one byte.
  unfoldable pub mapping_program : List ℕ → List ℕ
  unfolding held mapping_answer printed
  mapping_program input = printed (λ text. text) (held input (mapping_answer input))

  -- The checking program reads a netlist and then a sequence; the rest of the text, from the middle on, is read as the sequence.
  unfoldable pub checking_answer : List ℕ → Res ℕ
  unfolding netlist_lines well_formed sequence_of checked ◌>>=◌
  checking_answer input = do
    p ← netlist_lines F input
    N ← well_formed p.got
    S ← sequence_of F p.tail
    checked N S

  -- It prints 1E and the cycles (2 bytes), or 1F and the number.
  unfoldable pub checking_program : List ℕ → List ℕ
  unfolding held checking_answer printed cycles_line
  checking_program input = printed cycles_line (held input (checking_answer input))
