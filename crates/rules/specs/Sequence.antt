-- Document 01, "Lines": a sequence, its text read, and its text written.
-- Assumes nothing.
use Rattle.std.specs.Prelude.{ℕ, ◌+◌, ◌-◌, not, eqb, length}
use mathlib.Core.List.{List, [], ◌∷◌, ◌++◌}
use Rattle.std.proofs.Math.Dec.{ltb}
use Rattle.std.proofs.Math.ListN.{get_or}
use Rattle.rules.specs.Basics.{pick, within, all, repeats, ascending}
use Rattle.rules.specs.Form.{Form, two}
use Rattle.rules.specs.Refusals.{Res, good, refused, ◌>>=◌, ◌>>◌, require, or_refuse}
use Rattle.rules.specs.Lines.{line, nothing, numbers, fields, bytes_of, written}
use Rattle.rules.specs.Netlist.{due, lines}

-- 12 set: 1 to 256 cells; 13 NOR: written cell, then 1 to 4 operand cells
pub data Instruction : Type 0 where
  Set : List ℕ → Instruction
  Nor : ℕ → List ℕ → Instruction

-- written cell, then operand cells
unfoldable pub nor_from : List ℕ → Instruction
nor_from [] = Nor 0 []
nor_from (w ∷ os) = Nor w os

pub record Sequence : Type 0 where
  pub row : ℕ
  pub inputs : ℕ
  pub outputs : ℕ
  pub instructions : List Instruction
  pub places : List ℕ

pub record SequenceHead : Type 0 where
  pub row : ℕ
  pub inputs : ℕ
  pub outputs : ℕ
  pub instructions : ℕ

module _ (F : Form) where
  -- 11 sequence head: row size less one (1), inputs (1), outputs (1), instructions (2). In a sequence head inputs are fewer than the row size.
  unfoldable pub sequence_head_of : List ℕ → Res SequenceHead
  unfolding due fields ◌>>=◌ ◌>>◌ require or_refuse
  sequence_head_of bytes = do
    l ← due F.sequence_head bytes
    ns ← or_refuse 2 (fields (F.cell_width ∷ F.cell_width ∷ F.cell_width ∷ two ∷ []) l)
    require (within 2 F.row_most (get_or ns 0 0 + 1)) 3
    require (within 1 F.inputs_most (get_or ns 1 0)) 3
    require (within 1 F.outputs_most (get_or ns 2 0)) 3
    require (within 1 F.instructions_most (get_or ns 3 0)) 3
    require (ltb (get_or ns 1 0) (get_or ns 0 0 + 1)) 3
    good (record { row = get_or ns 0 0 + 1; inputs = get_or ns 1 0; outputs = get_or ns 2 0; instructions = get_or ns 3 0 })

  -- Set cells ascend strictly. Every cell named is below the row size.
  unfoldable pub set_of : ℕ → List ℕ → Res Instruction
  unfolding numbers ◌>>=◌ ◌>>◌ require or_refuse ascending
  set_of row l = do
    cs ← or_refuse 2 (numbers F.cell_width l)
    require (within 1 F.row_most (length cs)) 2
    require (ascending cs) 5
    require (all (λ c. ltb c row) cs) 12
    good (Set cs)

  -- The cells of one NOR line all differ, in any order.
  unfoldable pub nor_of : ℕ → List ℕ → Res Instruction
  unfolding numbers ◌>>=◌ ◌>>◌ require or_refuse repeats nor_from
  nor_of row l = do
    cs ← or_refuse 2 (numbers F.cell_width l)
    require (within 2 5 (length cs)) 2
    require (not (repeats cs)) 5
    require (all (λ c. ltb c row) cs) 12
    good (nor_from cs)

  -- its instructions (12 or 13)
  unfoldable pub instruction_of : ℕ → List ℕ → Res Instruction
  unfolding pick set_of nor_of
  instruction_of row [] = refused 2
  instruction_of row (k ∷ l) = pick (eqb k F.set_kind) (set_of row l) (pick (eqb k F.nor_kind) (nor_of row l) (refused 2))

  -- 14 place: one cell
  unfoldable pub place_of : ℕ → List ℕ → Res ℕ
  unfolding due fields ◌>>=◌ ◌>>◌ require or_refuse
  place_of row bytes = do
    l ← due F.place_kind bytes
    ns ← or_refuse 2 (fields (F.cell_width ∷ []) l)
    require (ltb (get_or ns 0 0) row) 12
    good (get_or ns 0 0)

  -- A sequence is one 11, then its instructions (12 or 13), then its places, in the order of the outputs. Nothing follows.
  unfoldable pub sequence_of : List ℕ → Res Sequence
  unfolding line lines nothing sequence_head_of instruction_of place_of ◌>>=◌ ◌>>◌
  sequence_of text = do
    l ← line F text
    h ← sequence_head_of l.bytes
    is ← lines F (λ _. instruction_of h.row) h.instructions 0 [] l.rest
    ps ← lines F (λ _. place_of h.row) h.outputs 0 [] is.tail
    nothing F ps.tail
    good (record { row = h.row; inputs = h.inputs; outputs = h.outputs; instructions = is.got; places = ps.got })

  -- ---- a sequence's text

  unfoldable pub head_text : Sequence → List ℕ
  unfolding written bytes_of
  head_text S =
      written (F.sequence_head ∷ (bytes_of F.cell_width ((S.row - 1) ∷ S.inputs ∷ S.outputs ∷ []) ++ bytes_of two (length S.instructions ∷ [])))

  unfoldable pub instruction_text : Instruction → List ℕ
  unfolding written bytes_of
  instruction_text (Set cs) = written (F.set_kind ∷ bytes_of F.cell_width cs)
  instruction_text (Nor w os) = written (F.nor_kind ∷ bytes_of F.cell_width (w ∷ os))

  unfoldable pub place_text : ℕ → List ℕ
  unfolding written bytes_of
  place_text c = written (F.place_kind ∷ bytes_of F.cell_width (c ∷ []))

-- the texts of things one after the other
unfoldable pub texts : {A : Type 0} → (A → List ℕ) → List A → List ℕ
texts f [] = []
texts f (a ∷ l) = f a ++ texts f l

module _ (F : Form) where
  unfoldable pub sequence_text : Sequence → List ℕ
  unfolding head_text instruction_text place_text texts
  sequence_text S = head_text F S ++ (texts (instruction_text F) S.instructions ++ texts (place_text F) S.places)
