-- A sequence that is fine and within the limits reads back from its text.
-- Assumes nothing.
use Rattle.std.proofs.Common.{ℕ, suc, ◌+◌, ◌-◌, ◌*◌, ◌<◌, ◌≤◌, arith, ◌≡◌, refl, List, [], ◌∷◌, ◌++◌, append-nil, eq-eqb, lt-ltb, le-leb, length}
use Rattle.std.proofs.lemmas.List.Elements.{All-weaker}
use Rattle.rules.proofs.Lists.{Below}
use Rattle.rules.specs.Form.{Form, Width, one, two}
use Rattle.rules.specs.Refusals.{good, ◌>>=◌, ◌>>◌}
use Rattle.rules.specs.Lines.{line, nothing, bytes_of}
use Rattle.rules.specs.Netlist.{lines}
use Rattle.rules.specs.Sequence.{Sequence, sequence_head_of, instruction_of, place_of, sequence_of, head_text, instruction_text, place_text, texts, sequence_text}
use Rattle.rules.proofs.Laws.{cons_self, cons_more}
use Rattle.claims.proofs.Fine.{AllFine}
use Rattle.claims.proofs.ReadBack.{line_back}
use Rattle.claims.proofs.Bytes.{bytes, holding, head_back, bytes_below}
use Rattle.claims.proofs.LinesBack.{lines_back}
use Rattle.claims.proofs.PartsBack.{Fits, cons_below, none_below, instruction_back, places_back}

-- a sequence within the numbers of a form, each part of which reads well
pub record Writable (F : Form) (S : Sequence) : Type 0 where
  pub row : (2 ≤ S.row) × (S.row ≤ F.row_most)
  pub inputs : (1 ≤ S.inputs) × (S.inputs ≤ F.inputs_most)
  pub work : S.inputs < S.row
  pub outputs : (1 ≤ S.outputs) × (S.outputs ≤ F.outputs_most)
  pub instructions : (1 ≤ length S.instructions) × (length S.instructions ≤ F.instructions_most)
  pub fine : AllFine S.row S.instructions
  pub as_many : length S.places ≡ S.outputs
  pub inside : Below S.row S.places

append-below : (n : ℕ) (a b : List ℕ) → Below n a → Below n b → Below n (a ++ b)
append-below n [] b h k = k
append-below n (c ∷ a) b h k = cons_below n c (a ++ b) (h c (cons_self c a)) (append-below n a b (λ x m. h x (cons_more x c a m)) k)

head_short : (w : Width) (a b c d m : ℕ) → bytes w * 5 < m → suc (length (bytes_of w (a ∷ b ∷ c ∷ []) ++ bytes_of two (d ∷ []))) ≤ m
unfolding bytes bytes_of
head_short one a b c d m h = omega arith
head_short two a b c d m h = omega arith

module _ (F : Form) (fits : Fits F) (S : Sequence) (fine : Writable F S) where
  head_bytes : List ℕ
  head_bytes = F.sequence_head ∷ (bytes_of F.cell_width ((S.row - 1) ∷ S.inputs ∷ S.outputs ∷ []) ++ bytes_of two (length S.instructions ∷ []))

  head_line_lem : (rest : List ℕ) → line F (head_text F S ++ rest) ≡ good (record { bytes = head_bytes; rest = rest })
  unfolding head_text head_bytes
  head_line_lem rest =
      line_back F head_bytes rest
      (cons_below 256 F.sequence_head _ fits.head_kind (append-below 256 _ _ small large))
      (omega arith) (head_short F.cell_width (S.row - 1) S.inputs S.outputs (length S.instructions) F.line_most fits.nor_line)
    where
      cap : ℕ
      cap = holding F.cell_width

      small : Below 256 (bytes_of F.cell_width ((S.row - 1) ∷ S.inputs ∷ S.outputs ∷ []))
      small = bytes_below F.cell_width ((S.row - 1) ∷ S.inputs ∷ S.outputs ∷ [])
          (cons_below cap (S.row - 1) (S.inputs ∷ S.outputs ∷ []) (omega (arith, fine.row, fits.rows))
          (cons_below cap S.inputs (S.outputs ∷ []) (omega (arith, fine.inputs, fits.inputs))
          (cons_below cap S.outputs [] (omega (arith, fine.outputs, fits.outputs)) (none_below cap))))

      large : Below 256 (bytes_of two (length S.instructions ∷ []))
      large = unfold holding in bytes_below two (length S.instructions ∷ [])
          (cons_below 65536 (length S.instructions) [] (omega (arith, fine.instructions, fits.instructions)) (none_below 65536))

  head_rule : sequence_head_of F head_bytes ≡ good (record { row = S.row; inputs = S.inputs; outputs = S.outputs; instructions = length S.instructions })
  unfolding head_bytes sequence_head_of
  head_rule =
      let z : S.row - 1 + 1 ≡ S.row = omega (arith, fine.row) in
      rw (
        eq-eqb F.sequence_head F.sequence_head refl,
        head_back F.cell_width (S.row - 1) S.inputs S.outputs (length S.instructions),
        z,
        le-leb 2 S.row fine.row.0,
        le-leb S.row F.row_most fine.row.1,
        le-leb 1 S.inputs fine.inputs.0,
        le-leb S.inputs F.inputs_most fine.inputs.1,
        le-leb 1 S.outputs fine.outputs.0,
        le-leb S.outputs F.outputs_most fine.outputs.1,
        le-leb 1 (length S.instructions) fine.instructions.0,
        le-leb (length S.instructions) F.instructions_most fine.instructions.1,
        lt-ltb S.inputs S.row fine.work,
      )

  -- nothing follows the places
  places_read : lines F (λ _. place_of F S.row) S.outputs 0 [] (texts (place_text F) S.places) ≡ good (record { got = S.places; tail = [] })
  places_read =
      rw (append-nil (texts (place_text F) S.places), fine.as_many) at
      (lines_back F (place_of F S.row) (place_text F) S.places (places_back F fits S.row fine.row.1 S.places fine.inside) 0 [] [])

  pub sequence_back : sequence_of F (sequence_text F S) ≡ good S
  unfolding sequence_of sequence_text ◌>>=◌ ◌>>◌ nothing
  sequence_back =
      rw (
        head_line_lem (texts (instruction_text F) S.instructions ++ texts (place_text F) S.places),
        head_rule,
        lines_back F (instruction_of F S.row) (instruction_text F) S.instructions
            (All-weaker _ _ (instruction_back F fits S.row fine.row.1) S.instructions fine.fine) 0 [] (texts (place_text F) S.places),
        places_read,
      )
