-- What the sequence reader's tests give: numbers within the limits, and as many places as the head says, all in the row.
-- Assumes nothing.
use Rattle.std.proofs.Common.{ℕ, ◌+◌, ◌<◌, ◌≤◌, ◌≡◌, List, [], ◌∷◌, ltb, ltb-true, get_or, length}
use Rattle.std.specs.List.{All}
use Rattle.rules.specs.Basics.{within}
use Rattle.rules.specs.Form.{Form, two}
use Rattle.rules.specs.Refusals.{good, or_refuse}
use Rattle.rules.specs.Lines.{line, nothing, fields}
use Rattle.rules.specs.Netlist.{due, lines}
use Rattle.rules.specs.Sequence.{Sequence, SequenceHead, sequence_head_of, instruction_of, place_of, sequence_of}
use Rattle.rules.proofs.Laws.{then_good}
use Rattle.rules.proofs.Answers.{good_same, from_bind, from_require}
use Rattle.rules.proofs.Lists.{within_true}
use Rattle.rules.proofs.Reading.{lines_read}

module _ (F : Form) where
  record ReadHead (h : SequenceHead) : Type 0 where
    row_most : h.row ≤ F.row_most
    fewer : h.inputs < h.row
    most : h.instructions ≤ F.instructions_most

  head_read : (bytes : List ℕ) (h : SequenceHead) → sequence_head_of F bytes ≡ good h → ReadHead h
  unfolding sequence_head_of
  head_read bytes h e =
      from_bind (due F.sequence_head bytes) _ h e λ l _ e₁.
      from_bind (or_refuse 2 (fields (F.cell_width ∷ F.cell_width ∷ F.cell_width ∷ two ∷ []) l)) _ h e₁ λ ns _ e₂.
      from_require (within 2 F.row_most (get_or ns 0 0 + 1)) 3 _ h e₂ λ row e₃.
      from_require (within 1 F.inputs_most (get_or ns 1 0)) 3 _ h e₃ λ _ e₄.
      from_require (within 1 F.outputs_most (get_or ns 2 0)) 3 _ h e₄ λ _ e₅.
      from_require (within 1 F.instructions_most (get_or ns 3 0)) 3 _ h e₅ λ most e₆.
      from_require (ltb (get_or ns 1 0) (get_or ns 0 0 + 1)) 3 _ h e₆ λ fewer e₇.
      rw (← good_same _ h e₇) (record {
        row_most = (within_true 2 F.row_most (get_or ns 0 0 + 1) row).1;
        fewer = ltb-true (get_or ns 1 0) (get_or ns 0 0 + 1) fewer;
        most = (within_true 1 F.instructions_most (get_or ns 3 0) most).1;
      })

  place_below : (row : ℕ) (bytes : List ℕ) (c : ℕ) → place_of F row bytes ≡ good c → c < row
  unfolding place_of
  place_below row bytes c e =
      from_bind (due F.place_kind bytes) _ c e λ l _ e₁.
      from_bind (or_refuse 2 (fields (F.cell_width ∷ []) l)) _ c e₁ λ ns _ e₂.
      from_require (ltb (get_or ns 0 0) row) 12 _ c e₂ λ low e₃.
      rw (← good_same (get_or ns 0 0) c e₃) (ltb-true (get_or ns 0 0) row low)

  pub record ReadSequence (S : Sequence) : Type 0 where
    pub row_most : S.row ≤ F.row_most
    pub fewer : S.inputs < S.row
    pub most : length S.instructions ≤ F.instructions_most
    pub count : length S.places ≡ S.outputs
    pub in_row : All (λ c. c < S.row) S.places

  pub sequence_read : (text : List ℕ) (S : Sequence) → sequence_of F text ≡ good S → ReadSequence S
  unfolding sequence_of
  sequence_read text S e =
      from_bind (line F text) _ S e λ l _ e₁.
      from_bind (sequence_head_of F l.bytes) _ S e₁ λ h e₂ e₃.
      from_bind (lines F (λ _. instruction_of F h.row) h.instructions 0 [] l.rest) _ S e₃ λ is e₄ e₅.
      from_bind (lines F (λ _. place_of F h.row) h.outputs 0 [] is.tail) _ S e₅ λ ps e₆ e₇.
      let (_, _, e₈) = then_good (nothing F ps.tail) _ S e₇ in
      let H = head_read l.bytes h e₂ in
      let (code, got₁, many, _) = lines_read F (λ _. instruction_of F h.row) (λ _ _. Unit {0}) (λ _ _ _ _. tt) h.instructions 0 [] l.rest is e₄ in
      let (new, got, len, each) =
      lines_read F (λ _. place_of F h.row) (λ _ c. c < h.row) (λ _. place_below h.row) h.outputs 0 [] is.tail ps e₆ in
      rw (← good_same _ S e₈)
      (record { row_most = H.row_most; fewer = H.fewer; most = rw (got₁, many) H.most; count = rw got len; in_row = rw got each })
