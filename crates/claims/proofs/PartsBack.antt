-- The lines of instructions and places that are fine read back, in a form that fits.
-- Assumes nothing.
use Rattle.std.proofs.Common.{ℕ, suc, ◌*◌, ◌<◌, ◌≤◌, arith, ◌≡◌, refl, ◌∙◌, List, [], ◌∷◌, ◌++◌, ltb, eq-eqb, ne_eqb, lt-ltb, le-leb, length}
use Rattle.std.specs.List.{All}
use Rattle.std.proofs.lemmas.Map.Steps.{length-le_from_distinct_below}
use Rattle.rules.specs.Form.{Form, Width, one, two}
use Rattle.rules.specs.Refusals.{good}
use Rattle.rules.specs.Lines.{line, bytes_of, written}
use Rattle.rules.specs.Sequence.{Instruction, Set, Nor, set_of, nor_of, instruction_of, place_of, instruction_text, place_text}
use Rattle.rules.proofs.Laws.{cons_cases, mem-nil, mem_any}
use Rattle.rules.proofs.Lists.{all_of, distinct, asc_once, Below, members}
use Rattle.claims.proofs.Fine.{FineSet, FineNor, Fine}
use Rattle.claims.proofs.ReadBack.{line_back}
use Rattle.claims.proofs.Bytes.{bytes, holding, numbers_back, place_back, bytes_length, bytes_below}
use Rattle.claims.proofs.LinesBack.{Reads}

-- a form whose kinds are bytes, whose numbers fit their widths, and whose lines are long enough
pub record Fits (F : Form) : Type 0 where
  pub head_kind : F.sequence_head < 256
  pub set_kind_lem : F.set_kind < 256
  pub nor_kind_lem : F.nor_kind < 256
  pub place_kind_lem : F.place_kind < 256
  pub apart : F.nor_kind ≡ F.set_kind → ⊥
  pub rows : F.row_most ≤ holding F.cell_width
  pub inputs : F.inputs_most < holding F.cell_width
  pub outputs : F.outputs_most < holding F.cell_width
  pub instructions : F.instructions_most < 65536
  pub twice : 2 * F.gates_most ≤ F.instructions_most
  pub set_line : bytes F.cell_width * F.row_most < F.line_most
  pub nor_line : bytes F.cell_width * 5 < F.line_most

pub cons_below : (n k : ℕ) (l : List ℕ) → k < n → Below n l → Below n (k ∷ l)
cons_below n k l h b x m = cons_cases (x < n) x k l m (λ p. omega arith) (λ p. b x p)

pub none_below : (n : ℕ) → Below n []
none_below n x m = absurd (mem-nil x m)

-- bytes of at most n numbers, and one more, fit a line that has room for n
short : (w : Width) (l : List ℕ) (n m : ℕ) → length l ≤ n → bytes w * n < m → suc (length (bytes_of w l)) ≤ m
unfolding bytes
short one l n m h k = omega (arith, bytes_length one l)
short two l n m h k = omega (arith, bytes_length two l)

module _ (F : Form) (fits : Fits F) (row : ℕ) (small : row ≤ F.row_most) where
  abbrev w : Width
  w = F.cell_width

  -- a kind and cells of the row as a line
  cells_line : (kind : ℕ) → kind < 256 → (cs : List ℕ) → Below row cs → (n : ℕ) → length cs ≤ n → bytes w * n < F.line_most → (rest : List ℕ)
      → line F (written (kind ∷ bytes_of w cs) ++ rest) ≡ good (record { bytes = kind ∷ bytes_of w cs; rest = rest })
  cells_line kind k cs inside n few room rest =
      let r = fits.rows in
      line_back F (kind ∷ bytes_of w cs) rest
      (cons_below 256 kind (bytes_of w cs) k (bytes_below w cs (λ x m. let i = inside x m in omega arith)))
      (omega arith) (short w cs n F.line_most few room)

  few : (cs : List ℕ) → FineSet row cs → length cs ≤ F.row_most
  few cs f = omega (arith, length-le_from_distinct_below cs row (distinct cs (asc_once cs f.rising)) (λ x e. f.inside x (mem_any x cs ∙ e)))

  set_rule : (cs : List ℕ) → FineSet row cs → instruction_of F row (F.set_kind ∷ bytes_of w cs) ≡ good (Set cs)
  unfolding instruction_of set_of
  set_rule cs f =
      rw (
        eq-eqb F.set_kind F.set_kind refl,
        numbers_back w cs,
        le-leb 1 (length cs) f.some_cell,
        le-leb (length cs) F.row_most (few cs f),
        f.rising,
        all_of (λ c. ltb c row) cs (λ c m. lt-ltb c row (f.inside c m)),
      )

  nor_rule : (c : ℕ) (os : List ℕ) → FineNor row (c ∷ os) → instruction_of F row (F.nor_kind ∷ bytes_of w (c ∷ os)) ≡ good (Nor c os)
  unfolding instruction_of nor_of
  nor_rule c os f =
      rw (
        ne_eqb F.nor_kind F.set_kind fits.apart,
        eq-eqb F.nor_kind F.nor_kind refl,
        numbers_back w (c ∷ os),
        le-leb 2 (suc (length os)) f.least,
        le-leb (suc (length os)) 5 f.most,
        f.differ,
        all_of (λ c. ltb c row) (c ∷ os) (λ x m. lt-ltb x row (f.inside x m)),
      )

  pub instruction_back : (i : Instruction) → Fine row i → Reads F (instruction_of F row) (instruction_text F) i
  unfolding Fine instruction_text
  instruction_back (Set cs) f = record {
    bytes = F.set_kind ∷ bytes_of w cs;
    line_of = cells_line F.set_kind fits.set_kind_lem cs f.inside F.row_most (few cs f) fits.set_line;
    rule_of = set_rule cs f;
  }
  instruction_back (Nor c os) f = record {
    bytes = F.nor_kind ∷ bytes_of w (c ∷ os);
    line_of = cells_line F.nor_kind fits.nor_kind_lem (c ∷ os) f.inside 5 f.most fits.nor_line;
    rule_of = nor_rule c os f;
  }

  place_reads : (c : ℕ) → c < row → Reads F (place_of F row) (place_text F) c
  unfolding place_text place_of
  place_reads c h = record {
    bytes = F.place_kind ∷ bytes_of w (c ∷ []);
    line_of = cells_line F.place_kind fits.place_kind_lem (c ∷ []) (cons_below row c [] h (none_below row)) 5 (omega arith) fits.nor_line;
    rule_of = rw (eq-eqb F.place_kind F.place_kind refl, place_back w c, lt-ltb c row h);
  }

  pub places_back : (ps : List ℕ) → Below row ps → All (Reads F (place_of F row) (place_text F)) ps
  places_back ps b = members (Reads F (place_of F row) (place_text F)) ps (λ c m. place_reads c (b c m))
