-- What the mapping rule writes reads well: set cells ascend, the cells of a NOR all differ, every cell is in the row.
-- Assumes nothing.
use Rattle.std.proofs.Common.{ℕ, ◌<◌, ◌≤◌, arith, ◌≡◌, refl, sym, ap, ◌∙◌, true, false, List, [], ◌∷◌, map, get_or, length}
use lib.ListN.{length-map}
use Rattle.std.proofs.lemmas.List.Elements.{All-push}
use Rattle.std.specs.List.{All}
use Rattle.std.proofs.lemmas.Bool.{or_from, false_from_ne_true}
use Rattle.rules.specs.Basics.{mem, repeats, ascending}
use Rattle.rules.specs.Netlist.{Netlist, operands_of}
use Rattle.rules.specs.Sequence.{Instruction, Set, Nor}
use Rattle.rules.specs.Cells.{Slot, blank, ready, keeps, cell_of, State, place, set_cells}
use Rattle.rules.proofs.Laws.{cons_cases, cons_more, cons_self}
use Rattle.rules.proofs.Lists.{asc_low, asc_rest, known}
use Rattle.rules.proofs.Reading.{Well, WellGate, well_gate}
use Rattle.claims.proofs.Slots.{cells_mem}
use Rattle.claims.proofs.Executing.{Turn}
use Rattle.claims.proofs.Keeping.{Kept, in_row_lem, operand_kept, Sparing}

pub record FineSet (row : ℕ) (cs : List ℕ) : Type 0 where
  pub some_cell : 1 ≤ length cs
  pub rising : ascending cs ≡ true
  pub inside : (c : ℕ) → mem c cs ≡ true → c < row

pub record FineNor (row : ℕ) (cs : List ℕ) : Type 0 where
  pub least : 2 ≤ length cs
  pub most : length cs ≤ 5
  pub differ : repeats cs ≡ false
  pub inside : (c : ℕ) → mem c cs ≡ true → c < row

-- an instruction that reads well in a row
unfoldable pub Fine : ℕ → Instruction → Type 0
Fine row (Set cs) = FineSet row cs
Fine row (Nor w os) = FineNor row (w ∷ os)

abbrev pub AllFine : ℕ → List Instruction → Type 0
AllFine row = All (Fine row)

-- cells that keep different signals differ
differ : (sl : List Slot) (os : List ℕ) → ascending os ≡ true → ((o : ℕ) → mem o os ≡ true → get_or sl (cell_of sl o) blank ≡ keeps o)
    → repeats (map (cell_of sl) os) ≡ false
unfolding repeats
differ sl [] a h = refl
differ sl (o ∷ os) a h =
    or_from (mem (cell_of sl o) (map (cell_of sl) os)) (repeats (map (cell_of sl) os))
    (false_from_ne_true _ (λ e. let (p, u, v) = cells_mem sl os (cell_of sl o) e in
    let lt = asc_low o os a p u in
    let same : o ≡ p = keeps_same (sym (h o (cons_self o os)) ∙ ap (λ (c : ℕ). get_or sl c blank) v ∙ h p (cons_more p o os u)) in
    omega arith))
    (differ sl os (asc_rest o os a) (λ p e. h p (cons_more p o os e)))
  where
    keeps_same : {a b : ℕ} → keeps a ≡ keeps b → a ≡ b
    keeps_same e = cc

module _ (N : Netlist) (W : Well N) (row : ℕ) (st : State) (I : Kept N row st) (g c : ℕ) (turn : Turn N st.done g) (rd : get_or st.slots c blank ≡ ready) where
  abbrev sl : List Slot
  sl = st.slots

  -- where the gate's operands stand
  abbrev read : List ℕ
  read = map (cell_of sl) (operands_of N g)

  nor_fine : FineNor row (c ∷ read)
  unfolding repeats
  nor_fine = record {
    least = omega (arith, length-map (operands_of N g) (cell_of sl), w.least);
    most = omega (arith, length-map (operands_of N g) (cell_of sl), w.most);
    differ = or_from (mem c read) (repeats read)
        (false_from_ne_true _ (λ e. let (o, u, v) = cells_mem sl (operands_of N g) c e in let k = kept o u in let r = rw v at rd in cc))
        (differ sl (operands_of N g) w.rising kept);
    inside = λ x e. cons_cases (x < row) x c read e
        (λ p. omega (arith, in_row_lem N row st I g c turn rd, I.size))
        (λ p. let (o, u, v) = cells_mem sl (operands_of N g) x p in omega (arith, known sl (cell_of sl o) (keeps o) (kept o u) (λ q. cc), I.size));
  }
    where
      w : WellGate g (operands_of N g)
      w = well_gate N W g turn.gate

      kept : (o : ℕ) → mem o (operands_of N g) ≡ true → get_or sl (cell_of sl o) blank ≡ keeps o
      kept = operand_kept N row st I g c turn rd

  pub place_fine : AllFine row st.code → AllFine row (place N g c st).code
  unfolding place Fine
  place_fine f = All-push (Fine row) st.code (Nor c read) f nor_fine

pub set_fine : (N : Netlist) (row : ℕ) (renew : List Slot → List ℕ) → Sparing renew → (st : State) → Kept N row st
    → (c : ℕ) (cs : List ℕ) → renew st.slots ≡ c ∷ cs → AllFine row st.code → AllFine row (set_cells N (c ∷ cs) st).code
unfolding set_cells Fine
set_fine N row renew R st I c cs e f =
    All-push (Fine row) st.code (Set (c ∷ cs)) f (record {
      some_cell = omega arith;
      rising = rw e at (R.rising st.slots);
      inside = λ x m. omega (arith, R.inside st.slots x (rw e m), I.size);
    })
