-- Every sequence that the mapping rule writes passes the checker and reads well: along any true order, from any opening that fits, by any sparing rule of sets.
-- Assumes nothing.
use Rattle.std.proofs.Common.{ℕ, ◌+◌, ◌<◌, ◌≤◌, arith, ◌≡◌, refl, ◌∙◌, true, false, List, [], ◌∷◌, map, ltb, eq-eqb, get_or, length, set}
use lib.ListN.{length-map}
use Rattle.rules.proofs.Lists.{known}
use Rattle.std.proofs.lemmas.Bool.{or_right}
use Rattle.rules.specs.Basics.{mem, set_all}
use Rattle.rules.specs.Refusals.{good, require, ◌>>=◌, ◌>>◌}
use Rattle.rules.specs.Netlist.{Netlist}
use Rattle.rules.specs.Sequence.{Sequence}
use Rattle.rules.specs.Cells.{Slot, blank, keeps, cell_of, State, execute_gates, opening}
use Rattle.rules.specs.Mapping.{sequence_from, mapped_by}
use Rattle.rules.specs.Book.{Cell, unknown, ready as set_ready, holds, is_holding, placed, checked}
use Rattle.rules.proofs.Laws.{cons_more, cons_self}
use Rattle.claims.specs.TrueOrder.{TrueOrder}
use Rattle.rules.proofs.Answers.{good_same, from_bind}
use Rattle.rules.proofs.Reading.{Well}
use Rattle.claims.proofs.Ordered.{true_runs, true_gates, true_all}
use Rattle.claims.proofs.Slots.{cell_at, cells_mem}
use Rattle.claims.proofs.Served.{present, released_output}
use Rattle.claims.proofs.Executing.{executed_all}
use Rattle.claims.proofs.Keeping.{Kept, place_keeps, Sparing, set_keeps}
use Rattle.claims.proofs.Agreeing.{Agrees, place_agrees, set_agrees}
use Rattle.claims.proofs.Fine.{AllFine, place_fine, set_fine}
use Rattle.claims.proofs.Opened.{opening_keeps, opened_book, opening_agrees, opening_fine}

-- what holds of the mapping state from gate to gate
pub record Invariant (N : Netlist) (row : ℕ) (st : State) : Type 0 where
  pub kept : Kept N row st
  pub book : List Cell
  pub agrees : Agrees N row book st
  pub fine : AllFine row st.code

-- a sequence for a netlist in a row: it passes, and each of its parts reads well
pub record Right (N : Netlist) (row : ℕ) (S : Sequence) : Type 0 where
  pub row_size : S.row ≡ row
  pub inputs : S.inputs ≡ N.inputs
  pub outputs : S.outputs ≡ length N.outputs
  pub fine : AllFine row S.instructions
  pub as_many : length S.places ≡ length N.outputs
  pub inside : (c : ℕ) → mem c S.places ≡ true → c < row
  pub passed : checked N S ≡ good (length S.instructions)

placed_of : (b : List Cell) (sl : List Slot) (os : List ℕ) → ((o : ℕ) → mem o os ≡ true → get_or b (cell_of sl o) unknown ≡ holds o)
    → placed b (map (cell_of sl) os) os ≡ true
unfolding placed is_holding
placed_of b sl [] h = refl
placed_of b sl (o ∷ os) h = rw (h o (cons_self o os), eq-eqb o o refl) (placed_of b sl os (λ x e. h x (cons_more x o os e)))

module _ (N : Netlist) (W : Well N) (row : ℕ) (gs : List ℕ) (T : TrueOrder N gs) where
  -- when all gates have been executed, the state gives a sequence that passes
  finished : (st : State) → Invariant N row st → st.done ≡ gs → Right N row (sequence_from N row st)
  unfolding sequence_from checked ◌>>=◌ ◌>>◌ require present
  finished st I d = record {
    row_size = refl;
    inputs = refl;
    outputs = refl;
    fine = I.fine;
    as_many = length-map N.outputs (cell_of st.slots);
    inside = λ c m.
        let (o, u, v) = cells_mem st.slots N.outputs c m in
        omega (arith, known st.slots (cell_of st.slots o) (keeps o) (output_kept o u) (λ q. cc), I.kept.size);
    passed = rw (
      eq-eqb N.inputs N.inputs refl,
      eq-eqb (length N.outputs) (length N.outputs) refl,
      I.agrees.ran,
      placed_of I.book st.slots N.outputs (λ o m. I.agrees.held (cell_of st.slots o) o (output_kept o m)),
    );
  }
    where
      output_present : (o : ℕ) → mem o N.outputs ≡ true → present N st.done o ≡ true
      output_present o m = or_right (ltb o N.inputs) (mem o st.done) (rw d (true_all N gs T o (W.lines.output o m)))

      output_kept : (o : ℕ) → mem o N.outputs ≡ true → get_or st.slots (cell_of st.slots o) blank ≡ keeps o
      output_kept o m = let (x, k) = I.kept.needed o (output_present o m) (released_output N st.done o m) in cell_at st.slots o x k

  module _ (renew : List Slot → List ℕ) (R : Sparing renew) where
    spared : (s : State) (cs : List ℕ) → renew s.slots ≡ cs → (x t : ℕ) → get_or s.slots x blank ≡ keeps t → mem x cs ≡ false
    spared s cs p x t k = rw p at (R.keeper s.slots x t k)

    all_executed : (st st' : State) → Invariant N row st → st.done ≡ [] → execute_gates N renew gs st ≡ good st' → Invariant N row st' × (st'.done ≡ gs)
    all_executed st st' I d e =
        let (J, z) = executed_all N renew (Invariant N row)
        (λ s g c K turn rd. record {
          kept = place_keeps N row s K.kept g c turn rd;
          book = set K.book c (holds g);
          agrees = place_agrees N W row s K.kept K.book K.agrees g c turn rd;
          fine = place_fine N W row s K.kept g c turn rd K.fine;
        })
        (λ s c cs K p. record {
          kept = set_keeps N row s (c ∷ cs) (spared s (c ∷ cs) p) K.kept;
          book = set_all set_ready (c ∷ cs) K.book;
          agrees = set_agrees N row s K.kept K.book K.agrees (c ∷ cs) (spared s (c ∷ cs) p);
          fine = set_fine N row renew R s K.kept c cs p K.fine;
        })
        gs st st' I (rw d (true_runs N gs T)) (true_gates N gs T) e in
        (J, z ∙ rw d)

    -- the claim on netlists
    pub passing : (opened : ℕ) → 1 ≤ opened → N.inputs + opened ≤ row → (S : Sequence)
        → mapped_by N gs renew (opening N opened row) row ≡ good S → Right N row S
    unfolding mapped_by
    passing opened some_cell room S e =
        from_bind (execute_gates N renew gs (opening N opened row)) _ S e λ st p q.
        let I : Invariant N row (opening N opened row) = record {
          kept = opening_keeps N row opened room;
          book = opened_book N row opened room;
          agrees = opening_agrees N row opened room;
          fine = opening_fine N row opened room some_cell;
        } in
        let (J, d) = all_executed (opening N opened row) st I (nothing_done opened) p in
        rw (← good_same _ S q) (finished st J d)
      where
        nothing_done : (opened : ℕ) → (opening N opened row).done ≡ []
        nothing_done opened = unfold opening in refl
