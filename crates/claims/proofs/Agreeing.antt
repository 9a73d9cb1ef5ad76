-- The checker's book agrees with the mapper's slots: what is ready there is ready here, what is kept there is held here.
-- Assumes nothing.
use Rattle.std.proofs.Common.{ℕ, ◌<◌, arith, ◌≡◌, refl, sym, ap, ◌∙◌, Bool, true, false, List, [], ◌∷◌, ◌++◌, map, ltb-true, get_or, length, set, length-set, get_or-set_same, get_or-set_other}
use native.Mathlib.Decide.{ℕ_discrete}
use mathlib.Core.Option.{some}
use Rattle.std.proofs.lemmas.Bool.{false_from_ne_true}
use Rattle.rules.specs.Basics.{pick, mem, set_all}
use Rattle.rules.specs.Refusals.{good, or_refuse, ◌>>=◌}
use Rattle.rules.specs.Netlist.{Netlist, operands_of}
use Rattle.rules.specs.Sequence.{Instruction, Set, Nor}
use Rattle.rules.specs.Cells.{Slot, blank, ready, keeps, cell_of, State, place, set_cells}
use Rattle.rules.specs.Book.{Cell, unknown, ready as set_ready, holds, first_book, if_holds, signals, fixed, made, step, steps}
use Rattle.rules.proofs.Laws.{bind_good, cons_more, cons_self}
use Rattle.rules.proofs.Lists.{none_of, length-set_all, known}
use Rattle.rules.proofs.Reading.{Well}
use Rattle.claims.proofs.Slots.{set_all_at}
use Rattle.claims.proofs.Executing.{Turn}
use Rattle.claims.proofs.Matching.{gate_found}
use Rattle.claims.proofs.Keeping.{Kept, in_row_lem, operand_kept, before}

-- the book after the code so far
pub record Agrees (N : Netlist) (row : ℕ) (book : List Cell) (st : State) : Type 0 where
  pub ran : steps N st.code (first_book N.inputs row) ≡ good book
  pub size : length book ≡ row
  pub set : (c : ℕ) → get_or st.slots c blank ≡ ready → get_or book c unknown ≡ set_ready
  pub held : (c s : ℕ) → get_or st.slots c blank ≡ keeps s → get_or book c unknown ≡ holds s

steps_snoc : (N : Netlist) (is : List Instruction) (i : Instruction) (b₀ b b' : List Cell) → steps N is b₀ ≡ good b → step N i b ≡ good b'
    → steps N (is ++ (i ∷ [])) b₀ ≡ good b'
unfolding steps ◌>>=◌
steps_snoc N [] i b₀ b b' e f = let z : b₀ ≡ b = cc in rw (z, f)
steps_snoc N (j ∷ is) i b₀ b b' e f =
    let (x, p, q) = bind_good (step N j b₀) (steps N is) b e in
    rw p (steps_snoc N is i x b b' q f)

-- the operands' cells hold the operands
signals_of : (b : List Cell) (sl : List Slot) (os : List ℕ) → ((o : ℕ) → mem o os ≡ true → get_or b (cell_of sl o) unknown ≡ holds o)
    → signals b (map (cell_of sl) os) ≡ some os
unfolding signals if_holds
signals_of b sl [] h = refl
signals_of b sl (o ∷ os) h = rw (h o (cons_self o os), signals_of b sl os (λ x e. h x (cons_more x o os e)))

-- a slot that keeps no input is no input's
free : (N : Netlist) (row : ℕ) (st : State) → Kept N row st → (c : ℕ) → (get_or st.slots c blank ≡ keeps c → ⊥) → fixed N c ≡ false
free N row st I c h = false_from_ne_true (fixed N c) (λ e. h (I.input c (ltb-true c N.inputs e)))

-- ---- a gate placed in a ready cell

module _ (N : Netlist) (W : Well N) (row : ℕ) (st : State) (I : Kept N row st) (b : List Cell) (A : Agrees N row b st)
    (g c : ℕ) (turn : Turn N st.done g) (rd : get_or st.slots c blank ≡ ready) where
  abbrev sl : List Slot
  sl = st.slots

  c_cell : c < length b
  c_cell = omega (arith, in_row_lem N row st I g c turn rd, I.size, A.size)

  operand_held : (o : ℕ) → mem o (operands_of N g) ≡ true → get_or b (cell_of sl o) unknown ≡ holds o
  operand_held o e = A.held (cell_of sl o) o (operand_kept N row st I g c turn rd o e)

  step_ok : step N (Nor c (map (cell_of sl) (operands_of N g))) b ≡ good (set b c (holds g))
  unfolding step made or_refuse ◌>>=◌ pick
  step_ok = rw (
    free N row st I c (λ e. cc),
    A.set c rd,
    signals_of b sl (operands_of N g) operand_held,
    gate_found N W g turn.gate,
  )

  pub place_agrees : Agrees N row (set b c (holds g)) (place N g c st)
  unfolding place
  place_agrees = record {
    ran = steps_snoc N st.code (Nor c (map (cell_of sl) (operands_of N g))) (first_book N.inputs row) b (set b c (holds g)) A.ran step_ok;
    size = length-set b c (holds g) ∙ A.size;
    set = λ x e. set' x (ℕ_discrete x c) (before N row st I g c turn rd x ready (λ q. cc) (λ q. cc) e);
    held = λ x s e. held' x s (ℕ_discrete x c) (before N row st I g c turn rd x (keeps s) (λ q. cc) (λ q. cc) e);
  }
    where
      placed : get_or (set sl c (keeps g)) c blank ≡ keeps g
      placed = get_or-set_same sl c (keeps g) blank (in_row_lem N row st I g c turn rd)

      set' : (x : ℕ) → Dec (x ≡ c) → get_or (set sl c (keeps g)) x blank ≡ ready → get_or (set b c (holds g)) x unknown ≡ set_ready
      set' x (yes p) e = let z = placed in let e' = rw p at e in cc
      set' x (no q) e = get_or-set_other b c x (holds g) unknown q ∙ A.set x (sym (get_or-set_other sl c x (keeps g) blank q) ∙ e)

      held' : (x s : ℕ) → Dec (x ≡ c) → get_or (set sl c (keeps g)) x blank ≡ keeps s → get_or (set b c (holds g)) x unknown ≡ holds s
      held' x s (yes p) e =
          let z = placed in
          let e' = rw p at e in
          let same : g ≡ s = cc in
          rw p (get_or-set_same b c (holds g) unknown c_cell ∙ ap holds same)
      held' x s (no q) e = get_or-set_other b c x (holds g) unknown q ∙ A.held x s (sym (get_or-set_other sl c x (keeps g) blank q) ∙ e)

-- ---- cells set

module _ (N : Netlist) (row : ℕ) (st : State) (I : Kept N row st) (b : List Cell) (A : Agrees N row b st) (cs : List ℕ)
    (spares : (c s : ℕ) → get_or st.slots c blank ≡ keeps s → mem c cs ≡ false) where
  set_ok : step N (Set cs) b ≡ good (set_all set_ready cs b)
  unfolding step pick
  set_ok = rw (none_of (fixed N) cs (λ c e. free N row st I c (λ k. let z = spares c c k in cc)))

  pub set_agrees : Agrees N row (set_all set_ready cs b) (set_cells N cs st)
  unfolding set_cells pick
  set_agrees = record {
    ran = steps_snoc N st.code (Set cs) (first_book N.inputs row) b (set_all set_ready cs b) A.ran set_ok;
    size = length-set_all set_ready cs b ∙ A.size;
    set = λ x e. let h = inside x ready e (λ q. cc) in set' x h (mem x cs) refl (sym (set_all_at ready cs st.slots x blank h) ∙ e);
    held = λ x s e. let h = inside x (keeps s) e (λ q. cc) in held' x s h (mem x cs) refl (sym (set_all_at ready cs st.slots x blank h) ∙ e);
  }
    where
      inside : (x : ℕ) (v : Slot) → get_or (set_all ready cs st.slots) x blank ≡ v → (v ≡ blank → ⊥) → x < length st.slots
      inside x v e h = rw (length-set_all ready cs st.slots) at (known (set_all ready cs st.slots) x v e h)

      at_b : (x : ℕ) → x < length st.slots → get_or (set_all set_ready cs b) x unknown ≡ pick (mem x cs) set_ready (get_or b x unknown)
      at_b x h = set_all_at set_ready cs b x unknown (omega (arith, I.size, A.size))

      set' : (x : ℕ) → x < length st.slots → (t : Bool) → mem x cs ≡ t → pick (mem x cs) ready (get_or st.slots x blank) ≡ ready
          → get_or (set_all set_ready cs b) x unknown ≡ set_ready
      set' x h true p e = at_b x h ∙ rw p
      set' x h false p e = at_b x h ∙ rw p (A.set x (rw p at e))

      held' : (x s : ℕ) → x < length st.slots → (t : Bool) → mem x cs ≡ t → pick (mem x cs) ready (get_or st.slots x blank) ≡ keeps s
          → get_or (set_all set_ready cs b) x unknown ≡ holds s
      held' x s h true p e = let e' = rw p at e in cc
      held' x s h false p e = at_b x h ∙ rw p (A.held x s (rw p at e))
