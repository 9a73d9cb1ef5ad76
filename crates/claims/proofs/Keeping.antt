-- No signal that is still needed is lost: placing a gate and setting cells leave its slot alone.
-- Assumes nothing.
use Rattle.std.proofs.Common.{ℕ, ◌+◌, ◌-◌, ◌<◌, arith, ◌≡◌, sym, ◌∙◌, Bool, true, false, List, [], ◌∷◌, ◌++◌, map, get_or, length, set, length-set, get_or-set_same, get_or-set_other}
use Rattle.std.proofs.lemmas.Bool.{false_from_ne_true}
use Rattle.rules.specs.Basics.{pick, mem, keep, ascending, set_all}
use Rattle.rules.specs.Netlist.{Netlist, operands_of}
use Rattle.rules.specs.Cells.{Slot, blank, ready, spent, keeps, is_spent, those, cell_of, released, State, place, set_cells, all_spent}
use Rattle.rules.proofs.Lists.{keep_mem, length-set_all, known}
use Rattle.claims.proofs.Slots.{is_spent_lem, those_in, those_asc, cell_at, cells_mem, set_all_at}
use Rattle.claims.proofs.Served.{present, present_cases, released_more, released_reader, released_input}
use Rattle.claims.proofs.Executing.{Turn}

-- the slots of a row, against the gates executed
pub record Kept (N : Netlist) (row : ℕ) (st : State) : Type 0 where
  pub size : length st.slots ≡ row
  pub input : (c : ℕ) → c < N.inputs → get_or st.slots c blank ≡ keeps c
  pub needed : (s : ℕ) → present N st.done s ≡ true → released N st.done s ≡ false → (c : ℕ) × (get_or st.slots c blank ≡ keeps s)

-- ---- a gate placed in a ready cell

module _ (N : Netlist) (row : ℕ) (st : State) (I : Kept N row st) (g c : ℕ) (turn : Turn N st.done g) (rd : get_or st.slots c blank ≡ ready) where
  pub in_row_lem : c < length st.slots
  in_row_lem = known st.slots c ready rd (λ e. cc)

  pub operand_kept : (o : ℕ) → mem o (operands_of N g) ≡ true → get_or st.slots (cell_of st.slots o) blank ≡ keeps o
  unfolding operands_of
  operand_kept o e =
      let gate = turn.gate in
      let z : N.inputs + (g - N.inputs) ≡ g = omega arith in
      let (x, f) = I.needed o (turn.had o e) (released_reader N st.done o (g - N.inputs) (omega arith) e (rw z turn.new)) in
      cell_at st.slots o x f

  abbrev after : List Slot
  after = (place N g c st).slots

  -- the slots before cells are spent
  abbrev pub base : List Slot
  base = set st.slots c (keeps g)

  -- who is released once the gate has been executed
  abbrev freed : ℕ → Bool
  freed = released N (st.done ++ (g ∷ []))

  gone : List ℕ
  gone = map (cell_of st.slots) (keep freed (operands_of N g))

  pub other : (x s : ℕ) → get_or st.slots x blank ≡ keeps s → get_or base x blank ≡ keeps s
  other x s e = get_or-set_other st.slots c x (keeps g) blank (λ r. let e' = rw r at e in cc) ∙ e

  not_gone : (x s : ℕ) → get_or base x blank ≡ keeps s → freed s ≡ false → mem x gone ≡ false
  unfolding gone
  not_gone x s e f = false_from_ne_true (mem x gone) (λ m.
      let (o, u, v) = cells_mem st.slots (keep freed (operands_of N g)) x m in
      let (p, q) = keep_mem freed (operands_of N g) o u in
      let k = other (cell_of st.slots o) o (operand_kept o p) in
      let e' = rw v at e in
      let same : o ≡ s = cc in
      let q' = rw same at q in cc)

  after_at : (x : ℕ) → x < length st.slots → get_or after x blank ≡ pick (mem x gone) spent (get_or base x blank)
  unfolding place gone
  after_at x h = set_all_at spent gone base x blank (omega (arith, length-set st.slots c (keeps g)))

  pub after_size : length after ≡ length st.slots
  unfolding place gone
  after_size = length-set_all spent gone base ∙ length-set st.slots c (keeps g)

  -- a slot that is ready, or keeps something, afterwards was so before cells were spent
  pub before : (x : ℕ) (v : Slot) → (v ≡ blank → ⊥) → (v ≡ spent → ⊥) → get_or after x blank ≡ v → get_or base x blank ≡ v
  unfolding pick
  before x v h k e = go (mem x gone) (sym (after_at x (omega (arith, known after x v e h, after_size))) ∙ e)
    where
      go : (t : Bool) → pick t spent (get_or base x blank) ≡ v → get_or base x blank ≡ v
      go true f = absurd (k (sym f))
      go false f = f

  still : (x s : ℕ) → freed s ≡ false → get_or base x blank ≡ keeps s → get_or after x blank ≡ keeps s
  unfolding pick
  still x s f e =
      after_at x (omega (arith, known base x (keeps s) e (λ q. cc), length-set st.slots c (keeps g))) ∙ rw (not_gone x s e f) e

  pub place_keeps : Kept N row (place N g c st)
  unfolding place
  place_keeps = record {
    size = after_size ∙ I.size;
    input = λ x h. still x x (released_input N (st.done ++ (g ∷ [])) x h) (other x x (I.input x h));
    needed = λ s e f. present_cases N st.done g s e
        (λ p. let (x, q) = I.needed s p (released_more N st.done g s f) in (x, still x s f (other x s q)))
        (λ p. (c, still c s f (get_or-set_same st.slots c (keeps g) blank in_row_lem ∙ rw p)));
  }

-- ---- cells set

-- a rule of sets names no cell that keeps a signal, only cells of the row, ascending
pub record Sparing (renew : List Slot → List ℕ) : Type 0 where
  pub keeper : (l : List Slot) (c s : ℕ) → get_or l c blank ≡ keeps s → mem c (renew l) ≡ false
  pub inside : (l : List Slot) (c : ℕ) → mem c (renew l) ≡ true → c < length l
  pub rising : (l : List Slot) → ascending (renew l) ≡ true

-- document 01's rule is such a one
pub all_spent_sparing : Sparing all_spent
unfolding all_spent
all_spent_sparing = record {
  keeper = λ l c s e. false_from_ne_true (mem c (those is_spent 0 l)) (λ m.
      let (x, p, h, q) = those_in is_spent l 0 c m in
      let z : x ≡ c = omega arith in
      let k = rw z at (is_spent_lem (get_or l x blank) q) in cc);
  inside = λ l c m. let (x, p, h, q) = those_in is_spent l 0 c m in omega arith;
  rising = λ l. those_asc is_spent l 0;
}

module _ (N : Netlist) (row : ℕ) (st : State) (cs : List ℕ) (spares : (c s : ℕ) → get_or st.slots c blank ≡ keeps s → mem c cs ≡ false) where
  set_still : (x s : ℕ) → get_or st.slots x blank ≡ keeps s → get_or (set_all ready cs st.slots) x blank ≡ keeps s
  unfolding pick
  set_still x s e = set_all_at ready cs st.slots x blank (known st.slots x (keeps s) e (λ q. cc)) ∙ rw (spares x s e) e

  pub set_keeps : Kept N row st → Kept N row (set_cells N cs st)
  unfolding set_cells
  set_keeps I = record {
    size = length-set_all ready cs st.slots ∙ I.size;
    input = λ x h. set_still x x (I.input x h);
    needed = λ s e f. let (x, q) = I.needed s e f in (x, set_still x s q);
  }
