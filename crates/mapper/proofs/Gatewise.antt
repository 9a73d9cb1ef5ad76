-- One gate executed by the code is the rule's, and so are all of them in order.
-- Assumes nothing.
use Prim.Native.Nat.{ℕ, zero, suc, ◌+◌, ◌-◌, ◌*◌, ◌<◌, ◌≤◌}
use native.Mathlib.Omega.{arith}
use native.Mathlib.Decide.{ℕ_discrete}
use mathlib.Core.Path.{◌≡◌, refl, sym, ap, ◌∙◌, fun_ext}
use mathlib.Core.Bool.{Bool, true, false, ◌||◌}
use mathlib.Core.List.{List, [], ◌∷◌, ◌++◌, map}
use lib.Dec.{ltb}
use borrow.Author.Tests.{le-ltb}
use lib.ListN.{get_or, length, set, length-set, length-append}
use lib.Seq.{get_or-set_same, get_or-set_other}
use Rattle.rules.specs.Basics.{mem, keep, set_all}
use Rattle.rules.specs.Sequence.{Nor}
use Rattle.rules.specs.Netlist.{operands_of}
use Rattle.rules.specs.Cells.{blank, spent, keeps, cell_of, State, released, place}
use Rattle.rules.proofs.Laws.{no_way, snoc_self, snoc_more, or_right}
use Rattle.rules.proofs.Lists.{length-set_all}
use Rattle.netlist.specs.declared.Netlist.{Netlist}
use Rattle.netlist.specs.Flat.{gate_in, netlist_in}
use Rattle.netlist.specs.Well.{WellFlat}
use Rattle.mapper.specs.declared.cells.Hold.{Hold}
use Rattle.mapper.specs.declared.cells.Hold.TheVariants.{Ready, Spent, Keeps}
use Rattle.mapper.specs.declared.cells.Cells.{Cells}
use Rattle.mapper.specs.declared.signals.Signals.{Signals}
use Rattle.mapper.specs.Text.{entry}
use Rattle.mapper.specs.Held.{hold_of}
use Rattle.mapper.specs.Wanted.{Wanted}
use Rattle.mapper.specs.Run.{Placeable, Placed, operands_in, freed, code_text}
use Rattle.netlist.proofs.Arrays.{length_from, get_or-gates}
use Rattle.mapper.proofs.Wants.{wanted_released, still_counted, wanted_after}
use Rattle.mapper.proofs.Slots.{placed_holds}
use Rattle.mapper.proofs.Keeping.{kept_cells, kept_after, set_all_keeps, spent_not, keeps_inj}
use Rattle.mapper.proofs.Bounds.{texts_snoc, Bounded, bounded_place}
use Rattle.mapper.proofs.Mirror.{Mirrors, row_length}
use Rattle.mapper.proofs.Rooms.{Roomy}

-- ---- cells that are not ready stay so

set_unready : (l : List Hold) (c : ℕ) (v : Hold) (i : ℕ) → (v ≡ Ready → ⊥) → get_or (set l c v) i Keeps ≡ Ready → get_or l i Keeps ≡ Ready
set_unready [] c v i n e = e
set_unready (x ∷ l) zero v zero n e = absurd (n e)
set_unready (x ∷ l) zero v (suc i) n e = e
set_unready (x ∷ l) (suc c) v zero n e = e
set_unready (x ∷ l) (suc c) v (suc i) n e = set_unready l c v i n e

spend_unready : (cs : List ℕ) (l : List Hold) (i : ℕ) → get_or (set_all Spent cs l) i Keeps ≡ Ready → get_or l i Keeps ≡ Ready
unfolding set_all
spend_unready [] l i e = e
spend_unready (c ∷ cs) l i e = set_unready l c Spent i (λ z. cc) (spend_unready cs (set l c Spent) i e)

-- ---- the rule's operands

pub operands_are : (n : Netlist) (s : ℕ) → s - n.inputs < n.gates → operands_of (netlist_in n) s ≡ gate_in n.ops n.counts (s - n.inputs)
unfolding operands_of netlist_in
operands_are n s h = get_or-gates n.ops n.counts n.gates (s - n.inputs) [] h

pub gate_few : (n : Netlist) → WellFlat n → (g : ℕ) → g < n.gates → length (gate_in n.ops n.counts g) ≤ 4
unfolding gate_in
gate_few n w g h = omega (arith, length_from n.ops (4 * g) (get_or n.counts g 0), w.few g h)

-- ---- a gate of the order in the cell that was found

module _ (n : Netlist) (well : WellFlat n) {row i : ℕ} {S : State} {st : Cells} (g : Signals) {text : List ℕ} (w : Roomy n row i S st g.table g.left text) (s : ℕ)
    (gate : n.inputs ≤ s) (known : s < n.inputs + n.gates) (fresh : mem s S.done ≡ false) where
  fresh' : mem s w.S'.done ≡ false
  fresh' = rw w.done fresh

  pub gate_placeable : g.inputs ≡ n.inputs → i ≤ 576 → Placeable n s st g text
  gate_placeable e h = record {
    inputs = e;
    gate = gate;
    known = omega (arith, well.gates_most);
    few = well.few (s - n.inputs) (omega arith);
    counted = still_counted n s gate known fresh' w.mirrors.wanted;
    cell = omega (arith, w.inside, w.mirrors.size);
    short = omega (arith, ap length w.text_is, w.half.short);
    lines = omega (arith, w.mirrors.lines, w.half.few);
  }

  module _ {st' : Cells} {g' : Signals} {text' : List ℕ} (x : Placed n s st g text st' g' text') where
    rel : List ℕ
    rel = freed n.inputs (operands_in n s) g'.left

    wanted' : Wanted n (w.S'.done ++ (s ∷ [])) g'.left
    wanted' = wanted_after n s gate known fresh' w.mirrors.wanted x.down

    -- what the rule releases is what nobody wants
    rel_same : keep (released (netlist_in n) (w.S'.done ++ (s ∷ []))) (operands_of (netlist_in n) s) ≡ rel
    unfolding rel
    rel_same = rw (operands_are n s (omega arith)) (ap (λ p. keep p (operands_in n s)) (fun_ext (wanted_released n wanted')))

    cells_same : (l : List ℕ) → map (entry g.table) l ≡ map (cell_of w.S'.slots) l
    cells_same l = kept_cells w.mirrors.kept l

    slots_are : (place (netlist_in n) s st.next w.S').slots ≡ set_all spent (map (cell_of w.S'.slots) rel) (set w.S'.slots st.next (keeps s))
    unfolding place
    slots_are = rw rel_same

    code_is : (place (netlist_in n) s st.next w.S').code ≡ w.S'.code ++ (Nor st.next (map (entry g.table) (operands_in n s)) ∷ [])
    unfolding place
    code_is = rw (operands_are n s (omega arith), cells_same (operands_in n s))

    new : (d : ℕ) → get_or w.S'.slots d blank ≡ keeps s → ⊥
    new d e =
        let z = w.mirrors.within d s e in
        let y : (ltb s n.inputs || mem s w.S'.done) ≡ false = rw (le-ltb s n.inputs gate, fresh') in
        no_way (cc)

    within' : (d t : ℕ) → get_or (place (netlist_in n) s st.next w.S').slots d blank ≡ keeps t → (ltb t n.inputs || mem t (w.S'.done ++ (s ∷ []))) ≡ true
    within' d t e =
        let a = set_all_keeps spent (λ y. spent_not) (map (cell_of w.S'.slots) rel) (set w.S'.slots st.next (keeps s)) d t (rw slots_are at e) in
        go (ℕ_discrete d st.next) a.0
      where
        more : (b d : Bool) → (b || d) ≡ true → (f : Bool) → (d ≡ true → f ≡ true) → (b || f) ≡ true
        more true d p f h = refl
        more false d p f h = h p

        go : Dec (d ≡ st.next) → get_or (set w.S'.slots st.next (keeps s)) d blank ≡ keeps t → (ltb t n.inputs || mem t (w.S'.done ++ (s ∷ []))) ≡ true
        go (yes q) f =
            let z : keeps s ≡ keeps t = sym (get_or-set_same w.S'.slots st.next (keeps s) blank (omega (arith, row_length w.mirrors, w.inside))) ∙ (rw q at f) in
            let y : s ≡ t = keeps_inj s t z in
            rw (← y) (or_right (ltb s n.inputs) (mem s (w.S'.done ++ (s ∷ []))) (snoc_self w.S'.done s))
        go (no q) f =
            let z = w.mirrors.within d t (sym (get_or-set_other w.S'.slots st.next d (keeps s) blank q) ∙ f) in
            more (ltb t n.inputs) (mem t w.S'.done) z (mem t (w.S'.done ++ (s ∷ []))) (snoc_more t w.S'.done s)

    pub gate_mirrors : s < length g.table → Mirrors n row (place (netlist_in n) s st.next w.S') st' g'.table g'.left
    unfolding place rel
    gate_mirrors h = record {
      rows = x.row ∙ w.mirrors.rows;
      size = w.mirrors.size;
      long = rw x.held (length-set_all Spent (map (entry g.table) rel) (set st.held st.next Keeps) ∙ length-set st.held st.next Keeps ∙ w.mirrors.long);
      inside = omega (arith, x.next, w.mirrors.inside);
      low = λ j l e. w.mirrors.low j (omega (arith, x.next))
          (set_unready st.held st.next Keeps j (λ z. cc) (spend_unready (map (entry g.table) rel) (set st.held st.next Keeps) j (rw x.held at e)));
      cells = rw (x.held, x.row, cells_same rel)
          (placed_holds st.row st.held (map (cell_of w.S'.slots) rel) st.next s w.S'.slots w.mirrors.cells ∙ ap (map hold_of) (sym slots_are));
      kept = rw (x.table, slots_are) (kept_after w.mirrors.kept s st.next rel h (omega (arith, row_length w.mirrors, w.inside)) w.ready new);
      within = within';
      wanted = wanted';
      lines = x.lines ∙ ap (λ k. k + 1) w.mirrors.lines ∙ sym (length-append w.S'.code (Nor st.next (map (cell_of w.S'.slots) (operands_of (netlist_in n) s)) ∷ []));
    }

    pub gate_text : text' ≡ code_text (place (netlist_in n) s st.next w.S').code
    gate_text = x.line ∙ rw (code_is, texts_snoc, w.text_is)

    pub gate_bounded : Bounded (place (netlist_in n) s st.next w.S') (i + 1)
    gate_bounded = bounded_place (netlist_in n) s st.next w.half (rw (operands_are n s (omega arith)) (gate_few n well (s - n.inputs) (omega arith)))

    pub gate_wide : length g'.table ≡ length g.table
    unfolding rel
    gate_wide = rw x.table (length-set (set_all 0 rel g.table) s st.next ∙ length-set_all 0 rel g.table)
