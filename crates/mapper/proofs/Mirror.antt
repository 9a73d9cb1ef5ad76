-- The code's mapping state beside the rule's, and a cell found for the next gate.
-- Assumes nothing.
use Prim.Native.Nat.{ℕ, zero, suc, ◌+◌, ◌<◌, ◌≤◌}
use native.Mathlib.Omega.{arith}
use mathlib.Core.Path.{◌≡◌, sym, ap, ◌∙◌}
use mathlib.Core.Bool.{true, ◌||◌}
use mathlib.Core.List.{List, [], ◌∷◌, map}
use mathlib.Core.Option.{none, some}
use lib.Dec.{ltb}
use lib.ListN.{get_or, length, length-map}
use lib.Seq.{get_or-take, length-take-le}
use Rattle.rules.specs.Basics.{mem}
use Rattle.rules.specs.Cells.{Slot, blank, ready, keeps, is_ready, lowest, State}
use Rattle.netlist.specs.declared.Netlist.{Netlist}
use Rattle.mapper.specs.declared.cells.Hold.TheVariants.{Ready, Keeps}
use Rattle.mapper.specs.declared.cells.Cells.{Cells}
use Rattle.mapper.specs.Held.{hold_of, cells_of, NoneBelow, Sought}
use Rattle.mapper.specs.Wanted.{Wanted}
use Rattle.mapper.proofs.Slots.{ready_hold, lowest_found, lowest_none}
use Rattle.mapper.proofs.Keeping.{Kept}

-- ---- the state beside the rule's

pub record Mirrors (n : Netlist) (row : ℕ) (S : State) (st : Cells) (cell left : List ℕ) : Type 0 where
  pub rows : st.row ≡ row
  pub size : row ≤ 256
  pub long : length st.held ≡ 256
  pub inside : st.next ≤ row
  pub low : NoneBelow st.held st.next
  pub cells : cells_of st ≡ map hold_of S.slots
  pub kept : Kept cell S.slots
  -- every kept signal is an input or has been executed
  pub within : (c s : ℕ) → get_or S.slots c blank ≡ keeps s → (ltb s n.inputs || mem s S.done) ≡ true
  pub wanted : Wanted n S.done left
  pub lines : st.lines ≡ length S.code

module _ {n : Netlist} {row : ℕ} {S : State} {st : Cells} {cell left : List ℕ} (w : Mirrors n row S st cell left) where
  pub row_length : length S.slots ≡ row
  row_length =
      sym (length-map S.slots hold_of) ∙ sym (ap length w.cells) ∙ length-take-le st.row st.held (omega (arith, w.rows, w.size, w.long)) ∙ w.rows

  hold_at : (j : ℕ) → j < row → get_or (map hold_of S.slots) j Keeps ≡ get_or st.held j Keeps
  hold_at j h = rw (← w.cells) (get_or-take st.row st.held j Keeps (omega (arith, w.rows)))

  -- the cursor is at the lowest ready cell, or there is none
  module _ {r : Cells} (s : Sought st r) where
    pub inside' : r.next < row
    inside' = omega (arith, s.inside, s.row, w.rows)

    ready_here : get_or (map hold_of S.slots) r.next Keeps ≡ Ready
    ready_here = hold_at r.next inside' ∙ (rw s.held at s.found)

    pub sought_some : lowest is_ready 0 S.slots ≡ some r.next
    sought_some =
        let z : 0 + r.next ≡ r.next = omega arith in
        rw z at (lowest_found 0 S.slots r.next (omega (arith, row_length, inside')) ready_here
        (λ j k e. s.low j (omega arith) (rw s.held (sym (hold_at j (omega (arith, inside'))) ∙ e))))

    pub mirror_ready : get_or S.slots r.next blank ≡ ready
    mirror_ready = ready_slot S.slots r.next (omega (arith, row_length, inside')) ready_here
      where
        ready_slot : (l : List Slot) (c : ℕ) → c < length l → get_or (map hold_of l) c Keeps ≡ Ready → get_or l c blank ≡ ready
        ready_slot [] c h e = absurd (omega arith)
        ready_slot (a ∷ l) zero h e = ready_hold a e
        ready_slot (a ∷ l) (suc c) h e = ready_slot l c (omega arith) e

  pub sought_none : NoneBelow st.held st.row → lowest is_ready 0 S.slots ≡ none
  sought_none s = lowest_none 0 S.slots (λ j k e. s j (omega (arith, row_length, w.rows)) (sym (hold_at j (omega (arith, row_length))) ∙ e))

  pub sought_mirrors : {r : Cells} → Sought st r → Mirrors n row S r cell left
  sought_mirrors s = record {
    rows = s.row ∙ w.rows;
    size = w.size;
    long = rw s.held w.long;
    inside = omega (arith, s.inside, s.row, w.rows);
    low = s.low;
    cells = rw (s.held, s.row) w.cells;
    kept = w.kept;
    within = w.within;
    wanted = w.wanted;
    lines = s.lines ∙ w.lines;
  }
