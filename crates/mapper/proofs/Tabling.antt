-- Operands that nobody wants any more: their cells spent, their entries 0.
-- Assumes nothing.
use Prim.Native.Nat.{ℕ, ◌+◌, ◌<◌, ◌≤◌}
use native.Mathlib.Numerals.{add-one}
use mathlib.Core.Path.{◌≡◌}
use mathlib.Core.Bool.{true, false}
use mathlib.Core.List.{List, ◌∷◌, map}
use lib.ListN.{get_or, length, drop, set, drop_of_length-le}
use lib.Seq.{drop-cons}
use Rattle.rules.specs.Basics.{pick, keep, set_all}
use Rattle.mapper.specs.declared.cells.Hold.TheVariants.{Spent}
use Rattle.mapper.specs.declared.cells.Cells.{Cells}
use Rattle.mapper.specs.declared.signals.Signals.{Signals}
use Rattle.mapper.specs.Text.{entry}
use Rattle.mapper.specs.Held.{is_free}
use Rattle.mapper.specs.Run.{freed, Released, Forgotten}

-- the first of what is left, which is freed or not
module _ (inputs : ℕ) (os left : List ℕ) (i : ℕ) {o : ℕ} (h : i < length os) (e : o ≡ get_or os i 0) where
  next : drop i os ≡ o ∷ drop (i + 1) os
  next = rw (e, add-one i) (drop-cons os i 0 h)

  freed_this : is_free inputs left o ≡ true → freed inputs (drop i os) left ≡ o ∷ freed inputs (drop (i + 1) os) left
  unfolding keep pick
  freed_this t = rw (next, t)

  freed_other : is_free inputs left o ≡ false → freed inputs (drop i os) left ≡ freed inputs (drop (i + 1) os) left
  unfolding keep pick
  freed_other t = rw (next, t)

-- ---- the cells of those from i on are left to spend

pub record Spending (os : List ℕ) (g : Signals) (st₀ st : Cells) (i : ℕ) : Type 0 where
  pub held : set_all Spent (map (entry g.table) (freed g.inputs (drop i os) g.left)) st.held ≡ set_all Spent (map (entry g.table) (freed g.inputs os g.left)) st₀.held
  pub row : st.row ≡ st₀.row
  pub next : st.next ≡ st₀.next
  pub lines : st.lines ≡ st₀.lines

module _ {os : List ℕ} {g : Signals} {st₀ st : Cells} {i : ℕ} (w : Spending os g st₀ st i) where
  module _ {o : ℕ} (h : i < length os) (e : o ≡ get_or os i 0) where
    pub spend_this : {c : ℕ} → is_free g.inputs g.left o ≡ true → c ≡ get_or g.table o 0
        → Spending os g st₀ (record { held = set st.held c Spent; row = st.row; next = st.next; lines = st.lines }) (i + 1)
    unfolding set_all
    spend_this t d = record {
      held = rw d (rw (freed_this g.inputs os g.left i h e t) at w.held);
      row = w.row;
      next = w.next;
      lines = w.lines;
    }

    pub spend_other : is_free g.inputs g.left o ≡ false → Spending os g st₀ st (i + 1)
    spend_other t = record { held = rw (freed_other g.inputs os g.left i h e t) at w.held; row = w.row; next = w.next; lines = w.lines }

  pub spend_end : length os ≤ i → Released os g st₀ st
  unfolding keep set_all
  spend_end h = record { held = rw (drop_of_length-le os h) at w.held; row = w.row; next = w.next; lines = w.lines }

-- ---- the entries of those from i on are left to forget

pub record Forgetting (os : List ℕ) (g₀ g : Signals) (i : ℕ) : Type 0 where
  pub inputs : g.inputs ≡ g₀.inputs
  pub table : set_all 0 (freed g₀.inputs (drop i os) g₀.left) g.table ≡ set_all 0 (freed g₀.inputs os g₀.left) g₀.table
  pub left : g.left ≡ g₀.left

module _ {os : List ℕ} {g₀ g : Signals} {i : ℕ} (w : Forgetting os g₀ g i) where
  module _ {o : ℕ} (h : i < length os) (e : o ≡ get_or os i 0) where
    pub forget_this : {table : List ℕ} → is_free g.inputs g.left o ≡ true → table ≡ set g.table o 0 → Forgetting os g₀ (record { inputs = g.inputs; table = table; left = g.left }) (i + 1)
    unfolding set_all
    forget_this t d = record {
      inputs = w.inputs;
      table = rw d (rw (freed_this g₀.inputs os g₀.left i h e (rw (w.inputs, w.left) at t)) at w.table);
      left = w.left;
    }

    pub forget_other : is_free g.inputs g.left o ≡ false → Forgetting os g₀ g (i + 1)
    forget_other t = record { inputs = w.inputs; table = rw (freed_other g₀.inputs os g₀.left i h e (rw (w.inputs, w.left) at t)) at w.table; left = w.left }

  pub forget_end : length os ≤ i → Forgotten os g₀ g
  unfolding keep set_all
  forget_end h = record { inputs = w.inputs; table = rw (drop_of_length-le os h) at w.table; left = w.left }
