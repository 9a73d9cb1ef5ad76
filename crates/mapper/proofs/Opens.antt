-- The opening: all work cells set, the inputs in their cells; and a set line later on.
-- Assumes nothing.
use Prim.Native.Nat.{ℕ, zero, suc, ◌+◌, ◌-◌, ◌<◌, ◌≤◌}
use native.Mathlib.Omega.{arith}
use native.Mathlib.Decide.{dec_lt}
use mathlib.Core.Path.{◌≡◌, refl, sym, ap, ◌∙◌}
use mathlib.Core.List.{List, [], ◌∷◌, ◌++◌, map}
use lib.ListN.{get_or, length, take, replicate, length-replicate, length-map, get_or-append, get_or-map}
use lib.Seq.{get_or-append-add, take-append-add}
use Rattle.std.proofs.lemmas.List.{take-replicate}
use Rattle.rules.specs.Basics.{upto}
use Rattle.rules.specs.Cells.{Slot, blank, ready, spent, keeps, opening}
use Rattle.rules.proofs.Laws.{no_way}
use Rattle.rules.proofs.Lists.{length-upto}
use Rattle.netlist.specs.declared.Netlist.{Netlist}
use Rattle.netlist.specs.Flat.{netlist_in}
use Rattle.mapper.specs.declared.cells.Hold.{Hold}
use Rattle.mapper.specs.declared.cells.Hold.TheVariants.{Ready, Spent, Keeps}
use Rattle.mapper.specs.Held.{hold_of, cells_of, spent_in, renewed, first_held, first_cells}
use Rattle.mapper.specs.Run.{opened}
use Rattle.mapper.proofs.Slots.{renew_slot}
use Rattle.mapper.proofs.Keeping.{Kept, ready_not}

-- ---- a set line keeps every signal where it is

renew_keeps : (a : Slot) (s : ℕ) → renew_slot a ≡ keeps s → a ≡ keeps s
renew_keeps blank s e = e
renew_keeps ready s e = e
renew_keeps spent s e = absurd (ready_not e)
renew_keeps (keeps t) s e = e

keeps_renewed : (a : Slot) (s : ℕ) → a ≡ keeps s → renew_slot a ≡ keeps s
keeps_renewed a s e = rw e

pub renewed_at : (l : List Slot) (c s : ℕ) → get_or (map renew_slot l) c blank ≡ keeps s → get_or l c blank ≡ keeps s
renewed_at l c s e = renew_keeps (get_or l c blank) s (sym (get_or-map renew_slot l c blank) ∙ e)

pub kept_renewed : {cell : List ℕ} {l : List Slot} → Kept cell l → Kept cell (map renew_slot l)
kept_renewed {cell} {l} w = record {
  found = λ c s e. w.found c s (renewed_at l c s e);
  lost = λ s h. w.lost s (λ c e. h c (get_or-map renew_slot l c blank ∙ keeps_renewed (get_or l c blank) s e));
}

-- ---- the opening's slots

upto_at : (a k i : ℕ) → i < k → get_or (upto a k) i 0 ≡ a + i
unfolding upto
upto_at a zero i h = absurd (omega arith)
upto_at a (suc k) zero h = omega arith
upto_at a (suc k) (suc i) h = upto_at (suc a) k i (omega arith) ∙ omega arith

-- the inputs' slots, then ready ones
abbrev pub open_slots : ℕ → ℕ → List Slot
open_slots inputs k = map keeps (upto 0 inputs) ++ (replicate k ready ++ [])

pub opened_slots : (n : Netlist) (row : ℕ) → (opened n row).slots ≡ open_slots n.inputs (row - n.inputs)
unfolding opened netlist_in opening
opened_slots n row = let e : row - n.inputs - (row - n.inputs) ≡ 0 = omega arith in rw e

none_ready : (k c s : ℕ) → get_or (replicate k ready ++ []) c blank ≡ keeps s → ⊥
none_ready zero c s e = no_way (cc)
none_ready (suc k) zero s e = ready_not e
none_ready (suc k) (suc c) s e = none_ready k c s e

module _ (inputs k : ℕ) where
  input_slots : length (map keeps (upto 0 inputs)) ≡ inputs
  input_slots = length-map (upto 0 inputs) keeps ∙ length-upto 0 inputs

  pub open_input : (c : ℕ) → c < inputs → get_or (open_slots inputs k) c blank ≡ keeps c
  open_input c h =
      get_or-append (map keeps (upto 0 inputs)) (replicate k ready ++ []) blank c (omega (arith, input_slots)) ∙ go (upto 0 inputs) c (omega (arith, length-upto 0 inputs))
      ∙ ap keeps (upto_at 0 inputs c h ∙ omega arith)
    where
      go : (l : List ℕ) (i : ℕ) → i < length l → get_or (map keeps l) i blank ≡ keeps (get_or l i 0)
      go [] i h = absurd (omega arith)
      go (x ∷ l) zero h = refl
      go (x ∷ l) (suc i) h = go l i (omega arith)

  pub open_keeps : (c s : ℕ) → get_or (open_slots inputs k) c blank ≡ keeps s → (c < inputs) × (c ≡ s)
  open_keeps c s e = go (dec_lt c inputs)
    where
      go : Dec (c < inputs) → (c < inputs) × (c ≡ s)
      go (yes h) = let z : keeps c ≡ keeps s = sym (open_input c h) ∙ e in let y : c ≡ s = cc in (h, y)
      go (no h) =
          let z : c ≡ length (map keeps (upto 0 inputs)) + (c - inputs) = omega (arith, input_slots, h) in
          absurd (none_ready k (c - inputs) s (sym (get_or-append-add (map keeps (upto 0 inputs)) (replicate k ready ++ []) (c - inputs) blank) ∙ (rw z at e)))

  pub kept_open : (table : List ℕ) → ((s : ℕ) → s < inputs → get_or table s 0 ≡ s) → ((s : ℕ) → inputs ≤ s → get_or table s 0 ≡ 0) → Kept table (open_slots inputs k)
  kept_open table low high = record {
    found = λ c s e. let r = open_keeps c s e in rw (← r.1) (low c r.0);
    lost = λ s n. elim (dec_lt s inputs) [ yes l ↦ absurd (n s (open_input s l)) | no l ↦ high s (omega (arith, l)) ];
  }

-- ---- the state before the first line, and its set line

spent_ones : (k m : ℕ) → spent_in k (replicate m Spent) ≡ upto k m
unfolding spent_in upto
spent_ones k zero = refl
spent_ones k (suc m) = ap (λ t. k ∷ t) (spent_ones (suc k) m)

spent_after : (k i : ℕ) (l : List Hold) → spent_in k (replicate i Keeps ++ l) ≡ spent_in (k + i) l
unfolding spent_in
spent_after k zero l = let e : k + 0 ≡ k = omega arith in rw e
spent_after k (suc i) l = let e : k + suc i ≡ suc k + i = omega arith in rw e (spent_after (suc k) i l)

first_row : (inputs row : ℕ) → inputs ≤ row → row ≤ 256 → take row (first_held inputs) ≡ replicate inputs Keeps ++ replicate (row - inputs) Spent
unfolding first_held
first_row inputs row h l =
    let e : row ≡ length (replicate inputs Keeps) + (row - inputs) = omega (arith, length-replicate inputs Keeps) in
    ap (λ k. take k (replicate inputs Keeps ++ replicate (256 - inputs) Spent)) e
    ∙ take-append-add (replicate inputs Keeps) (replicate (256 - inputs) Spent) (row - inputs)
    ∙ ap (λ t. replicate inputs Keeps ++ t) (take-replicate (row - inputs) (256 - inputs) Spent (omega arith))

pub first_spent : (inputs row : ℕ) → inputs ≤ row → row ≤ 256 → spent_in 0 (cells_of (first_cells inputs row)) ≡ upto inputs (row - inputs)
first_spent inputs row h l =
    let e : 0 + inputs ≡ inputs = omega arith in
    ap (spent_in 0) (first_row inputs row h l) ∙ spent_after 0 inputs (replicate (row - inputs) Spent) ∙ rw e (spent_ones inputs (row - inputs))

map-kept : (i : ℕ) (a : ℕ) (k : ℕ) → map renewed (replicate i Keeps ++ replicate k Spent) ≡ map hold_of (map keeps (upto a i) ++ (replicate k ready ++ []))
unfolding renewed hold_of upto
map-kept zero a zero = refl
map-kept zero a (suc k) = ap (λ t. Ready ∷ t) (map-kept zero a k)
map-kept (suc i) a k = ap (λ t. Keeps ∷ t) (map-kept i (suc a) k)

pub first_renewed : (inputs row : ℕ) → inputs ≤ row → row ≤ 256 → map renewed (cells_of (first_cells inputs row)) ≡ map hold_of (open_slots inputs (row - inputs))
first_renewed inputs row h l = ap (map renewed) (first_row inputs row h l) ∙ map-kept inputs 0 (row - inputs)
