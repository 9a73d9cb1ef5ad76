-- How long the text can get: every gate writes at most one NOR line and one set line, and a cell that is set was spent before.
-- Assumes nothing.
use Prim.Native.Nat.{ℕ, zero, suc, ◌+◌, ◌*◌, ◌≤◌}
use native.Mathlib.Omega.{arith}
use mathlib.Core.Path.{◌≡◌, refl, sym, ap, ◌∙◌}
use mathlib.Core.Bool.{Bool, true, false}
use mathlib.Core.List.{List, [], ◌∷◌, ◌++◌, map, append-nil, append_assoc}
use lib.ListN.{length, set, length-append, length-map}
use Rattle.rules.specs.Basics.{pick, keep, set_all}
use Rattle.rules.specs.Form.{form01}
use Rattle.rules.specs.Lines.{written}
use Rattle.rules.specs.Sequence.{Instruction, Set, Nor, instruction_text, texts}
use Rattle.rules.specs.Netlist.{operands_of}
use Rattle.rules.specs.Netlist as rules
use Rattle.rules.specs.Cells.{Slot, blank, ready, spent, keeps, is_spent, those, cell_of, State, released, place, set_cells, all_spent}
use Rattle.mapper.specs.Run.{code_text}
use Rattle.mapper.proofs.Slots.{renew_slot, renewed_slots}
use Rattle.mapper.proofs.Writing.{set_text, nor_text}

-- ---- lengths

pub written_length : (l : List ℕ) → length (written l) ≡ 2 * length l + 1
unfolding written
written_length [] = refl
written_length (b ∷ l) = omega (arith, written_length l)

keep_most : (p : ℕ → Bool) (l : List ℕ) → length (keep p l) ≤ length l
unfolding keep pick
keep_most p [] = omega arith
keep_most p (a ∷ l) = go (p a) (keep_most p l)
  where
    go : (b : Bool) → length (keep p l) ≤ length l → length (pick b (a ∷ keep p l) (keep p l)) ≤ suc (length l)
    go true h = omega arith
    go false h = omega arith

pub texts_snoc : (is : List Instruction) (i : Instruction) → code_text (is ++ (i ∷ [])) ≡ code_text is ++ instruction_text form01 i
unfolding texts
texts_snoc [] i = append-nil (instruction_text form01 i)
texts_snoc (j ∷ is) i = ap (λ t. instruction_text form01 j ++ t) (texts_snoc is i) ∙ sym (append_assoc (instruction_text form01 j) (code_text is) (instruction_text form01 i))

-- ---- spent cells

spent_step : (a b : Slot) (k : ℕ) (l : List Slot) → length (those is_spent k (b ∷ l)) ≤ suc (length (those is_spent k (a ∷ l)))
unfolding those
spent_step a b k l = go (is_spent a) (is_spent b) (those is_spent (suc k) l)
  where
    go : (x y : Bool) (t : List ℕ) → length (pick y (k ∷ t) t) ≤ suc (length (pick x (k ∷ t) t))
    go true true t = omega arith
    go true false t = omega arith
    go false true t = omega arith
    go false false t = omega arith

spent_more : (a : Slot) (k : ℕ) (l m : List Slot) (d : ℕ) → length (those is_spent (suc k) l) ≤ d + length (those is_spent (suc k) m) → length (those is_spent k (a ∷ l)) ≤ d + length (those is_spent k (a ∷ m))
unfolding those
spent_more a k l m d h = go (is_spent a)
  where
    go : (x : Bool) → length (pick x (k ∷ those is_spent (suc k) l) (those is_spent (suc k) l)) ≤ d + length (pick x (k ∷ those is_spent (suc k) m) (those is_spent (suc k) m))
    go true = omega arith
    go false = h

spent_set : (k : ℕ) (l : List Slot) (c : ℕ) (v : Slot) → length (those is_spent k (set l c v)) ≤ 1 + length (those is_spent k l)
spent_set k [] c v = omega arith
spent_set k (a ∷ l) zero v = omega (arith, spent_step a v k l)
spent_set k (a ∷ l) (suc c) v = spent_more a k (set l c v) l 1 (spent_set (suc k) l c v)

spent_set_all : (v : Slot) (cs : List ℕ) (l : List Slot) → length (those is_spent 0 (set_all v cs l)) ≤ length cs + length (those is_spent 0 l)
unfolding set_all
spent_set_all v [] l = omega arith
spent_set_all v (c ∷ cs) l = omega (arith, spent_set_all v cs (set l c v), spent_set 0 l c v)

none_spent : (k : ℕ) (l : List Slot) → those is_spent k (map renew_slot l) ≡ []
unfolding those is_spent pick
none_spent k [] = refl
none_spent k (blank ∷ l) = none_spent (suc k) l
none_spent k (ready ∷ l) = none_spent (suc k) l
none_spent k (spent ∷ l) = none_spent (suc k) l
none_spent k (keeps s ∷ l) = none_spent (suc k) l

all_gone : (l : List Slot) → all_spent (map renew_slot l) ≡ []
unfolding all_spent
all_gone l = none_spent 0 l

no_more : (l : List Slot) → length (all_spent (set_all ready (all_spent l) l)) ≡ 0
no_more l = rw (renewed_slots l) (gone l)
  where
    gone : (l : List Slot) → length (all_spent (map renew_slot l)) ≡ 0
    gone l = ap length (all_gone l)

-- ---- a state's text and its spent cells, after i gates

pub record Bounded (S : State) (i : ℕ) : Type 0 where
  pub short : length (code_text S.code) + 2 * length (all_spent S.slots) ≤ 520 + 26 * i
  pub few : length S.code ≤ 1 + 2 * i

-- halfway through gate i, when its set line is written
pub record Halfway (S : State) (i : ℕ) : Type 0 where
  pub short : length (code_text S.code) + 2 * length (all_spent S.slots) ≤ 523 + 26 * i
  pub few : length S.code ≤ 2 + 2 * i

pub halfway_at_once : {S : State} {i : ℕ} → Bounded S i → Halfway S i
halfway_at_once b = record { short = omega (arith, b.short); few = omega (arith, b.few) }

pub halfway_set : (N : rules.Netlist) {S : State} {i : ℕ} → Bounded S i → Halfway (set_cells N (all_spent S.slots) S) i
unfolding set_cells
halfway_set N {S} {i} b =
    let cs = all_spent S.slots in
    let t : length (code_text (S.code ++ (Set cs ∷ []))) ≡ length (code_text S.code) + (2 * suc (length cs) + 1) =
    ap length (texts_snoc S.code (Set cs)) ∙ length-append (code_text S.code) (instruction_text form01 (Set cs)) ∙ rw (set_text cs, written_length (0x12 ∷ cs)) in
    let z : length (all_spent (set_all ready cs S.slots)) ≡ 0 = no_more S.slots in
    let c = length-append S.code (Set cs ∷ []) in
    record { short = omega (arith, b.short, t, z); few = omega (arith, b.few, c) }

pub bounded_place : (N : rules.Netlist) {S : State} {i : ℕ} (g c : ℕ) → Halfway S i → length (operands_of N g) ≤ 4 → Bounded (place N g c S) (i + 1)
unfolding place all_spent
bounded_place N {S} {i} g c b h =
    let os = operands_of N g in
    let rel = keep (released N (S.done ++ (g ∷ []))) os in
    let cells = map (cell_of S.slots) rel in
    let nor = Nor c (map (cell_of S.slots) os) in
    let t : length (code_text (S.code ++ (nor ∷ []))) ≡ length (code_text S.code) + (2 * suc (suc (length (map (cell_of S.slots) os))) + 1) =
    ap length (texts_snoc S.code nor) ∙ length-append (code_text S.code) (instruction_text form01 nor)
    ∙ rw (nor_text c (map (cell_of S.slots) os), written_length (0x13 ∷ c ∷ map (cell_of S.slots) os)) in
    let a = length-map os (cell_of S.slots) in
    let e = length-map rel (cell_of S.slots) in
    let m = keep_most (released N (S.done ++ (g ∷ []))) os in
    let z = spent_set_all spent cells (set S.slots c (keeps g)) in
    let y = spent_set 0 S.slots c (keeps g) in
    let n = length-append S.code (nor ∷ []) in
    record { short = omega (arith, b.short, t, a, e, m, z, y, h); few = omega (arith, b.few, n) }
