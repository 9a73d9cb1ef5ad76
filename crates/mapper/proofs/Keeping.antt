-- The table of the signals' cells beside the rule's search of the slots: a kept signal's entry is its cell, any other's is 0.
-- Assumes nothing.
use Prim.Native.Nat.{ℕ, zero, suc, ◌+◌, ◌<◌}
use native.Mathlib.Omega.{arith}
use native.Mathlib.Decide.{ℕ_discrete, dec_lt}
use mathlib.Core.Path.{◌≡◌, refl, sym, ap, ◌∙◌}
use mathlib.Core.Bool.{Bool, true, false}
use mathlib.Core.List.{List, [], ◌∷◌, map}
use mathlib.Core.Option.{Option, none, some}
use lib.Dec.{eqb}
use borrow.Author.Tests.{eqb-true, eqb-false}
use lib.ListN.{get_or, length, set, length-set, get_or-eq_default}
use lib.Seq.{get_or-set_same, get_or-set_other}
use Rattle.rules.specs.Basics.{pick, mem, set_all}
use Rattle.rules.specs.Cells.{Slot, blank, ready, spent, keeps, is_keeping, lowest, or_zero, cell_of}
use Rattle.rules.proofs.Laws.{no_way, mem-nil, cons_cases, cons_self, cons_more}
use Rattle.rules.proofs.Lists.{length-set_all}

pub record Kept (cell : List ℕ) (l : List Slot) : Type 0 where
  pub found : (c s : ℕ) → get_or l c blank ≡ keeps s → get_or cell s 0 ≡ c
  pub lost : (s : ℕ) → ((c : ℕ) → get_or l c blank ≡ keeps s → ⊥) → get_or cell s 0 ≡ 0

-- ---- the rule's search: a cell that keeps s, or none does

pub data Search (s : ℕ) (l : List Slot) (o : Option ℕ) (k : ℕ) : Type 0 where
  at : (x : ℕ) → o ≡ some (k + x) → get_or l x blank ≡ keeps s → Search s l o k
  nowhere : o ≡ none → ((c : ℕ) → get_or l c blank ≡ keeps s → ⊥) → Search s l o k

pub keeps_inj : (s t : ℕ) → keeps s ≡ keeps t → s ≡ t
keeps_inj s t e = cc

not_kept : {s : ℕ} → ◌≡◌ {A = Slot} blank (keeps s) → ⊥
not_kept e = no_way (cc)

pub ready_not : {s : ℕ} → ◌≡◌ {A = Slot} ready (keeps s) → ⊥
ready_not e = no_way (cc)

pub spent_not : {s : ℕ} → ◌≡◌ {A = Slot} spent (keeps s) → ⊥
spent_not e = no_way (cc)

-- the search goes on behind a slot that does not keep s
behind : (s : ℕ) (a : Slot) (l : List Slot) (k : ℕ) → (a ≡ keeps s → ⊥) → Search s l (lowest (is_keeping s) (suc k) l) (suc k) → Search s (a ∷ l) (lowest (is_keeping s) (suc k) l) k
behind s a l k h (at x e f) = let z : suc k + x ≡ k + suc x = omega arith in at (suc x) (e ∙ ap some z) f
behind s a l k h (nowhere e f) = nowhere e go
  where
    go : (c : ℕ) → get_or (a ∷ l) c blank ≡ keeps s → ⊥
    go zero q = h q
    go (suc c) q = f c q

pub searched : (s : ℕ) (l : List Slot) (k : ℕ) → Search s l (lowest (is_keeping s) k l) k
unfolding lowest is_keeping pick
searched s [] k = nowhere refl (λ c e. not_kept e)
searched s (blank ∷ l) k = behind s blank l k not_kept (searched s l (suc k))
searched s (ready ∷ l) k = behind s ready l k ready_not (searched s l (suc k))
searched s (spent ∷ l) k = behind s spent l k spent_not (searched s l (suc k))
searched s (keeps t ∷ l) k = go (eqb s t) refl (searched s l (suc k))
  where
    go : (b : Bool) → eqb s t ≡ b → Search s l (lowest (is_keeping s) (suc k) l) (suc k) → Search s (keeps t ∷ l) (pick b (some k) (lowest (is_keeping s) (suc k) l)) k
    go true e r = let z : k ≡ k + 0 = omega arith in at 0 (ap some z) (ap keeps (sym (eqb-true s t e)))
    go false e r = behind s (keeps t) l k (λ q. eqb-false s t e (sym (keeps_inj t s q))) r

-- the table's entry is the cell that the rule finds
pub kept_cell : {cell : List ℕ} {l : List Slot} → Kept cell l → (s : ℕ) → get_or cell s 0 ≡ cell_of l s
unfolding cell_of or_zero
kept_cell {cell} {l} w s = go (lowest (is_keeping s) 0 l) (searched s l 0)
  where
    go : (o : Option ℕ) → Search s l o 0 → get_or cell s 0 ≡ or_zero o
    go o (at x e f) = let z : x ≡ 0 + x = omega arith in w.found x s f ∙ z ∙ sym (ap or_zero e)
    go o (nowhere e f) = w.lost s f ∙ sym (ap or_zero e)

pub kept_cells : {cell : List ℕ} {l : List Slot} → Kept cell l → (os : List ℕ) → map (λ o. get_or cell o 0) os ≡ map (cell_of l) os
kept_cells w [] = refl
kept_cells w (o ∷ os) = rw (kept_cell w o, kept_cells w os)

-- ---- several cells set

module _ (v : Slot) (no : (s : ℕ) → v ≡ keeps s → ⊥) where
  pub set_keeps : (l : List Slot) (c x s : ℕ) → get_or (set l c v) x blank ≡ keeps s → (get_or l x blank ≡ keeps s) × (x ≡ c → ⊥)
  set_keeps [] c x s e = absurd (not_kept e)
  set_keeps (a ∷ l) zero zero s e = absurd (no s e)
  set_keeps (a ∷ l) zero (suc x) s e = (e, λ q. omega arith)
  set_keeps (a ∷ l) (suc c) zero s e = (e, λ q. omega arith)
  set_keeps (a ∷ l) (suc c) (suc x) s e = let r = set_keeps l c x s e in (r.0, λ q. r.1 (omega arith))

  pub set_all_keeps : (cs : List ℕ) (l : List Slot) (x s : ℕ) → get_or (set_all v cs l) x blank ≡ keeps s → (get_or l x blank ≡ keeps s) × (mem x cs ≡ true → ⊥)
  unfolding set_all
  set_all_keeps [] l x s e = (e, λ m. mem-nil x m)
  set_all_keeps (c ∷ cs) l x s e =
      let r = set_all_keeps cs (set l c v) x s e in
      let q = set_keeps l c x s r.0 in
      (q.0, λ m. cons_cases ⊥ x c cs m q.1 r.1)

set_all_other : {A : Type 0} (v d : A) (cs : List ℕ) (l : List A) (x : ℕ) → (mem x cs ≡ true → ⊥) → get_or (set_all v cs l) x d ≡ get_or l x d
unfolding set_all
set_all_other v d [] l x h = refl
set_all_other v d (c ∷ cs) l x h =
    set_all_other v d cs (set l c v) x (λ m. h (cons_more x c cs m)) ∙ get_or-set_other l c x v d (λ e. h (rw e (cons_self c cs)))

set_all_zero : (cs l : List ℕ) (x : ℕ) → mem x cs ≡ true → get_or (set_all 0 cs l) x 0 ≡ 0
unfolding set_all
set_all_zero [] l x m = absurd (mem-nil x m)
set_all_zero (c ∷ cs) l x m = go (mem x cs) refl (set_all_zero cs (set l c 0) x)
  where
    zeroed : (l : List ℕ) → get_or (set l x 0) x 0 ≡ 0
    zeroed l = elim (dec_lt x (length l)) [ yes h ↦ get_or-set_same l x 0 0 h | no h ↦ get_or-eq_default (set l x 0) 0 (omega (arith, length-set l x 0, h)) ]

    go : (b : Bool) → mem x cs ≡ b → (mem x cs ≡ true → get_or (set_all 0 cs (set l c 0)) x 0 ≡ 0) → get_or (set_all 0 cs (set l c 0)) x 0 ≡ 0
    go true e ih = ih e
    go false e ih =
        let z : x ≡ c = cons_cases (x ≡ c) x c cs m (λ q. q) (λ q. absurd (no_way (cc))) in
        set_all_other 0 0 cs (set l c 0) x (λ q. no_way (cc)) ∙ rw (← z) (zeroed l)

mem-map : (f : ℕ → ℕ) (y : ℕ) (l : List ℕ) → mem y (map f l) ≡ true → (o : ℕ) × (mem o l ≡ true) × (f o ≡ y)
mem-map f y [] e = absurd (mem-nil y e)
mem-map f y (a ∷ l) e =
    cons_cases ((o : ℕ) × (mem o (a ∷ l) ≡ true) × (f o ≡ y)) y (f a) (map f l) e
    (λ q. (a, cons_self a l, sym q)) (λ m. let r = mem-map f y l m in (r.0, cons_more r.0 a l r.1, r.2))

map-mem : (f : ℕ → ℕ) (o : ℕ) (l : List ℕ) → mem o l ≡ true → mem (f o) (map f l) ≡ true
map-mem f o [] e = absurd (mem-nil o e)
map-mem f o (a ∷ l) e = cons_cases (mem (f o) (map f (a ∷ l)) ≡ true) o a l e (λ q. rw q (cons_self (f a) (map f l))) (λ m. cons_more (f o) (f a) (map f l) (map-mem f o l m))

-- ---- signal g put in the ready cell c, and the cells of the signals rel spent

module _ {cell : List ℕ} {l : List Slot} (w : Kept cell l) (g c : ℕ) (rel : List ℕ) (inside : g < length cell) (row : c < length l) (free : get_or l c blank ≡ ready)
    (new : (x : ℕ) → get_or l x blank ≡ keeps g → ⊥) where
  cells : List ℕ
  cells = map (cell_of l) rel

  -- a cell among those spent keeps one of rel, or is cell 0
  spent_cell : (y : ℕ) → mem y cells ≡ true → ((s : ℕ) → mem s rel ≡ true → get_or l y blank ≡ keeps s → ⊥) → y ≡ 0
  unfolding cells
  spent_cell y m h =
      let r = mem-map (cell_of l) y rel m in
      let t : get_or cell r.0 0 ≡ y = kept_cell w r.0 ∙ r.2 in
      go r.0 r.1 t (lowest (is_keeping r.0) 0 l) (searched r.0 l 0)
    where
      go : (o : ℕ) → mem o rel ≡ true → get_or cell o 0 ≡ y → (p : Option ℕ) → Search o l p 0 → y ≡ 0
      go o q t p (at x e f) = absurd (h o q (rw (sym (w.found x o f) ∙ t) at f))
      go o q t p (nowhere e f) = sym t ∙ w.lost o f

  after : List Slot
  after = set_all spent cells (set l c (keeps g))

  entry_other : (s : ℕ) → (s ≡ g → ⊥) → get_or (set (set_all 0 rel cell) g c) s 0 ≡ get_or (set_all 0 rel cell) s 0
  entry_other s q = get_or-set_other (set_all 0 rel cell) g s c 0 q

  entry_self : get_or (set (set_all 0 rel cell) g c) g 0 ≡ c
  entry_self = get_or-set_same (set_all 0 rel cell) g c 0 (omega (arith, length-set_all 0 rel cell))

  found_after : (x s : ℕ) → get_or after x blank ≡ keeps s → get_or (set (set_all 0 rel cell) g c) s 0 ≡ x
  unfolding after cells
  found_after x s e = let r = set_all_keeps spent (λ t. spent_not) cells (set l c (keeps g)) x s e in go (ℕ_discrete x c) r.0 r.1
    where
      go : Dec (x ≡ c) → get_or (set l c (keeps g)) x blank ≡ keeps s → (mem x cells ≡ true → ⊥) → get_or (set (set_all 0 rel cell) g c) s 0 ≡ x
      go (yes q) f m =
          let z : keeps g ≡ keeps s = sym (get_or-set_same l c (keeps g) blank row) ∙ (rw q at f) in
          let y : g ≡ s = keeps_inj g s z in
          rw (← y, q) entry_self
      go (no q) f m =
          let z : get_or l x blank ≡ keeps s = sym (get_or-set_other l c x (keeps g) blank q) ∙ f in
          entry_other s (λ e. new x (rw e at z))
          ∙ set_all_other 0 0 rel cell s (λ i. m (rw (← (sym (kept_cell w s) ∙ w.found x s z)) (map-mem (cell_of l) s rel i)))
          ∙ w.found x s z

  lost_after : (s : ℕ) → ((x : ℕ) → get_or after x blank ≡ keeps s → ⊥) → get_or (set (set_all 0 rel cell) g c) s 0 ≡ 0
  unfolding after cells
  lost_after s h = go (ℕ_discrete s g)
    where
      own : (b : Bool) → mem c cells ≡ b → s ≡ g → c ≡ 0
      own true m e = spent_cell c m (λ t i f. ready_not (sym free ∙ f))
      own false m e =
          absurd (h c (set_all_other spent blank cells (set l c (keeps g)) c (λ q. no_way (cc)) ∙ get_or-set_same l c (keeps g) blank row ∙ ap keeps (sym e)))

      kept : (y : ℕ) → (mem s rel ≡ true → ⊥) → get_or l y blank ≡ keeps s → (b : Bool) → mem y cells ≡ b → y ≡ 0
      kept y n f true m = spent_cell y m (λ t i q. n (rw (keeps_inj s t (sym f ∙ q)) i))
      kept y n f false m =
          absurd (h y (set_all_other spent blank cells (set l c (keeps g)) y (λ q. no_way (cc))
          ∙ get_or-set_other l c y (keeps g) blank (λ q. ready_not (sym free ∙ (rw q at f))) ∙ f))

      left : (mem s rel ≡ true → ⊥) → (p : Option ℕ) → Search s l p 0 → get_or cell s 0 ≡ 0
      left n p (at y e f) = w.found y s f ∙ kept y n f (mem y cells) refl
      left n p (nowhere e f) = w.lost s f

      other : (b : Bool) → mem s rel ≡ b → get_or (set_all 0 rel cell) s 0 ≡ 0
      other true m = set_all_zero rel cell s m
      other false m = set_all_other 0 0 rel cell s (λ q. no_way (cc)) ∙ left (λ q. no_way (cc)) (lowest (is_keeping s) 0 l) (searched s l 0)

      go : Dec (s ≡ g) → get_or (set (set_all 0 rel cell) g c) s 0 ≡ 0
      go (yes e) = rw e entry_self ∙ own (mem c cells) refl e
      go (no e) = entry_other s e ∙ other (mem s rel) refl

  pub kept_after : Kept (set (set_all 0 rel cell) g c) (set_all spent (map (cell_of l) rel) (set l c (keeps g)))
  unfolding after cells
  kept_after = record { found = found_after; lost = lost_after }
