-- Laws of slots: which pass a test, which is the lowest, which keeps a signal, and what many stores leave.
-- Assumes nothing.
use Rattle.std.proofs.Common.{ℕ, zero, suc, ◌+◌, ◌<◌, arith, ◌≡◌, refl, sym, ap, ◌∙◌, Bool, true, false, ◌||◌, List, [], ◌∷◌, map, eqb, eqb-true, eq-eqb, ne_eqb, get_or, length, set, get_or-set_same, get_or-set_other, lt-length-set}
use native.Mathlib.Decide.{ℕ_discrete}
use mathlib.Core.Option.{some}
use Rattle.rules.specs.Basics.{pick, mem, ascending, set_all}
use Rattle.rules.specs.Cells.{Slot, blank, ready, spent, keeps, is_ready, is_spent, is_keeping, those, lowest, or_zero, cell_of}
use Rattle.rules.proofs.Laws.{by_pick, cons_cases, cons_more, cons_self, mem-nil}
use Rattle.rules.proofs.Lists.{asc_cons}

-- ---- one slot

pub is_ready_lem : (x : Slot) → is_ready x ≡ true → x ≡ ready
unfolding is_ready
is_ready_lem blank e = cc
is_ready_lem ready e = refl
is_ready_lem spent e = cc
is_ready_lem (keeps s) e = cc

pub is_spent_lem : (x : Slot) → is_spent x ≡ true → x ≡ spent
unfolding is_spent
is_spent_lem blank e = cc
is_spent_lem ready e = cc
is_spent_lem spent e = refl
is_spent_lem (keeps s) e = cc

pub is_keeping_lem : (s : ℕ) (x : Slot) → is_keeping s x ≡ true → x ≡ keeps s
unfolding is_keeping
is_keeping_lem s blank e = cc
is_keeping_lem s ready e = cc
is_keeping_lem s spent e = cc
is_keeping_lem s (keeps t) e = ap keeps (sym (eqb-true s t e))

-- ---- the cells that pass a test, and the lowest of them

-- what is named passes the test, and lies in the row
pub those_in : (p : Slot → Bool) (l : List Slot) (k y : ℕ) → mem y (those p k l) ≡ true → (x : ℕ) × (k + x ≡ y) × (x < length l) × (p (get_or l x blank) ≡ true)
unfolding those pick
those_in p [] k y e = absurd (mem-nil y e)
those_in p (s ∷ l) k y e = go (p s) refl e (those_in p l (suc k) y)
  where
    Goal : Type 0
    Goal = (x : ℕ) × (k + x ≡ y) × (x < suc (length l)) × (p (get_or (s ∷ l) x blank) ≡ true)

    up : (x : ℕ) × (suc k + x ≡ y) × (x < length l) × (p (get_or l x blank) ≡ true) → Goal
    up h = (suc h.0, omega arith, omega arith, h.3)

    go : (t : Bool) → p s ≡ t → mem y (pick t (k ∷ those p (suc k) l) (those p (suc k) l)) ≡ true
        → (mem y (those p (suc k) l) ≡ true → (x : ℕ) × (suc k + x ≡ y) × (x < length l) × (p (get_or l x blank) ≡ true)) → Goal
    go true q f rec = cons_cases Goal y k (those p (suc k) l) f (λ z. (0, omega arith, omega arith, q)) (λ z. up (rec z))
    go false q f rec = up (rec f)

pub those_asc : (p : Slot → Bool) (l : List Slot) (k : ℕ) → ascending (those p k l) ≡ true
unfolding those ascending
those_asc p [] k = refl
those_asc p (s ∷ l) k =
    by_pick (λ (t : List ℕ). ascending t ≡ true) (p s)
    (λ _. asc_cons k (those p (suc k) l) (λ x m. let (y, q, h, z) = those_in p l (suc k) x m in omega arith) (those_asc p l (suc k)))
    (λ _. those_asc p l (suc k))

pub lowest_some : (p : Slot → Bool) (l : List Slot) (k c : ℕ) → lowest p k l ≡ some c → (x : ℕ) × (k + x ≡ c) × (p (get_or l x blank) ≡ true)
unfolding lowest pick
lowest_some p [] k c e = cc
lowest_some p (s ∷ l) k c e = go (p s) refl e (lowest_some p l (suc k) c)
  where
    go : (t : Bool) → p s ≡ t → pick t (some k) (lowest p (suc k) l) ≡ some c
        → (lowest p (suc k) l ≡ some c → (x : ℕ) × (suc k + x ≡ c) × (p (get_or l x blank) ≡ true))
        → (x : ℕ) × (k + x ≡ c) × (p (get_or (s ∷ l) x blank) ≡ true)
    go true q f rec = let z : k ≡ c = cc in (0, omega arith, q)
    go false q f rec = let h = rec f in (suc h.0, omega arith, h.2)

pub lowest_found : (p : Slot → Bool) → p blank ≡ false → (l : List Slot) (k x : ℕ) → p (get_or l x blank) ≡ true → (c : ℕ) × (lowest p k l ≡ some c)
unfolding lowest pick
lowest_found p pb [] k x e = cc
lowest_found p pb (s ∷ l) k x e = go (p s) refl x e (lowest_found p pb l (suc k))
  where
    go : (t : Bool) → p s ≡ t → (x : ℕ) → p (get_or (s ∷ l) x blank) ≡ true → ((x : ℕ) → p (get_or l x blank) ≡ true → (c : ℕ) × (lowest p (suc k) l ≡ some c))
        → (c : ℕ) × (pick t (some k) (lowest p (suc k) l) ≡ some c)
    go true q x f rec = (k, refl)
    go false q zero f rec = cc
    go false q (suc x) f rec = rec x f

-- the lowest ready cell is ready
pub lowest_ready : (l : List Slot) (c : ℕ) → lowest is_ready 0 l ≡ some c → get_or l c blank ≡ ready
lowest_ready l c e =
    let (x, p, q) = lowest_some is_ready l 0 c e in
    let z : x ≡ c = omega arith in
    rw z at (is_ready_lem (get_or l x blank) q)

-- the cell of a kept signal keeps it
pub cell_at : (l : List Slot) (s c : ℕ) → get_or l c blank ≡ keeps s → get_or l (cell_of l s) blank ≡ keeps s
unfolding cell_of is_keeping or_zero
cell_at l s c e =
    let (d, p) = lowest_found (is_keeping s) refl l 0 c (ap (is_keeping s) e ∙ eq-eqb s s refl) in
    let (x, q, h) = lowest_some (is_keeping s) l 0 d p in
    let z : x ≡ d = omega arith in
    rw p (rw z at (is_keeping_lem s (get_or l x blank) h))

-- a cell among the cells of signals is one of theirs
pub cells_mem : (l : List Slot) (os : List ℕ) (x : ℕ) → mem x (map (cell_of l) os) ≡ true → (o : ℕ) × (mem o os ≡ true) × (x ≡ cell_of l o)
cells_mem l [] x e = absurd (mem-nil x e)
cells_mem l (o ∷ os) x e =
    cons_cases ((p : ℕ) × (mem p (o ∷ os) ≡ true) × (x ≡ cell_of l p)) x (cell_of l o) (map (cell_of l) os) e
    (λ q. (o, cons_self o os, q)) (λ q. let (p, u, v) = cells_mem l os x q in (p, cons_more p o os u, v))

-- ---- many cells set

pub set_all_at : {A : Type 0} (v : A) (cs : List ℕ) (b : List A) (x : ℕ) (d : A) → x < length b → get_or (set_all v cs b) x d ≡ pick (mem x cs) v (get_or b x d)
unfolding set_all mem pick
set_all_at v [] b x d h = refl
set_all_at v (c ∷ cs) b x d h = go (ℕ_discrete x c) (set_all_at v cs (set b c v) x d (lt-length-set b c v h))
  where
    both : (t : Bool) → pick t v v ≡ v
    both true = refl
    both false = refl

    go : Dec (x ≡ c) → get_or (set_all v cs (set b c v)) x d ≡ pick (mem x cs) v (get_or (set b c v) x d)
        → get_or (set_all v cs (set b c v)) x d ≡ pick (eqb x c || mem x cs) v (get_or b x d)
    go (yes p) rec = let same : get_or (set b c v) x d ≡ v = rw p (get_or-set_same b c v d (rw p at h)) in rec ∙ rw (eq-eqb x c p, same) (both (mem x cs))
    go (no q) rec = rec ∙ rw (ne_eqb x c q, get_or-set_other b c x v d q)
