-- The rule's slots beside what the code knows of the cells: the lowest ready cell, the spent ones, and what is set in them.
-- Assumes nothing.
use Prim.Native.Nat.{ℕ, zero, suc, ◌+◌, ◌<◌}
use native.Mathlib.Omega.{arith}
use native.Mathlib.Numerals.{add-one}
use mathlib.Core.Path.{◌≡◌, refl, sym, ap, ◌∙◌}
use mathlib.Core.Bool.{true, false}
use mathlib.Core.List.{List, [], ◌∷◌, ◌++◌, map, append_assoc}
use mathlib.Core.Option.{none, some}
use lib.ListN.{get_or, length, take, set, length-append}
use lib.Seq.{set-append_seam}
use Rattle.std.proofs.lemmas.List.{map-set}
use Rattle.rules.specs.Basics.{pick, set_all}
use Rattle.rules.specs.Cells.{Slot, blank, ready, spent, keeps, is_ready, is_spent, those, lowest, all_spent}
use Rattle.mapper.specs.declared.cells.Hold.{Hold}
use Rattle.mapper.specs.declared.cells.Hold.TheVariants.{Ready, Spent, Keeps}
use Rattle.mapper.specs.Held.{hold_of, spent_in, renewed}

-- ---- one slot

pub ready_hold : (s : Slot) → hold_of s ≡ Ready → s ≡ ready
unfolding hold_of
ready_hold blank e = cc
ready_hold ready e = refl
ready_hold spent e = cc
ready_hold (keeps s) e = cc

is_ready_hold : (s : Slot) → hold_of s ≡ Ready → is_ready s ≡ true
unfolding is_ready
is_ready_hold s e = rw (ready_hold s e)

not_ready_hold : (s : Slot) → (hold_of s ≡ Ready → ⊥) → is_ready s ≡ false
unfolding hold_of is_ready
not_ready_hold blank h = refl
not_ready_hold ready h = absurd (h refl)
not_ready_hold spent h = refl
not_ready_hold (keeps s) h = refl

-- a spent slot becomes ready
abbrev pub renew_slot : Slot → Slot
renew_slot blank = blank
renew_slot ready = ready
renew_slot spent = ready
renew_slot (keeps s) = keeps s

hold_renewed : (s : Slot) → renewed (hold_of s) ≡ hold_of (renew_slot s)
unfolding hold_of renewed
hold_renewed blank = refl
hold_renewed ready = refl
hold_renewed spent = refl
hold_renewed (keeps s) = refl

-- ---- the spent cells

pub spent_same : (k : ℕ) (l : List Slot) → spent_in k (map hold_of l) ≡ those is_spent k l
unfolding hold_of spent_in those is_spent pick
spent_same k [] = refl
spent_same k (blank ∷ l) = spent_same (suc k) l
spent_same k (ready ∷ l) = spent_same (suc k) l
spent_same k (spent ∷ l) = ap (λ t. k ∷ t) (spent_same (suc k) l)
spent_same k (keeps s ∷ l) = spent_same (suc k) l

-- all spent cells set: each slot renewed
renew_all : (p l : List Slot) → set_all ready (those is_spent (length p) l) (p ++ l) ≡ p ++ map renew_slot l
unfolding set_all those is_spent pick
renew_all p [] = refl
renew_all p (s ∷ l) = go s (λ b. renew_all (p ++ (b ∷ [])) l)
  where
    IH : Type 0
    IH = (b : Slot) → set_all ready (those is_spent (length (p ++ (b ∷ []))) l) ((p ++ (b ∷ [])) ++ l) ≡ (p ++ (b ∷ [])) ++ map renew_slot l

    on : (b : Slot) → IH → set_all ready (those is_spent (suc (length p)) l) (p ++ (b ∷ l)) ≡ p ++ (b ∷ map renew_slot l)
    on b ih =
        let n : length (p ++ (b ∷ [])) ≡ suc (length p) = length-append p (b ∷ []) ∙ add-one (length p) in
        simp (n, append_assoc) at (ih b)

    go : (a : Slot) → IH → set_all ready (pick (is_spent a) (length p ∷ those is_spent (suc (length p)) l) (those is_spent (suc (length p)) l)) (p ++ (a ∷ l)) ≡ p ++ (renew_slot a ∷ map renew_slot l)
    go blank ih = on blank ih
    go ready ih = on ready ih
    go spent ih = ap (set_all ready (those is_spent (suc (length p)) l)) (set-append_seam p spent l ready) ∙ on ready ih
    go (keeps t) ih = on (keeps t) ih

pub renewed_slots : (l : List Slot) → set_all ready (all_spent l) l ≡ map renew_slot l
unfolding all_spent
renewed_slots l = renew_all [] l

pub renewed_holds : (l : List Slot) → map renewed (map hold_of l) ≡ map hold_of (map renew_slot l)
renewed_holds [] = refl
renewed_holds (s ∷ l) = rw (hold_renewed s, renewed_holds l)

-- ---- the lowest ready cell, of cells counted from k

pub lowest_found : (k : ℕ) (l : List Slot) (i : ℕ) → i < length l → get_or (map hold_of l) i Keeps ≡ Ready → ((j : ℕ) → j < i → get_or (map hold_of l) j Keeps ≡ Ready → ⊥)
    → lowest is_ready k l ≡ some (k + i)
unfolding lowest pick
lowest_found k [] i h e n = absurd (omega arith)
lowest_found k (s ∷ l) zero h e n = let z : k + 0 ≡ k = omega arith in rw (is_ready_hold s e, z)
lowest_found k (s ∷ l) (suc i) h e n =
    let z : k + suc i ≡ suc k + i = omega arith in
    rw (not_ready_hold s (n 0 (omega arith)), z) (lowest_found (suc k) l i (omega arith) e (λ j m. n (suc j) (omega arith)))

pub lowest_none : (k : ℕ) (l : List Slot) → ((j : ℕ) → j < length l → get_or (map hold_of l) j Keeps ≡ Ready → ⊥) → lowest is_ready k l ≡ none
unfolding lowest pick
lowest_none k [] n = refl
lowest_none k (s ∷ l) n = rw (not_ready_hold s (n 0 (omega arith))) (lowest_none (suc k) l (λ j m. n (suc j) (omega arith)))

-- ---- cells set

map-set_all : (v : Slot) (cs : List ℕ) (l : List Slot) → map hold_of (set_all v cs l) ≡ set_all (hold_of v) cs (map hold_of l)
unfolding set_all
map-set_all v [] l = refl
map-set_all v (c ∷ cs) l = map-set_all v cs (set l c v) ∙ ap (set_all (hold_of v) cs) (map-set hold_of l c v)

take-set_any : {A : Type 0} (n : ℕ) (l : List A) (i : ℕ) (a : A) → take n (set l i a) ≡ set (take n l) i a
take-set_any zero l i a = refl
take-set_any (suc n) [] i a = refl
take-set_any (suc n) (x ∷ l) zero a = refl
take-set_any (suc n) (x ∷ l) (suc i) a = ap (λ t. x ∷ t) (take-set_any n l i a)

take-set_all : {A : Type 0} (n : ℕ) (v : A) (cs : List ℕ) (l : List A) → take n (set_all v cs l) ≡ set_all v cs (take n l)
unfolding set_all
take-set_all n v [] l = refl
take-set_all n v (c ∷ cs) l = take-set_all n v cs (set l c v) ∙ ap (set_all v cs) (take-set_any n l c v)

-- a signal in cell c, and cells spent
pub placed_holds : (n : ℕ) (held : List Hold) (cs : List ℕ) (c g : ℕ) (l : List Slot) → take n held ≡ map hold_of l
    → take n (set_all Spent cs (set held c Keeps)) ≡ map hold_of (set_all spent cs (set l c (keeps g)))
unfolding hold_of
placed_holds n held cs c g l e =
    take-set_all n Spent cs (set held c Keeps) ∙ ap (set_all Spent cs) (take-set_any n held c Keeps ∙ ap (λ t. set t c Keeps) e)
    ∙ sym (map-set_all spent cs (set l c (keeps g)) ∙ ap (set_all Spent cs) (map-set hold_of l c (keeps g)))
