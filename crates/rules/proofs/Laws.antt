-- Laws of choice, refusals, membership and search, for every proof above these definitions.
use Rattle.std.proofs.Common.{ℕ, suc, ◌+◌, ◌<◌, arith, ◌≡◌, refl, sym, ap, ◌∙◌, Bool, true, false, ◌||◌, List, [], ◌∷◌, ◌++◌, eqb, eqb-true, eq-eqb, ne_eqb, get_or, length}
use mathlib.Core.Bool.{or_assoc, or_comm, or-false}
use Rattle.std.proofs.lemmas.List.Folds.{list_any-append}
use Rattle.std.specs.List.{list_any}
use Rattle.std.proofs.lemmas.Bool.{and_parts}
-- under the names that crates above cite
pub use Rattle.std.proofs.lemmas.Bool.{or_parts as or_false, and_parts as and_true, or_left, or_right}
use mathlib.Core.Option.{Option, none, some}
use borrow.Author.Tests.{eqb-false}
use Rattle.rules.specs.Basics.{pick, mem, same_list}
use Rattle.rules.specs.Refusals.{Res, good, refused, ◌>>=◌, ◌>>◌, require, or_refuse}
use Rattle.rules.specs.Book.{gate_with}

-- ---- what cannot be

pub no_way : ◌≡◌ {A = ℕ} 0 1 → ⊥
no_way e = omega arith

-- ---- choice

-- a choice has a property when each branch has it, each under its test
pub by_pick : {A : Type 0} (P : A → Type 0) (t : Bool) {x y : A} → (t ≡ true → P x) → (t ≡ false → P y) → P (pick t x y)
unfolding pick
by_pick P true f g = f refl
by_pick P false f g = g refl

pub or_swap : (a b c : Bool) → (a || (b || c)) ≡ (b || (a || c))
or_swap a b c = sym (or_assoc a b c) ∙ ap (λ (t : Bool). t || c) (or_comm a b) ∙ or_assoc b a c

-- ---- refusals

-- what was good in the end was good at each step
pub bind_good : {A B : Type 0} (r : Res A) (k : A → Res B) (y : B) → (r >>= k) ≡ good y → (x : A) × (r ≡ good x) × (k x ≡ good y)
unfolding ◌>>=◌
bind_good (good a) k y e = (a, refl, e)
bind_good (refused n) k y e = cc

pub then_good : {A B : Type 0} (r : Res A) (k : Res B) (y : B) → (r >> k) ≡ good y → (x : A) × (r ≡ good x) × (k ≡ good y)
unfolding ◌>>◌
then_good (good a) k y e = (a, refl, e)
then_good (refused n) k y e = cc

-- what was required held, and the rest was good
pub require_good : {B : Type 0} (t : Bool) (n : ℕ) (k : Res B) (y : B) → (require t n >> k) ≡ good y → (t ≡ true) × (k ≡ good y)
unfolding ◌>>◌ require
require_good true n k y e = (refl, e)
require_good false n k y e = cc

pub or_refuse_good : {A : Type 0} (n : ℕ) (o : Option A) (a : A) → or_refuse n o ≡ good a → o ≡ some a
unfolding or_refuse
or_refuse_good n none a e = cc
or_refuse_good n (some b) a e = cc

-- ---- lists of numbers that are the same

pub same_list_eq : (l m : List ℕ) → same_list l m ≡ true → l ≡ m
unfolding same_list
same_list_eq [] [] e = refl
same_list_eq [] (b ∷ bs) e = cc
same_list_eq (a ∷ os) [] e = cc
same_list_eq (a ∷ os) (b ∷ bs) e =
    let h = and_parts (eqb a b) (same_list os bs) e in
    let p = eqb-true a b h.0 in
    let q = same_list_eq os bs h.1 in
    cc

pub same_list_refl : (l : List ℕ) → same_list l l ≡ true
unfolding same_list
same_list_refl [] = refl
same_list_refl (a ∷ l) = rw (eq-eqb a a refl) (same_list_refl l)

-- the gate that is found, counted from k, has that operand list
pub gate_with_spec : (l : List ℕ) (k : ℕ) (gs : List (List ℕ)) (s : ℕ) → gate_with l k gs ≡ some s
    → (j : ℕ) × (j < length gs) × (k + j ≡ s) × (get_or gs j [] ≡ l)
unfolding gate_with pick
gate_with_spec l k [] s e = cc
gate_with_spec l k (g ∷ gs) s e = go (same_list l g) refl (λ e'. gate_with_spec l (suc k) gs s e') e
  where
    go : (t : Bool) → same_list l g ≡ t → (gate_with l (suc k) gs ≡ some s → (j : ℕ) × (j < length gs) × (suc k + j ≡ s) × (get_or gs j [] ≡ l))
        → pick t (some k) (gate_with l (suc k) gs) ≡ some s → (j : ℕ) × (j < suc (length gs)) × (k + j ≡ s) × (get_or (g ∷ gs) j [] ≡ l)
    go true q rec e' = let z : k ≡ s = cc in (0, omega arith, omega arith, sym (same_list_eq l g q))
    go false q rec e' = let h = rec e' in (suc h.0, omega arith, omega arith, h.3)

-- ---- membership: the library says it by a test

pub mem_any : (x : ℕ) (l : List ℕ) → mem x l ≡ list_any (eqb x) l
unfolding mem
mem_any x [] = refl
mem_any x (a ∷ l) = rw (mem_any x l) refl

pub mem-append : (x : ℕ) (a b : List ℕ) → mem x (a ++ b) ≡ (mem x a || mem x b)
mem-append x a b = rw (mem_any x (a ++ b), mem_any x a, mem_any x b) (list_any-append (eqb x) a b)

pub mem-one : (x y : ℕ) → mem x (y ∷ []) ≡ eqb x y
unfolding mem
mem-one x y = or-false (eqb x y)

pub mem-nil : (x : ℕ) → mem x [] ≡ true → ⊥
unfolding mem
mem-nil x e = cc

pub cons_cases : (P : Type 0) (x y : ℕ) (l : List ℕ) → mem x (y ∷ l) ≡ true → (x ≡ y → P) → (mem x l ≡ true → P) → P
unfolding mem
cons_cases P x y l e f h = go (eqb x y) refl e
  where
    go : (t : Bool) → eqb x y ≡ t → (t || mem x l) ≡ true → P
    go true q u = f (eqb-true x y q)
    go false q u = h u

pub cons_more : (x y : ℕ) (l : List ℕ) → mem x l ≡ true → mem x (y ∷ l) ≡ true
unfolding mem
cons_more x y l e = or_right (eqb x y) (mem x l) e

pub cons_self : (x : ℕ) (l : List ℕ) → mem x (x ∷ l) ≡ true
unfolding mem
cons_self x l = or_left (eqb x x) (mem x l) (eq-eqb x x refl)

-- x stands in d with g put behind it
pub snoc_more : (x : ℕ) (d : List ℕ) (g : ℕ) → mem x d ≡ true → mem x (d ++ (g ∷ [])) ≡ true
snoc_more x d g e = mem-append x d (g ∷ []) ∙ or_left (mem x d) (mem x (g ∷ [])) e

pub snoc_self : (d : List ℕ) (g : ℕ) → mem g (d ++ (g ∷ [])) ≡ true
snoc_self d g = mem-append g d (g ∷ []) ∙ or_right (mem g d) (mem g (g ∷ [])) (mem-one g g ∙ eq-eqb g g refl)

pub mem-snoc : (x g : ℕ) (d : List ℕ) → (x ≡ g → ⊥) → mem x (d ++ (g ∷ [])) ≡ mem x d
mem-snoc x g d h = mem-append x d (g ∷ []) ∙ rw (mem-one x g, ne_eqb x g h) (or-false (mem x d))

-- either it stood there, or it is g
pub snoc_cases : (P : Type 0) (x : ℕ) (d : List ℕ) (g : ℕ) → mem x (d ++ (g ∷ [])) ≡ true → (mem x d ≡ true → P) → (x ≡ g → P) → P
snoc_cases P x d g e f h = go (mem x d) refl (eqb x g) refl
  where
    go : (t : Bool) → mem x d ≡ t → (u : Bool) → eqb x g ≡ u → P
    go true p u q = f p
    go false p true q = h (eqb-true x g q)
    go false p false q = let z = mem-snoc x g d (eqb-false x g q) in cc
