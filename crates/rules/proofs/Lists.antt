-- Laws of kept, ascending, counted and written lists.
-- Assumes nothing.
use Rattle.std.proofs.Common.{ℕ, zero, suc, ◌+◌, ◌<◌, ◌≤◌, arith, add-one, ◌≡◌, refl, sym, ap, ◌∙◌, Bool, true, false, List, [], ◌∷◌, ◌++◌, eqb, ltb, leb, ltb-true, lt-ltb, leb-true, le-leb, eqb-true, get_or, length, replicate, drop, set, length-set}
use native.Mathlib.Decide.{ℕ_discrete}
use Rattle.std.proofs.lemmas.List.Elements.{All-nil, All-cons}
use Rattle.std.proofs.lemmas.List.Sums.{AllPass-from_list_all, list_all-from_AllPass}
use Rattle.std.proofs.lemmas.List.Folds.{Any-from_list_any, list_any_none}
use Rattle.std.specs.List.{range_with_len, IsDistinct, AllByRecursion, All}
use lib.Seq.{sets, sets-eq}
use Rattle.rules.specs.Basics.{pick, within, all, any, keep, mem, repeats, ascending, upto, set_all}
use Rattle.std.proofs.lemmas.Bool.{and_parts, or_parts, or_from, false_from_ne_true}
use Rattle.std.proofs.lemmas.List.FromFn.{length-range_with_len}
use Rattle.rules.proofs.Laws.{by_pick, cons_cases, cons_more, cons_self, mem-nil, mem_any}

-- what is not the default stands in the list
pub known : {A : Type 0} {d : A} (l : List A) (i : ℕ) (x : A) → get_or l i d ≡ x → (x ≡ d → ⊥) → i < length l
known [] i x e h = absurd (h (sym e))
known (y ∷ l) zero x e h = omega arith
known (y ∷ l) (suc i) x e h = omega (arith, known l i x e h)

-- every number of a list is below n
abbrev pub Below : ℕ → List ℕ → Type 0
Below n l = (x : ℕ) → mem x l ≡ true → x < n

-- ---- limits

pub within_true : (a b x : ℕ) → within a b x ≡ true → (a ≤ x) × (x ≤ b)
within_true a b x e = let (u, v) = and_parts (leb a x) (leb x b) e in (leb-true a x u, leb-true x b v)

pub within_holds : (a b x : ℕ) → a ≤ x → x ≤ b → within a b x ≡ true
within_holds a b x h k = rw (le-leb a x h, le-leb x b k)

-- what stands in a list of defaults, and past its end
pub all_default : {A : Type 0} (m i : ℕ) (d : A) → get_or (replicate m d) i d ≡ d
all_default zero i d = refl
all_default (suc m) zero d = refl
all_default (suc m) (suc i) d = all_default m i d

-- ---- kept

pub keep_mem : (p : ℕ → Bool) (l : List ℕ) (x : ℕ) → mem x (keep p l) ≡ true → (mem x l ≡ true) × (p x ≡ true)
unfolding keep
keep_mem p [] x e = absurd (mem-nil x e)
keep_mem p (a ∷ l) x e = go (p a) refl e (keep_mem p l x)
  where
    go : (t : Bool) → p a ≡ t → mem x (pick t (a ∷ keep p l) (keep p l)) ≡ true → (mem x (keep p l) ≡ true → (mem x l ≡ true) × (p x ≡ true))
        → (mem x (a ∷ l) ≡ true) × (p x ≡ true)
    go true q f rec =
        cons_cases ((mem x (a ∷ l) ≡ true) × (p x ≡ true)) x a (keep p l) f (λ s. (rw s (cons_self a l), rw s q))
        (λ s. let z = rec s in (cons_more x a l z.0, z.1))
    go false q f rec = let z = rec f in (cons_more x a l z.0, z.1)

pub mem-keep : (p : ℕ → Bool) (l : List ℕ) (x : ℕ) → mem x l ≡ true → p x ≡ true → mem x (keep p l) ≡ true
unfolding keep
mem-keep p [] x e h = e
mem-keep p (a ∷ l) x e h =
    cons_cases (mem x (pick (p a) (a ∷ keep p l) (keep p l)) ≡ true) x a l e
    (λ s. let y : p a ≡ true = rw s at h in rw (y, s) (cons_self a (keep p l)))
    (λ s. by_pick (λ (k : List ℕ). mem x k ≡ true) (p a) (λ _. cons_more x a (keep p l) (mem-keep p l x s h)) (λ _. mem-keep p l x s h))

-- ---- all, none

-- what holds of each number that stands in the list, as the library's `All` says it, and back
pub members : (P : ℕ → Type 0) (l : List ℕ) → ((x : ℕ) → mem x l ≡ true → P x) → All P l
members P [] h = All-nil P
members P (a ∷ l) h = All-cons P a l (h a (cons_self a l)) (members P l (λ x m. h x (cons_more x a l m)))

pub member : (P : ℕ → Type 0) (l : List ℕ) → All P l → (x : ℕ) → mem x l ≡ true → P x
member P l h x e =
    let (k, y, i, is, t) = Any-from_list_any (eqb x) l (sym (mem_any x l) ∙ e) in
    rw (eqb-true x y t) (rw is at (h k y i))

pub all_of : (p : ℕ → Bool) (l : List ℕ) → ((x : ℕ) → mem x l ≡ true → p x ≡ true) → all p l ≡ true
all_of p l h = list_all-from_AllPass p l (members (λ x. p x ≡ true) l h)

pub all_mem : (p : ℕ → Bool) (l : List ℕ) → all p l ≡ true → (x : ℕ) → mem x l ≡ true → p x ≡ true
all_mem p l e = member (λ x. p x ≡ true) l (AllPass-from_list_all p l e)

pub none_of : (p : ℕ → Bool) (l : List ℕ) → ((x : ℕ) → mem x l ≡ true → p x ≡ false) → any p l ≡ false
none_of p l h = list_any_none p l (members (λ x. p x ≡ false) l h)

-- ---- the numbers from a on

pub upto_mem : (a k x : ℕ) → a ≤ x → x < a + k → mem x (upto a k) ≡ true
unfolding upto
upto_mem a zero x h l = absurd (omega arith)
upto_mem a (suc k) x h l = go (ℕ_discrete x a) (upto_mem (suc a) k x)
  where
    go : Dec (x ≡ a) → (suc a ≤ x → x < suc a + k → mem x (upto (suc a) k) ≡ true) → mem x (a ∷ upto (suc a) k) ≡ true
    go (yes p) rec = rw p (cons_self a (upto (suc a) k))
    go (no q) rec = cons_more x a (upto (suc a) k) (rec (omega arith) (omega arith))

pub upto_in : (a k x : ℕ) → mem x (upto a k) ≡ true → (a ≤ x) × (x < a + k)
unfolding upto
upto_in a zero x e = absurd (mem-nil x e)
upto_in a (suc k) x e =
    cons_cases ((a ≤ x) × (x < a + suc k)) x a (upto (suc a) k) e (λ p. omega arith) (λ p. let z = upto_in (suc a) k x p in omega arith)

-- the library's word for them
pub upto_range : (a k : ℕ) → range_with_len a k ≡ upto a k
unfolding upto
upto_range a zero = refl
upto_range a (suc k) = rw (add-one) (ap (λ l. a ∷ l) (upto_range (suc a) k))

pub length-upto : (a k : ℕ) → length (upto a k) ≡ k
length-upto a k = rw (← upto_range a k) (length-range_with_len a k)

-- ---- written entries

pub length-set_all : {A : Type 0} (v : A) (cs : List ℕ) (l : List A) → length (set_all v cs l) ≡ length l
unfolding set_all
length-set_all v [] l = refl
length-set_all v (c ∷ cs) l = length-set_all v cs (set l c v) ∙ length-set l c v

-- what is written in front, and the rest
pub sets_front : (t l : List ℕ) → length t ≤ length l → sets l 0 t ≡ t ++ drop (length t) l
sets_front t l h = let e : 0 + length t ≡ length t = omega arith in rw e at (sets-eq t l 0 (omega arith))

-- ---- ascending

pub asc_cons : (a : ℕ) (l : List ℕ) → ((x : ℕ) → mem x l ≡ true → a < x) → ascending l ≡ true → ascending (a ∷ l) ≡ true
unfolding ascending
asc_cons a [] h e = refl
asc_cons a (b ∷ l) h e = rw (lt-ltb a b (h b (cons_self b l)), e)

pub asc_rest : (a : ℕ) (l : List ℕ) → ascending (a ∷ l) ≡ true → ascending l ≡ true
unfolding ascending
asc_rest a [] e = refl
asc_rest a (b ∷ l) e = (and_parts (ltb a b) (ascending (b ∷ l)) e).1

pub asc_low : (a : ℕ) (l : List ℕ) → ascending (a ∷ l) ≡ true → (x : ℕ) → mem x l ≡ true → a < x
unfolding ascending
asc_low a [] e x m = absurd (mem-nil x m)
asc_low a (b ∷ l) e x m =
    let (u, v) = and_parts (ltb a b) (ascending (b ∷ l)) e in
    let h = ltb-true a b u in
    cons_cases (a < x) x b l m (λ p. omega arith) (λ p. let k = asc_low b l v x p in omega arith)

pub asc_upto : (a k : ℕ) → ascending (upto a k) ≡ true
unfolding upto ascending
asc_upto a zero = refl
asc_upto a (suc k) = asc_cons a (upto (suc a) k) (λ x m. (upto_in (suc a) k x m).0) (asc_upto (suc a) k)

-- ---- no entry stands twice: in the library's words

pub distinct : (l : List ℕ) → repeats l ≡ false → IsDistinct eqb l
unfolding repeats IsDistinct mem
distinct [] e = tt
distinct (a ∷ l) e = let (p, q) = or_parts (mem a l) (repeats l) e in (apart l p, distinct l q)
  where
    apart : (m : List ℕ) → mem a m ≡ false → AllByRecursion (λ b. eqb a b ≡ false) m
    apart [] f = tt
    apart (b ∷ m) f = let (u, v) = or_parts (eqb a b) (mem a m) f in (u, apart m v)

pub asc_once : (l : List ℕ) → ascending l ≡ true → repeats l ≡ false
unfolding repeats
asc_once [] e = refl
asc_once (a ∷ l) e =
    or_from (mem a l) (repeats l) (false_from_ne_true (mem a l) (λ m. let h = asc_low a l e a m in omega arith)) (asc_once l (asc_rest a l e))

-- ---- each

-- `All`, of each entry with its own number, counted from k
abbrev pub Each : {A : Type 0} → (ℕ → A → Type 0) → ℕ → List A → Type 0
Each {A} Q k l = (j : ℕ) (d : A) → j < length l → Q (k + j) (get_or l j d)

pub each_cons : {A : Type 0} (Q : ℕ → A → Type 0) (k : ℕ) (a : A) (l : List A) → Q k a → Each Q (suc k) l → Each Q k (a ∷ l)
each_cons Q k a l q h zero d i = let z : k + 0 ≡ k = omega arith in rw z q
each_cons Q k a l q h (suc j) d i = let z : k + suc j ≡ suc k + j = omega arith in rw z (h j d (omega arith))
