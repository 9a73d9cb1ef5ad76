-- Words that document 01 uses without saying them: choice, membership, order of numbers. Nothing here is about memories.
-- Assumes nothing.
use Rattle.std.specs.List.{list_all, list_any}
use Rattle.std.specs.Prelude.{ℕ, zero, suc, Bool, true, false, ◌&&◌, ◌||◌, List, [], ◌∷◌, eqb, ltb, leb, set}

-- the first where the test holds, else the second
unfoldable pub pick : {A : Type 0} → Bool → A → A → A
pick true a b = a
pick false a b = b

-- least ≤ x ≤ most
abbrev pub within : ℕ → ℕ → ℕ → Bool
within least most x = leb least x && leb x most

-- the larger of two numbers
unfoldable pub larger : ℕ → ℕ → ℕ
unfolding pick
larger a b = pick (ltb a b) b a

-- whether each passes the test, and whether one does: the library's words
abbrev pub all : {A : Type 0} → (A → Bool) → List A → Bool
all p l = list_all p l

abbrev pub any : {A : Type 0} → (A → Bool) → List A → Bool
any p l = list_any p l

-- those that pass a test, as they stand
unfoldable pub keep : (ℕ → Bool) → List ℕ → List ℕ
unfolding pick
keep p [] = []
keep p (a ∷ l) = pick (p a) (a ∷ keep p l) (keep p l)

unfoldable pub mem : ℕ → List ℕ → Bool
mem a [] = false
mem a (b ∷ l) = eqb a b || mem a l

-- some entry stands twice
unfoldable pub repeats : List ℕ → Bool
unfolding mem
repeats [] = false
repeats (a ∷ l) = mem a l || repeats l

-- strictly ascending
unfoldable pub ascending : List ℕ → Bool
ascending [] = true
ascending (a ∷ []) = true
ascending (a ∷ b ∷ l) = ltb a b && ascending (b ∷ l)

unfoldable pub same_list : List ℕ → List ℕ → Bool
same_list [] [] = true
same_list [] (b ∷ m) = false
same_list (a ∷ l) [] = false
same_list (a ∷ l) (b ∷ m) = eqb a b && same_list l m

-- the k numbers from a on
unfoldable pub upto : ℕ → ℕ → List ℕ
upto a zero = []
upto a (suc k) = a ∷ upto (suc a) k

-- numbers put in order, lowest first
unfoldable pub insert : ℕ → List ℕ → List ℕ
unfolding pick
insert a [] = a ∷ []
insert a (b ∷ l) = pick (leb a b) (a ∷ b ∷ l) (b ∷ insert a l)

unfoldable pub sort : List ℕ → List ℕ
unfolding insert
sort [] = []
sort (a ∷ l) = insert a (sort l)

-- one value put in each named place
unfoldable pub set_all : {A : Type 0} → A → List ℕ → List A → List A
set_all v [] l = l
set_all v (c ∷ cs) l = set_all v cs (set l c v)

-- one after the other, from a state on
unfoldable pub each : {S : Type 0} → (ℕ → S → S) → List ℕ → S → S
each f [] s = s
each f (a ∷ l) s = each f l (f a s)
