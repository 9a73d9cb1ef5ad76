-- Where no gate has an operand list, and what stands in a list put in order.
use Rattle.std.proofs.Common.{ℕ, suc, ◌<◌, arith, ◌≡◌, refl, sym, ◌∙◌, Bool, true, false, ◌||◌, List, [], ◌∷◌, eqb, leb, get_or, length}
use mathlib.Core.Option.{none, some}
use Rattle.rules.specs.Basics.{pick, mem, same_list, insert, sort}
use Rattle.rules.specs.Book.{gate_with}
use Rattle.rules.proofs.Laws.{same_list_eq}
use Rattle.netlist.proofs.Arrays.{get_or-mem}

-- ---- the gate with an operand list

pub none_with : (l : List ℕ) (k : ℕ) (gs : List (List ℕ)) → ((j : ℕ) → j < length gs → get_or gs j [] ≡ l → ⊥) → gate_with l k gs ≡ none
unfolding gate_with pick
none_with l k [] h = refl
none_with l k (g ∷ gs) h = go (same_list l g) refl (none_with l (suc k) gs (λ j u e. h (suc j) (omega arith) e))
  where
    go : (t : Bool) → same_list l g ≡ t → gate_with l (suc k) gs ≡ none → pick t (some k) (gate_with l (suc k) gs) ≡ none
    go true q r = absurd (h 0 (omega arith) (sym (same_list_eq l g q)))
    go false q r = r

-- ---- low signals

abbrev pub Low : List ℕ → Type 0
Low l = (o : ℕ) → mem o l ≡ true → o < 1024

pub mem-insert : (o x : ℕ) (l : List ℕ) → mem o (insert x l) ≡ mem o (x ∷ l)
unfolding insert mem pick
mem-insert o x [] = refl
mem-insert o x (b ∷ l) = go (leb x b) (mem-insert o x l)
  where
    go : (t : Bool) → mem o (insert x l) ≡ (eqb o x || mem o l) → mem o (pick t (x ∷ b ∷ l) (b ∷ insert x l)) ≡ (eqb o x || (eqb o b || mem o l))
    go true r = refl
    go false r = rw r (turn (eqb o b) (eqb o x) (mem o l))
      where
        turn : (a b c : Bool) → (a || (b || c)) ≡ (b || (a || c))
        turn true true c = refl
        turn true false c = refl
        turn false true c = refl
        turn false false c = refl

pub mem-sort : (o : ℕ) (l : List ℕ) → mem o (sort l) ≡ mem o l
unfolding sort mem
mem-sort o [] = refl
mem-sort o (a ∷ l) = mem-insert o a (sort l) ∙ rw (mem-sort o l)

pub low_at : (l : List ℕ) → Low l → (k : ℕ) → k < length l → get_or l k 0 < 1024
low_at l h k u = h (get_or l k 0) (get_or-mem l k u)
