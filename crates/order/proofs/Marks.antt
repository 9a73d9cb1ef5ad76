-- Marks and sequence after one signal more: how many marks there are, and what the sequence has.
-- Assumes nothing.
use Prim.Native.Nat.{ℕ, ◌+◌, ◌<◌}
use native.Mathlib.Omega.{arith}
use native.Mathlib.Numerals.{add-one}
use mathlib.Core.Path.{◌≡◌, refl, sym, ◌∙◌}
use mathlib.Core.Bool.{Bool, true, false, ◌||◌, cond}
use mathlib.Core.List.{List, [], ◌∷◌, ◌++◌}
use lib.Dec.{eqb}
use borrow.Author.Tests.{eqb-true, eqb-false, ne_eqb}
use lib.ListN.{get_or, length, take, set, replicate, length-set, get_or-replicate}
use lib.Seq.{take-suc-set, get_or-set_same, get_or-set_other}
use Rattle.std.specs.List.{count_by}
use Rattle.std.proofs.lemmas.List.Folds.{sum_by-replicate}
use Rattle.std.proofs.lemmas.List.Sums.{count_by-le-length, sum_by-set}
use Rattle.rules.specs.Basics.{mem}
use Rattle.rules.proofs.Laws.{snoc_self, mem-append, mem-one}
use Rattle.order.specs.Visit.{Tied}
use Rattle.order.proofs.Lists.{replicate-zero}

-- another signal behind them changes nothing
pub mem-other : (s x : ℕ) (l : List ℕ) → (x ≡ s → ⊥) → mem x (l ++ (s ∷ [])) ≡ mem x l
mem-other s x l n = mem-append x l (s ∷ []) ∙ rw (mem-one, ne_eqb x s n) (go (mem x l))
  where
    go : (b : Bool) → (b || false) ≡ b
    go true = refl
    go false = refl

-- ---- none yet

pub tied_none : Tied (replicate 576 false) (replicate 576 0) 0
unfolding mem
tied_none = record { size = sym (sum_by-replicate (λ b. cond b 1 0) 576 false); behind = λ i h. replicate-zero 576 i; mark = λ s h. get_or-replicate 576 s false false h }

-- ---- one more

module _ (done : List Bool) (seq : List ℕ) (n s : ℕ) (wide : length done ≡ 576) (long : length seq ≡ 576) (w : Tied done seq n) (h : s < 576) (e : mem s (take n seq) ≡ false) where
  unmarked : get_or done s false ≡ false
  unmarked = w.mark s h ∙ e

  marked : count_by (λ b. b) (set done s true) ≡ count_by (λ b. b) done + 1
  marked =
      let l : s < length done = omega arith in
      let f = sum_by-set (λ b. cond b 1 0) done s true false l in
      omega (arith, rw unmarked at f)

  pub room : n < 576
  room = omega (arith, marked, count_by-le-length (λ b. b) (set done s true), length-set done s true, w.size)

  pub longer : take (n + 1) (set seq n s) ≡ take n seq ++ (s ∷ [])
  longer = rw (add-one n) (take-suc-set seq n s (omega (arith, room)))

  mark_after : (x : ℕ) → get_or done x false ≡ mem x (take n seq) → get_or (set done s true) x false ≡ mem x (take n seq ++ (s ∷ []))
  mark_after x m = go (eqb x s) refl
    where
      go : (b : Bool) → eqb x s ≡ b → get_or (set done s true) x false ≡ mem x (take n seq ++ (s ∷ []))
      go true t = let k : x ≡ s = eqb-true x s t in rw k (get_or-set_same done s true false (omega arith) ∙ sym (snoc_self (take n seq) s))
      go false t = get_or-set_other done s x true false (eqb-false x s t) ∙ m ∙ sym (mem-other s x (take n seq) (eqb-false x s t))

  pub appended : Tied (set done s true) (set seq n s) (n + 1)
  appended = record {
    size = omega (arith, w.size, marked);
    behind = λ i l. get_or-set_other seq n i s 0 (λ k. omega arith) ∙ w.behind i (omega arith);
    mark = λ i l. rw longer (mark_after i (w.mark i l));
  }
