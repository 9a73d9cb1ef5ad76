-- Counts of who wants a signal, one by one.
-- Assumes nothing.
use Prim.Native.Nat.{ℕ, suc, ◌+◌, ◌<◌, ◌≤◌}
use native.Mathlib.Omega.{arith}
use native.Mathlib.Numerals.{add-one}
use native.Mathlib.Decide.{ℕ_discrete}
use mathlib.Core.Path.{◌≡◌, refl, sym, ◌∙◌}
use mathlib.Core.Bool.{Bool, true, false}
use mathlib.Core.List.{List, [], ◌∷◌}
use lib.Dec.{eqb}
use borrow.Author.Tests.{eq-eqb, ne_eqb}
use lib.ListN.{get_or, length, drop, set, length-set, drop_of_length-le}
use lib.Seq.{get_or-set_same, get_or-set_other, drop-cons}
use Rattle.rules.specs.Basics.{pick}
use Rattle.order.specs.Tables.{Light}
use Rattle.order.specs.Wanted.{times, Placed, CountedUp}
use Rattle.netlist.proofs.Arrays.{get_or-mem}

-- ---- how often a number stands in a list

pub times_most : (s : ℕ) (l : List ℕ) → times s l ≤ length l
unfolding times pick
times_most s [] = omega arith
times_most s (a ∷ l) = go (eqb s a) (times_most s l)
  where
    go : (b : Bool) → times s l ≤ length l → pick b (suc (times s l)) (times s l) ≤ suc (length l)
    go true h = omega arith
    go false h = omega arith

pub times_self : (s : ℕ) (l : List ℕ) → times s (s ∷ l) ≡ suc (times s l)
unfolding times pick
times_self s l = rw (eq-eqb s s refl)

pub times_other : (s a : ℕ) (l : List ℕ) → (s ≡ a → ⊥) → times s (a ∷ l) ≡ times s l
unfolding times pick
times_other s a l h = rw (ne_eqb s a h)

-- ---- one count changed

-- at a place inside, an entry that changes by one
module _ (left : List ℕ) (o c v : ℕ) (here : o < length left) (e : c ≡ get_or left o 0) where
  up_one : v ≡ c + 1 → (s : ℕ) (l : List ℕ) → get_or (set left o v) s 0 + times s l ≡ get_or left s 0 + times s (o ∷ l)
  up_one f s l = go (ℕ_discrete s o)
    where
      go : Dec (s ≡ o) → get_or (set left o v) s 0 + times s l ≡ get_or left s 0 + times s (o ∷ l)
      go (yes q) = rw (q, get_or-set_same left o v 0 here, times_self) (omega (arith, e, f))
      go (no q) = rw (get_or-set_other left o s v 0 q, times_other s o l q)

-- ---- the loop: what is left to count leads to the whole

pub record CountingUp (list left₀ left : List ℕ) (k : ℕ) : Type 0 where
  pub inside : k ≤ length list
  pub wide : length left ≡ length left₀
  pub same : (s : ℕ) → get_or left s 0 + times s (drop k list) ≡ get_or left₀ s 0 + times s list

module _ {list left₀ left : List ℕ} {k : ℕ} (w : CountingUp list left₀ left k) where
  pub up_small : (o : ℕ) → Light left₀ 4000 → length list ≤ 64 → get_or left o 0 ≤ 4064
  up_small o l h = omega (arith, w.same o, l.all o, times_most o list)

  module _ {o : ℕ} (h : k < length list) (p : Placed list left₀) (e : o ≡ get_or list k 0) where
    pub up_place : o < length left
    up_place = omega (arith, e, w.wide, p.inside (get_or list k 0) (get_or-mem list k h))

    pub up_turn : CountingUp list left₀ (set left o (get_or left o 0 + 1)) (k + 1)
    up_turn =
        let d : drop k list ≡ o ∷ drop (suc k) list = rw e (drop-cons list k 0 h) in
        record {
          inside = omega arith;
          wide = length-set left o _ ∙ w.wide;
          same = λ s. rw (add-one k) (up_one left o (get_or left o 0) (get_or left o 0 + 1) up_place refl refl s (drop (suc k) list) ∙ (rw d at (w.same s)));
        }

  pub up_end : length list ≤ k → CountedUp list left₀ left
  unfolding times
  up_end h = record {
    wide = w.wide;
    is = λ s. let z : get_or left s 0 + 0 ≡ get_or left s 0 = omega arith in sym z ∙ (rw (drop_of_length-le list h) at (w.same s));
  }
