-- What the library's sort leaves is document 01's order.
-- Assumes nothing.
use Rattle.std.proofs.Common.{ℕ, suc, ◌<◌, arith, ◌≡◌, refl, sym, ap, ◌∙◌, Bool, true, false, not, List, [], ◌∷◌, get_or, length}
use native.Mathlib.Numerals.{add-one}
use Rattle.std.specs.Cmp.{IsStrictWeakOrder}
use Rattle.std.specs.List.Sorted.{IsPermutation, IsSortedBy}
use Rattle.std.proofs.lemmas.Bool.Decides.{nat_tests}
use Rattle.std.proofs.lemmas.List.Sorted.{sum_by-IsPermutation}
use Rattle.rules.specs.Basics.{mem}
use Rattle.rules.specs.Weight.{goes_before, insert_by, high_to_low}
use Rattle.rules.proofs.Laws.{cons_cases}
use Rattle.netlist.proofs.Ranks as ranks

module _ (w : ℕ → ℕ) where
  -- b does not go before a
  ahead : ℕ → ℕ → Bool
  ahead a b = not (goes_before w b a)

  one_way : (x y : ℕ) → goes_before w x y ≡ true → goes_before w y x ≡ false
  one_way x y h = grind (arith, nat_tests, h)

  chain : (x y z : ℕ) → goes_before w x y ≡ false → goes_before w y z ≡ false → goes_before w x z ≡ false
  chain x y z a b = grind (arith, nat_tests, a, b)

  pub before_order : IsStrictWeakOrder (goes_before w)
  before_order = record { one_way = one_way; chain = chain }

  held : (x y : ℕ) → ahead x y ≡ true → goes_before w y x ≡ false
  unfolding ahead
  held x y e = go (goes_before w y x) e
    where
      go : (t : Bool) → not t ≡ true → t ≡ false
      go true f = absurd cc
      go false f = refl

  given : (x y : ℕ) → goes_before w y x ≡ false → ahead x y ≡ true
  unfolding ahead
  given x y e = ap not e

  one_place : (x y : ℕ) → goes_before w x y ≡ false → goes_before w y x ≡ false → x ≡ y
  one_place x y a b = grind (arith, nat_tests, a, b)

  goes : (x y : ℕ) → goes_before w x y ≡ true → ahead x y ≡ true
  goes x y e = given x y (one_way x y e)

  stays : (x y : ℕ) → goes_before w x y ≡ false → ahead y x ≡ true
  stays x y e = given y x e

  follows : (x y z : ℕ) → ahead x y ≡ true → ahead y z ≡ true → ahead x z ≡ true
  follows x y z a b = given x z (chain z y x (held y z b) (held x y a))

  same_place : (x y : ℕ) → ahead x y ≡ true → ahead y x ≡ true → x ≡ y
  same_place x y a b = one_place x y (held y x b) (held x y a)

  inserted_is : (a : ℕ) (l : List ℕ) → ranks.inserted (goes_before w) ahead goes stays follows same_place a l ≡ insert_by w a l
  unfolding ranks.inserted insert_by
  inserted_is a [] = refl
  inserted_is a (b ∷ l) = rw (inserted_is a l)

  in_order_is : (l : List ℕ) → ranks.in_order (goes_before w) ahead goes stays follows same_place l ≡ high_to_low w l
  unfolding ranks.in_order high_to_low
  in_order_is [] = refl
  in_order_is (a ∷ l) = rw (in_order_is l, inserted_is a (high_to_low w l))

  -- neighbours in order are a list in order
  ranked : (l : List ℕ) → ((k : ℕ) → suc k < length l → goes_before w (get_or l (suc k) 0) (get_or l k 0) ≡ false) → ranks.Ranked (goes_before w) ahead goes stays follows same_place l
  unfolding ranks.Ranked mem
  ranked [] h = tt
  ranked (a ∷ []) h = ((λ x m. absurd cc), tt)
  ranked (a ∷ b ∷ l) h =
      let r = ranked (b ∷ l) (λ k u. h (suc k) (omega arith)) in
      let t = given a b (h 0 (omega arith)) in
      ((λ x m. cons_cases (ahead a x ≡ true) x b l m (λ p. rw p t) (λ p. follows a b x t (r.0 x p))), r)

  pub sorted_is : (xs ys : List ℕ) → IsPermutation xs ys → IsSortedBy (goes_before w) ys → ys ≡ high_to_low w xs
  sorted_is xs ys p up =
      ranks.ranked_same (goes_before w) ahead goes stays follows same_place xs ys (ranked ys (λ k u. rw (add-one k) at (up k 0 (omega arith) (omega arith))))
      (λ f. sym (sum_by-IsPermutation f xs ys p)) ∙ in_order_is xs
