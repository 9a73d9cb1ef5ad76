-- What the library's sort leaves is document 01's order.
use Rattle.std.proofs.Common.{ℕ, suc, ◌<◌, ◌≤◌, arith, ◌≡◌, refl, sym, ◌∙◌, true, false, List, [], ◌∷◌, leb, get_or, length, le-leb, leb-true, leb-false}
use Rattle.std.specs.List.Sorted.{IsPermutation, IsSorted}
use Rattle.std.specs.Ordering.{nat_cmp}
use Rattle.std.proofs.lemmas.List.Sorted.{sum_by-IsPermutation, IsNonDecreasingBy-from_sort}
use Rattle.rules.specs.Basics.{insert, sort}
use Rattle.netlist.proofs.Arrays.{mem-get_or}
use Rattle.netlist.proofs.Ranks as ranks

stays : (x y : ℕ) → leb x y ≡ false → leb y x ≡ true
stays x y e = le-leb y x (omega (arith, leb-false x y e))

follows : (x y z : ℕ) → leb x y ≡ true → leb y z ≡ true → leb x z ≡ true
follows x y z a b = le-leb x z (omega (arith, leb-true x y a, leb-true y z b))

same_place : (x y : ℕ) → leb x y ≡ true → leb y x ≡ true → x ≡ y
same_place x y a b = omega (arith, leb-true x y a, leb-true y x b)

inserted_is : (a : ℕ) (l : List ℕ) → ranks.inserted leb leb (λ _ _ e. e) stays follows same_place a l ≡ insert a l
unfolding ranks.inserted insert
inserted_is a [] = refl
inserted_is a (b ∷ l) = rw (inserted_is a l)

in_order_is : (l : List ℕ) → ranks.in_order leb leb (λ _ _ e. e) stays follows same_place l ≡ sort l
unfolding ranks.in_order sort
in_order_is [] = refl
in_order_is (a ∷ l) = rw (in_order_is l, inserted_is a (sort l))

ranked : (l : List ℕ) → ((i j : ℕ) → i ≤ j → j < length l → get_or l i 0 ≤ get_or l j 0) → ranks.Ranked leb leb (λ _ _ e. e) stays follows same_place l
unfolding ranks.Ranked
ranked [] h = tt
ranked (a ∷ l) h = (
  (λ x m. let y = mem-get_or x l m in let z = h 0 (suc y.0) (omega arith) (omega (arith, y.1)) in le-leb a x (omega (arith, z, y.2))),
  ranked l (λ i j u v. h (suc i) (suc j) (omega arith) (omega arith)),
)

pub sorted_same : (xs ys : List ℕ) → IsPermutation xs ys → IsSorted nat_cmp ys → ys ≡ sort xs
sorted_same xs ys p up =
    let n = IsNonDecreasingBy-from_sort (λ x. x) ys up in
    ranks.ranked_same leb leb (λ _ _ e. e) stays follows same_place xs ys (ranked ys (λ i j. n i j 0)) (λ f. sym (sum_by-IsPermutation f xs ys p)) ∙ in_order_is xs
