-- The gates among the first operands, and the sums of a weight.
-- Assumes nothing.
use Prim.Native.Nat.{ℕ, suc, ◌+◌, ◌<◌, ◌≤◌}
use native.Mathlib.Omega.{arith}
use native.Mathlib.Numerals.{add-one}
use mathlib.Core.Path.{◌≡◌, refl, sym, ap, ◌∙◌}
use mathlib.Core.Bool.{Bool, true, false}
use mathlib.Core.List.{List, [], ◌∷◌, ◌++◌}
use lib.Dec.{leb}
use borrow.Author.Tests.{le-leb, lt-leb}
use lib.ListN.{get_or, length, take}
use lib.Seq.{length-take-le}
use Rattle.std.specs.Prelude.{map}
use Rattle.std.specs.List.{enumerate_from, fold, reduce}
use Rattle.std.specs.Option.{unwrap_or}
use Rattle.std.specs.Ordering.{nat_cmp, max_by_ordering}
use Rattle.std.proofs.lemmas.Bool.Decides.{nat_tests}
use Rattle.std.proofs.lemmas.List.{append-nil, take_more, take_all}
use Rattle.rules.specs.Basics.{pick, keep, larger}
use Rattle.rules.specs.Weight.{goes_before, insert_by, high_to_low, gate_operands, largest_sum, weight_from}

-- ---- the gates among the first operands, sorted

length-insert : (w : ℕ → ℕ) (x : ℕ) (l : List ℕ) → length (insert_by w x l) ≡ suc (length l)
unfolding insert_by pick
length-insert w x [] = refl
length-insert w x (y ∷ l) = go (goes_before w x y) (length-insert w x l)
  where
    go : (b : Bool) → length (insert_by w x l) ≡ suc (length l) → length (pick b (x ∷ y ∷ l) (y ∷ insert_by w x l)) ≡ suc (suc (length l))
    go true e = refl
    go false e = ap suc e

pub sorted_few : (w : ℕ → ℕ) (inputs : ℕ) (l : List ℕ) → length (high_to_low w (gate_operands inputs l)) ≤ length l
unfolding high_to_low gate_operands keep pick
sorted_few w inputs [] = omega arith
sorted_few w inputs (x ∷ l) = go (leb inputs x) (sorted_few w inputs l)
  where
    go : (b : Bool) → length (high_to_low w (keep (leb inputs) l)) ≤ length l → length (high_to_low w (pick b (x ∷ keep (leb inputs) l) (keep (leb inputs) l))) ≤ suc (length l)
    go true h = omega (arith, length-insert w x (high_to_low w (keep (leb inputs) l)))
    go false h = omega arith

keep_snoc : (p : ℕ → Bool) (l : List ℕ) (x : ℕ) → keep p (l ++ (x ∷ [])) ≡ keep p l ++ pick (p x) (x ∷ []) []
unfolding keep pick
keep_snoc p [] x = refl
keep_snoc p (a ∷ l) x = go (p a) (keep_snoc p l x)
  where
    go : (b : Bool) → keep p (l ++ (x ∷ [])) ≡ keep p l ++ pick (p x) (x ∷ []) []
        → pick b (a ∷ keep p (l ++ (x ∷ []))) (keep p (l ++ (x ∷ []))) ≡ pick b (a ∷ keep p l) (keep p l) ++ pick (p x) (x ∷ []) []
    go true e = ap (λ t. a ∷ t) e
    go false e = e

keep_few : (p : ℕ → Bool) (l : List ℕ) → length (keep p l) ≤ length l
unfolding keep pick
keep_few p [] = omega arith
keep_few p (a ∷ l) = go (p a) (keep_few p l)
  where
    go : (b : Bool) → length (keep p l) ≤ length l → length (pick b (a ∷ keep p l) (keep p l)) ≤ suc (length l)
    go true h = omega arith
    go false h = omega arith

pub record Picking (inputs : ℕ) (os f : List ℕ) (k : ℕ) : Type 0 where
  pub is : f ≡ gate_operands inputs (take k os)

pub picking_start : (inputs : ℕ) (os f : List ℕ) → f ≡ [] → Picking inputs os f 0
unfolding gate_operands keep
picking_start inputs os f e = record { is = e }

module _ {inputs : ℕ} {os f : List ℕ} {k : ℕ} (s : Picking inputs os f k) where
  pub picking_room : k < length os → length os ≤ 4 → length f < 4
  unfolding gate_operands
  picking_room h l = rw s.is (omega (arith, keep_few (leb inputs) (take k os), length-take-le k os (omega arith)))

  module _ (h : k < length os) where
    pub picking_gate : inputs ≤ get_or os k 0 → Picking inputs os (f ++ (get_or os k 0 ∷ [])) (k + 1)
    unfolding gate_operands pick
    picking_gate g = record { is = rw (take_more os k 0 h, keep_snoc, le-leb inputs (get_or os k 0) g) (ap (λ t. t ++ (get_or os k 0 ∷ [])) s.is) }

    pub picking_input : get_or os k 0 < inputs → Picking inputs os f (k + 1)
    unfolding gate_operands pick
    picking_input g = record { is = rw (take_more os k 0 h, keep_snoc, lt-leb inputs (get_or os k 0) g) (s.is ∙ sym (append-nil _)) }

  pub picking_end : length os ≤ k → f ≡ gate_operands inputs os
  picking_end h = s.is ∙ ap (gate_operands inputs) (take_all k os h)

-- ---- the weight: the largest of the sums, or 1 where there are none

abbrev pub bigger : ℕ → ℕ → ℕ
bigger a b = max_by_ordering (nat_cmp a b) a b

bigger_larger : (a b : ℕ) → bigger a b ≡ larger a b
unfolding larger pick
bigger_larger a b = grind (arith, nat_tests)

larger_none : (a : ℕ) → larger 0 (a + 0) ≡ a + 0
unfolding larger pick
larger_none a = grind (arith, nat_tests)

module _ (w : ℕ → ℕ) where
  abbrev pub sums : ℕ → List ℕ → List ℕ
  sums k os = map (λ p. w p.1 + p.0) (enumerate_from k os)

  sums_fold : (k a : ℕ) (os : List ℕ) → fold bigger a (sums k os) ≡ largest_sum w k a os
  unfolding largest_sum
  sums_fold k a [] = refl
  sums_fold k a (o ∷ os) =
      let b = larger a (w o + k) in
      ap (λ a. fold bigger a (sums (k + 1) os)) (bigger_larger a (w o + k)) ∙ ap (λ j. fold bigger b (sums j os)) (add-one k) ∙ sums_fold (suc k) b os

  pub largest_is_weight : (os : List ℕ) → unwrap_or (reduce bigger (sums 0 os)) 1 ≡ weight_from w os
  unfolding weight_from largest_sum
  largest_is_weight [] = refl
  largest_is_weight (o ∷ os) = sums_fold 1 (w o + 0) os ∙ ap (λ a. largest_sum w 1 a os) (sym (larger_none (w o)))
