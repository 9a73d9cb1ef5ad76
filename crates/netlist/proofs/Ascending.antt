-- What `is_sorted_by` says where it asks whether each is lower than the next: document 01's strictly ascending.
use Prim.Native.Nat.{ℕ, zero, suc, ◌<◌}
use native.Mathlib.Omega.{arith}
use native.Mathlib.Numerals.{add-one}
use mathlib.Core.Path.{◌≡◌, refl}
use mathlib.Core.Bool.{Bool, true, false, ◌&&◌}
use mathlib.Core.List.{List, [], ◌∷◌}
use lib.Dec.{ltb}
use lib.ListN.{get_or, length}
use Rattle.std.specs.List.{IsAllAdjacentAnswer}
use Rattle.rules.specs.Basics.{ascending}

rises : (xs : List ℕ) → ((k : ℕ) → suc k < length xs → true ≡ ltb (get_or xs k 0) (get_or xs (suc k) 0)) → true ≡ ascending xs
unfolding ascending
rises [] h = refl
rises (a ∷ []) h = refl
rises (a ∷ b ∷ l) h = rw (← h 0 (omega arith)) (rises (b ∷ l) (λ k u. h (suc k) (omega arith)))

and_false : (t : Bool) → false ≡ (t && false)
and_false true = refl
and_false false = refl

falls : (xs : List ℕ) (k : ℕ) → suc k < length xs → false ≡ ltb (get_or xs k 0) (get_or xs (suc k) 0) → false ≡ ascending xs
unfolding ascending
falls [] k u e = absurd (omega arith)
falls (a ∷ []) k u e = absurd (omega arith)
falls (a ∷ b ∷ l) zero u e = rw (← e)
falls (a ∷ b ∷ l) (suc k) u e = rw (← falls (b ∷ l) k (omega arith) e) (and_false (ltb a b))

pub ascending_is : (xs : List ℕ) (r : Bool) → IsAllAdjacentAnswer (λ x y b. b ≡ ltb x y) xs r → r ≡ ascending xs
ascending_is xs true h = rises xs (λ k u. rw add-one at (h k 0 (omega arith)))
ascending_is xs false h = falls xs h.0 (omega (arith, h.1)) (rw add-one at (h.2 0))
