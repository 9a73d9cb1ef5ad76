-- A list that ascends: the work that is left in a loop over it.
use Prim.Native.Nat.{ℕ, ◌+◌, ◌<◌, ◌≤◌}
use native.Mathlib.Omega.{arith}
use mathlib.Core.Path.{◌≡◌, sym, ap}
use mathlib.Core.Bool.{true, false}
use mathlib.Core.List.{List, ◌∷◌}
use lib.ListN.{get_or, length, drop, drop_of_length-le}
use borrow.Author.Tests.{lt-ltb, le-ltb}
use Rattle.rules.specs.Basics.{ascending}
use Rattle.row.proofs.Asked.{opened}

-- after the last entry passed those from place j on ascend exactly when all of them do
abbrev pub Climbing : List ℕ → ℕ → ℕ → Type 0
Climbing l last j = ascending (last ∷ drop j l) ≡ ascending l

module _ (l : List ℕ) where
  pub climb_start : (c : ℕ) → 1 ≤ length l → c ≡ get_or l 0 0 → Climbing l c 1
  climb_start c h e = rw e (ap ascending (sym (opened l 0 (omega arith))))

  module _ (last j : ℕ) (before : Climbing l last j) where
    module _ (h : j < length l) (c : ℕ) (here : c ≡ get_or l j 0) where
      one_more : ascending (last ∷ c ∷ drop (j + 1) l) ≡ ascending l
      one_more = rw (here, ← opened l j h) before

      pub climb_stop : c ≤ last → false ≡ ascending l
      unfolding ascending
      climb_stop m = rw (le-ltb last c m) at one_more

      pub climb_turn : last < c → Climbing l c (j + 1)
      unfolding ascending
      climb_turn m = rw (lt-ltb last c m) at one_more

    pub climb_end : length l ≤ j → true ≡ ascending l
    unfolding ascending
    climb_end h = rw (drop_of_length-le l h) at before
