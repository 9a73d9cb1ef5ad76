-- A question asked of a list's entries by their places is asked of the list.
use Prim.Native.Nat.{ℕ, zero, suc, ◌+◌, ◌<◌}
use native.Mathlib.Omega.{arith}
use native.Mathlib.Numerals.{add-one}
use mathlib.Core.Path.{◌≡◌}
use mathlib.Core.Bool.{Bool}
use mathlib.Core.List.{List, ◌∷◌}
use lib.Dec.{eqb}
use lib.ListN.{get_or, length, drop, drop_of_length-le}
use lib.Seq.{drop-cons}
use Rattle.std.specs.List.{list_all, list_any, range_with_len}
use Rattle.rules.specs.Basics.{mem, repeats}

module _ (l : List ℕ) where
  pub opened : (a : ℕ) → a < length l → drop a l ≡ get_or l a 0 ∷ drop (a + 1) l
  opened a h = rw add-one (drop-cons l a 0 h)

  pub asks_all : (p : ℕ → Bool) (a k : ℕ) → a + k ≡ length l → list_all (λ j. p (get_or l j 0)) (range_with_len a k) ≡ list_all p (drop a l)
  asks_all p a zero e = rw (drop_of_length-le l {i = a} (omega arith))
  asks_all p a (suc k) e = rw (opened a (omega arith), asks_all p (a + 1) k (omega arith))

  pub asks_mem : (x a k : ℕ) → a + k ≡ length l → list_any (λ j. eqb x (get_or l j 0)) (range_with_len a k) ≡ mem x (drop a l)
  unfolding mem
  asks_mem x a zero e = rw (drop_of_length-le l {i = a} (omega arith))
  asks_mem x a (suc k) e = rw (opened a (omega arith), asks_mem x (a + 1) k (omega arith))

  -- whether entry i comes again after it
  abbrev pub again : ℕ → Bool
  again i = mem (get_or l i 0) (drop (i + 1) l)

  pub asks_again : (a k : ℕ) → a + k ≡ length l → list_any again (range_with_len a k) ≡ repeats (drop a l)
  unfolding repeats
  asks_again a zero e = rw (drop_of_length-le l {i = a} (omega arith))
  asks_again a (suc k) e = rw (opened a (omega arith), asks_again (a + 1) k (omega arith))
