-- Counts of who wants a signal, one less by one less.
-- Assumes nothing.
use Prim.Native.Nat.{ℕ, zero, suc, ◌+◌, ◌-◌, ◌<◌, ◌≤◌}
use native.Mathlib.Omega.{arith}
use native.Mathlib.Decide.{ℕ_discrete}
use native.Mathlib.Numerals.{add-one}
use mathlib.Core.Path.{◌≡◌, ◌∙◌}
use mathlib.Core.List.{List, [], ◌∷◌}
use lib.ListN.{get_or, length, drop, set, length-set, drop_of_length-le}
use lib.Seq.{get_or-set_same, get_or-set_other, drop-cons}
use Rattle.order.specs.Wanted.{times}
use Rattle.order.proofs.Counting.{times_self, times_other}
use Rattle.mapper.specs.Wanted.{Counted, CountedDown}

-- one count changed at a place inside
module _ (left : List ℕ) (o c v : ℕ) (here : o < length left) (e : c ≡ get_or left o 0) where
  down_one : c ≡ v + 1 → (s : ℕ) (l : List ℕ) → get_or (set left o v) s 0 + times s (o ∷ l) ≡ get_or left s 0 + times s l
  down_one f s l = go (ℕ_discrete s o)
    where
      go : Dec (s ≡ o) → get_or (set left o v) s 0 + times s (o ∷ l) ≡ get_or left s 0 + times s l
      go (yes q) = rw (q, get_or-set_same left o v 0 here, times_self) (omega (arith, e, f))
      go (no q) = rw (get_or-set_other left o s v 0 q, times_other s o l q)

-- a counted number has a place
inside : (left : List ℕ) (o : ℕ) → 0 < get_or left o 0 → o < length left
inside [] o h = absurd (omega arith)
inside (x ∷ l) zero h = omega arith
inside (x ∷ l) (suc o) h = omega (arith, inside l o h)

-- those from i on are left to count
pub record CountingDown (os left₀ left : List ℕ) (i : ℕ) : Type 0 where
  pub wide : length left ≡ length left₀
  pub same : (s : ℕ) → get_or left s 0 + times s os ≡ get_or left₀ s 0 + times s (drop i os)

module _ {os left₀ left : List ℕ} {i : ℕ} (w : CountingDown os left₀ left i) where
  module _ (h : i < length os) (d : Counted os left₀) {o c : ℕ} (e : o ≡ get_or os i 0) (f : c ≡ get_or left o 0) where
    next : drop i os ≡ o ∷ drop (i + 1) os
    next = rw (e, add-one i) (drop-cons os i 0 h)

    pub down_some : 1 ≤ c
    down_some =
        let t : times o (drop i os) ≡ suc (times o (drop (i + 1) os)) = rw (next, times_self) in
        omega (arith, f, w.same o, d.enough o, t)

    pub down_turn : {v : ℕ} → v ≡ c - 1 → CountingDown os left₀ (set left o v) (i + 1)
    down_turn {v} g =
        let l = drop (i + 1) os in
        let here : o < length left = inside left o (omega (arith, f, down_some)) in
        record {
          wide = length-set left o v ∙ w.wide;
          same = λ s.
              let a = down_one left o c v here f (omega (arith, g, down_some)) s l in
              let b : get_or left s 0 + times s os ≡ get_or left₀ s 0 + times s (o ∷ l) = rw (← next) (w.same s) in
              omega (arith, a, b);
        }

  pub down_end : length os ≤ i → CountedDown os left₀ left
  unfolding times
  down_end h = record { wide = w.wide; is = λ s. let z : get_or left₀ s 0 + 0 ≡ get_or left₀ s 0 = omega arith in (rw (drop_of_length-le os h) at (w.same s)) ∙ z }
