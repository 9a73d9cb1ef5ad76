-- What the chains are for: following one finds the latest place that has a key, and finds nothing where none has it.
use Prim.Native.Nat.{ℕ, zero, suc, ◌+◌, ◌<◌, ◌≤◌}
use native.Mathlib.Omega.{arith}
use native.Mathlib.Numerals.{add-one}
use native.Mathlib.Decide.{dec_lt}
use mathlib.Core.Path.{◌≡◌, refl, sym, ap, ◌∙◌}
use mathlib.Core.Bool.{Bool, true, false}
use mathlib.Core.List.{List}
use lib.Dec.{eqb}
use lib.ListN.{get_or, length, set, length-set, replicate, length-replicate}
use lib.Seq.{get_or-set_same, get_or-set_other}
use borrow.Author.Tests.{ne_eqb, eqb-true, eqb-false}
use Rattle.rules.specs.Basics.{pick}
use Rattle.std.specs.Prelude.{Some}
use Rattle.std.specs.Option.{is_some}
use Rattle.index.specs.Chains.{remainder_of, entered, chained, follows, found_in, again_in, seek, last_of}

-- every chain is right up to n
record Linked (keys : List ℕ) (n : ℕ) : Type 0 where
  pub heads_long : length (chained keys n).heads ≡ 1024
  pub next_long : length (chained keys n).next ≡ 512
  pub head_at : (h : ℕ) → h < 1021 → get_or (chained keys n).heads h 0 ≡ last_of keys h n
  pub next_at : (g : ℕ) → g < n → get_or (chained keys n).next g 0 ≡ last_of keys (remainder_of (get_or keys g 0)) g

zero_at : (n i : ℕ) → let z : ℕ = 0 in get_or (replicate n z) i 0 ≡ z
zero_at zero i = refl
zero_at (suc n) zero = refl
zero_at (suc n) (suc i) = zero_at n i

module _ (keys : List ℕ) (n : ℕ) (room : n < 512) (w : Linked keys n) where
  abbrev h : ℕ
  h = remainder_of (get_or keys n 0)

  abbrev heads : List ℕ
  heads = (chained keys n).heads

  abbrev next : List ℕ
  next = (chained keys n).next

  h_low : h < 1021
  h_low = omega arith

  head_more : (x : ℕ) → x < 1021 → get_or (set heads h (n + 1)) x 0 ≡ last_of keys x (suc n)
  unfolding last_of pick
  head_more x l = go (eqb h x) refl
    where
      go : (t : Bool) → eqb h x ≡ t → get_or (set heads h (n + 1)) x 0 ≡ pick (eqb h x) (suc n) (last_of keys x n)
      go true e = let z = eqb-true h x e in rw (e, ← z) (get_or-set_same heads h (n + 1) 0 (omega (arith, w.heads_long, h_low)) ∙ add-one n)
      go false e = rw e (get_or-set_other heads h x (n + 1) 0 (λ z. eqb-false h x e (sym z)) ∙ w.head_at x l)

  next_more : (g : ℕ) → g < suc n → get_or (set next n (get_or heads h 0)) g 0 ≡ last_of keys (remainder_of (get_or keys g 0)) g
  next_more g l = go (dec_lt g n)
    where
      go : Dec (g < n) → get_or (set next n (get_or heads h 0)) g 0 ≡ last_of keys (remainder_of (get_or keys g 0)) g
      go (yes y) = get_or-set_other next n g (get_or heads h 0) 0 (λ z. omega arith) ∙ w.next_at g y
      go (no y) = let z : g ≡ n = omega arith in rw z (get_or-set_same next n (get_or heads h 0) 0 (omega (arith, w.next_long)) ∙ w.head_at h h_low)

linked : (keys : List ℕ) (n : ℕ) → n ≤ 512 → Linked keys n
unfolding chained entered last_of
linked keys zero room = record {
  heads_long = length-replicate {A = ℕ} 1024 0;
  next_long = length-replicate {A = ℕ} 512 0;
  head_at = λ h l. zero_at 1024 h;
  next_at = λ g l. absurd (omega arith);
}
linked keys (suc n) room =
    let w = linked keys n (omega arith) in
    record {
      heads_long = length-set (chained keys n).heads (remainder_of (get_or keys n 0)) (n + 1) ∙ w.heads_long;
      next_long = length-set (chained keys n).next n (get_or (chained keys n).heads (remainder_of (get_or keys n 0)) 0) ∙ w.next_long;
      head_at = head_more keys n room w;
      next_at = next_more keys n room w;
    }

module _ (keys : List ℕ) (n : ℕ) (room : n ≤ 512) where
  -- following the chain of a key's remainder over the first m places
  follows_is : (key m left : ℕ) → m ≤ left → m ≤ n → follows keys (chained keys n).next key left (last_of keys (remainder_of key) m) ≡ seek keys key m
  unfolding follows last_of seek pick
  follows_is key zero zero l u = refl
  follows_is key zero (suc left) l u = refl
  follows_is key (suc m) zero l u = absurd (omega arith)
  follows_is key (suc m) (suc left) l u = go (eqb (remainder_of (get_or keys m 0)) (remainder_of key)) refl (follows_is key m left (omega arith) (omega arith)) (follows_is key m (suc left) (omega arith) (omega arith))
    where
      go : (t : Bool) → eqb (remainder_of (get_or keys m 0)) (remainder_of key) ≡ t
          → follows keys (chained keys n).next key left (last_of keys (remainder_of key) m) ≡ seek keys key m
          → follows keys (chained keys n).next key (suc left) (last_of keys (remainder_of key) m) ≡ seek keys key m
          → follows keys (chained keys n).next key (suc left) (pick (eqb (remainder_of (get_or keys m 0)) (remainder_of key)) (suc m) (last_of keys (remainder_of key) m))
          ≡ pick (eqb (get_or keys m 0) key) (Some m) (seek keys key m)
      go true e p q =
          let z = eqb-true (remainder_of (get_or keys m 0)) (remainder_of key) e in
          let s : get_or (chained keys n).next m 0 ≡ last_of keys (remainder_of key) m = (linked keys n room).next_at m u ∙ ap (λ x. last_of keys x m) z in
          rw (e, s, p)
      go false e p q =
          let z : eqb (get_or keys m 0) key ≡ false = ne_eqb (get_or keys m 0) key (λ y. eqb-false (remainder_of (get_or keys m 0)) (remainder_of key) e (ap remainder_of y)) in
          rw (e, z) q

  pub found_chained : (key : ℕ) → found_in keys (chained keys n) key ≡ seek keys key n
  unfolding found_in
  found_chained key = let h : remainder_of key < 1021 = omega arith in rw ((linked keys n room).head_at (remainder_of key) h) (follows_is key n 512 room (omega arith))

  pub again_chained : (g : ℕ) → g < n → again_in keys (chained keys n).next g ≡ is_some (seek keys (get_or keys g 0) g)
  unfolding again_in
  again_chained g h = rw ((linked keys n room).next_at g h) (ap is_some (follows_is (get_or keys g 0) g 512 (omega arith) (omega arith)))
