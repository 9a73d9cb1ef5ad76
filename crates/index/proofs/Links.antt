-- The loops over links and places: making the chains, following one, asking each place.
use Prim.Native.Nat.{ℕ, suc, ◌+◌, ◌-◌, ◌<◌, ◌≤◌}
use native.Mathlib.Omega.{arith}
use native.Mathlib.Numerals.{add-one}
use mathlib.Core.Path.{◌≡◌, refl, sym, ap, ◌∙◌}
use mathlib.Core.List.{List}
use lib.ListN.{get_or, set, replicate}
use lib.Dec.{eqb}
use borrow.Author.Tests.{eq-eqb, ne_eqb}
use Rattle.rules.specs.Basics.{pick}
use Rattle.std.specs.Prelude.{None, Some}
use Rattle.index.specs.Chains.{remainder_of, entered, chained, follows}

-- ---- making the chains

pub chains_start : (keys : List ℕ) → record { heads = replicate 1024 0; next = replicate 512 0 } ≡ chained keys 0
unfolding chained
chains_start keys = refl

pub chains_turn : (keys : List ℕ) (g : ℕ) (heads next : List ℕ) → record { heads = heads; next = next } ≡ chained keys g
    → record { heads = set heads (remainder_of (get_or keys g 0)) (g + 1); next = set next g (get_or heads (remainder_of (get_or keys g 0)) 0) } ≡ chained keys (g + 1)
unfolding chained entered
chains_turn keys g heads next e = let s : chained keys (g + 1) ≡ entered (chained keys g) g (get_or keys g 0) = ap (chained keys) (add-one g) in rw (s, ← e)

-- ---- following one

-- one turn of the walk, at a link that leads somewhere
module _ (keys next : List ℕ) (key link : ℕ) (c turn : ℕ) (w : follows keys next key (512 - turn) c ≡ follows keys next key 512 link) (more : turn < 512) where
  abbrev one_more : 512 - turn ≡ suc (512 - (turn + 1))
  one_more = omega arith

  pub follow_stop : c ≡ 0 → None ≡ follows keys next key 512 link
  unfolding follows
  follow_stop e = sym (rw (e, one_more)) ∙ w

  module _ (some : c ≡ 0 → ⊥) where
    place : c ≡ suc (c - 1)
    place = omega arith

    turned : follows keys next key (512 - turn) c ≡ pick (eqb (get_or keys (c - 1) 0) key) (Some (c - 1)) (follows keys next key (512 - (turn + 1)) (get_or next (c - 1) 0))
    unfolding follows
    turned = ap (λ m. follows keys next key m c) one_more ∙ ap (follows keys next key (suc (512 - (turn + 1)))) place

    pub follow_here : get_or keys (c - 1) 0 ≡ key → Some (c - 1) ≡ follows keys next key 512 link
    unfolding pick
    follow_here e = sym (turned ∙ rw (eq-eqb (get_or keys (c - 1) 0) key e)) ∙ w

    pub follow_turn : (get_or keys (c - 1) 0 ≡ key → ⊥) → follows keys next key (512 - (turn + 1)) (get_or next (c - 1) 0) ≡ follows keys next key 512 link
    unfolding pick
    follow_turn f = sym (turned ∙ rw (ne_eqb (get_or keys (c - 1) 0) key f)) ∙ w

pub follow_end : (keys next : List ℕ) (key link c turn : ℕ) → follows keys next key (512 - turn) c ≡ follows keys next key 512 link → 512 ≤ turn → None ≡ follows keys next key 512 link
unfolding follows
follow_end keys next key link c turn w h = let e : 512 - turn ≡ 0 = omega arith in sym (rw e) ∙ w

-- what `follow` is proved by
pub ruleset follow_rules = (follow_stop, follow_here, follow_turn, follow_end)
