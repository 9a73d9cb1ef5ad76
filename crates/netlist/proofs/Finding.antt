-- The gate with an operand list is found by the list's key.
use Prim.Native.Nat.{ℕ, zero, suc, ◌+◌, ◌-◌, ◌<◌, ◌≤◌, min}
use native.Mathlib.Omega.{arith}
use mathlib.Core.Path.{◌≡◌, refl, sym, ap, ◌∙◌}
use mathlib.Core.Bool.{Bool, true, false}
use mathlib.Core.List.{List, [], ◌∷◌, ◌++◌}
use mathlib.Core.Option.{Option, none, some}
use lib.Dec.{eqb}
use lib.ListN.{get_or, length}
use borrow.Author.Tests.{eqb-true, eqb-false}
use Rattle.std.specs.Prelude.{Some}
use Rattle.index.specs.Chains.{key_of, chained, found_in, seek}
use Rattle.index.proofs.Keys.{key_same}
use Rattle.index.proofs.Seeking.{found_chained}
use Rattle.rules.specs.Basics.{pick, any, same_list}
use Rattle.rules.specs.Netlist.{twins}
use Rattle.rules.specs.Book.{gate_with}
use Rattle.rules.proofs.Laws.{or_false, same_list_eq, same_list_refl}
use Rattle.netlist.specs.declared.Netlist.{Netlist}
use Rattle.netlist.specs.Flat.{gate_in, gates_in}
use Rattle.netlist.specs.Keys.{keys_in, found_gate}
use Rattle.netlist.specs.Well.{WellFlat}
use Rattle.netlist.proofs.Alike.{twins_snoc, gate_few, gate_low}
use Rattle.netlist.proofs.Arrays.{length-gates}
use Rattle.netlist.proofs.Keyed.{key_of_gate}

-- the first, or else the second
first : Option ℕ → Option ℕ → Option ℕ
first none o = o
first (some x) o = some x

with_snoc : (os : List ℕ) (k : ℕ) (gs : List (List ℕ)) (x : List ℕ) → gate_with os k (gs ++ (x ∷ [])) ≡ first (gate_with os k gs) (pick (same_list os x) (some (k + length gs)) none)
unfolding gate_with first
with_snoc os k [] x = let e : k + 0 ≡ k = omega arith in rw e
with_snoc os k (g ∷ gs) x = go (same_list os g) (with_snoc os (suc k) gs x)
  where
    go : (t : Bool) → gate_with os (suc k) (gs ++ (x ∷ [])) ≡ first (gate_with os (suc k) gs) (pick (same_list os x) (some (suc k + length gs)) none)
        → pick t (some k) (gate_with os (suc k) (gs ++ (x ∷ []))) ≡ first (pick t (some k) (gate_with os (suc k) gs)) (pick (same_list os x) (some (k + suc (length gs))) none)
    go true r = refl
    go false r = let e : suc k + length gs ≡ k + suc (length gs) = omega arith in rw (← e) r

-- no gate is that list
with_none : (os : List ℕ) (k : ℕ) (gs : List (List ℕ)) → any (λ g. same_list g os) gs ≡ false → gate_with os k gs ≡ none
unfolding gate_with pick
with_none os k [] e = refl
with_none os k (g ∷ gs) e =
    let h = or_false (same_list g os) (any (λ g. same_list g os) gs) e in
    rw (same_flips g os h.0) (with_none os (suc k) gs h.1)
  where
    same_flips : (a b : List ℕ) → same_list a b ≡ false → same_list b a ≡ false
    same_flips a b f = go (same_list b a) refl
      where
        go : (t : Bool) → same_list b a ≡ t → t ≡ false
        go true z = let y = same_list_eq b a z in sym (same_list_refl b) ∙ (rw (← y) at f)
        go false z = refl

first_none : (o : Option ℕ) → first o none ≡ o
unfolding first
first_none none = refl
first_none (some x) = refl

module _ (n : Netlist) (w : WellFlat n) (single : twins (gates_in n.ops n.counts n.gates) ≡ false) where
  abbrev gate : ℕ → List ℕ
  gate g = gate_in n.ops n.counts g

  abbrev gates : ℕ → List (List ℕ)
  gates g = gates_in n.ops n.counts g

  -- no twins among the first gates either
  single_first : (d m : ℕ) → m + d ≡ n.gates → twins (gates m) ≡ false
  unfolding gates_in
  single_first zero m e = let f : n.gates ≡ m = omega arith in rw f at single
  single_first (suc d) m e =
      let r = single_first d (suc m) (omega arith) in
      (or_false (twins (gates m)) (any (λ g. same_list g (gate m)) (gates m)) (sym (twins_snoc (gates m) (gate m)) ∙ r)).0

  single_here : (m : ℕ) → m < n.gates → any (λ g. same_list g (gate m)) (gates m) ≡ false
  unfolding gates_in
  single_here m h =
      let r = single_first (n.gates - suc m) (suc m) (omega arith) in
      (or_false (twins (gates m)) (any (λ g. same_list g (gate m)) (gates m)) (sym (twins_snoc (gates m) (gate m)) ∙ r)).1

  module _ (os : List ℕ) (few : length os ≤ 4) (low : (k : ℕ) → k < length os → get_or os k 0 < 1024) where
    -- a gate has the list's key exactly when it has the list
    key_tells : (m : ℕ) → m < n.gates → eqb (get_or (keys_in n) m 0) (key_of os) ≡ same_list os (gate m)
    key_tells m h = go (eqb (get_or (keys_in n) m 0) (key_of os)) refl (same_list os (gate m)) refl
      where
        go : (t : Bool) → eqb (get_or (keys_in n) m 0) (key_of os) ≡ t → (u : Bool) → same_list os (gate m) ≡ u → t ≡ u
        go true e u f =
            let z : key_of os ≡ key_of (gate m) = sym (eqb-true (get_or (keys_in n) m 0) (key_of os) e) ∙ key_of_gate n w m h in
            let y = key_same os (gate m) z few (gate_few n w m h) low (gate_low n w m h) in
            sym (same_list_refl os) ∙ (rw (← y) at f)
        go false e true f =
            let y = same_list_eq os (gate m) f in
            absurd (eqb-false (get_or (keys_in n) m 0) (key_of os) e (key_of_gate n w m h ∙ ap key_of (sym y)))
        go false e false f = refl

    seek_with : (m : ℕ) → m ≤ n.gates → found_gate n.inputs (seek (keys_in n) (key_of os) m) ≡ gate_with os n.inputs (gates m)
    unfolding seek found_gate gates_in gate_with pick first
    seek_with zero h = refl
    seek_with (suc m) h =
        rw (key_tells m h, with_snoc os n.inputs (gates m) (gate m), length-gates n.ops n.counts m) (go (same_list os (gate m)) refl (seek_with m (omega arith)))
      where
        go : (t : Bool) → same_list os (gate m) ≡ t → found_gate n.inputs (seek (keys_in n) (key_of os) m) ≡ gate_with os n.inputs (gates m)
            → found_gate n.inputs (pick t (Some m) (seek (keys_in n) (key_of os) m)) ≡ first (gate_with os n.inputs (gates m)) (pick t (some (n.inputs + m)) none)
        go true e r =
            let y = same_list_eq os (gate m) e in
            let z : gate_with os n.inputs (gates m) ≡ none = with_none os n.inputs (gates m) (rw y (single_here m h)) in
            rw z
        go false e r = r ∙ sym (first_none (gate_with os n.inputs (gates m)))

    -- what `index::Chains::find` answers for the netlist's keys and chains is the gate that document 01 means
    pub finds : found_gate n.inputs (found_in (keys_in n) (chained (keys_in n) (min n.gates 512)) (key_of os))
        ≡ gate_with os n.inputs (gates n.gates)
    finds =
        let m : min n.gates 512 ≡ n.gates = omega (arith, w.gates_most) in
        rw (m, found_chained (keys_in n) n.gates w.gates_most (key_of os)) (seek_with n.gates (omega arith))
