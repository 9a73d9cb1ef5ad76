-- Twins: outputs that stand twice, by marks, and gates with one operand list, by their keys.
use Prim.Native.Nat.{ℕ, zero, suc, ◌+◌, ◌*◌, ◌<◌, ◌≤◌, min}
use native.Mathlib.Omega.{arith}
use native.Mathlib.Numerals.{add-one}
use mathlib.Core.Path.{◌≡◌, refl, sym, ap, ◌∙◌}
use mathlib.Core.Bool.{Bool, true, false, ◌||◌}
use mathlib.Core.List.{List, [], ◌∷◌, ◌++◌}
use lib.Dec.{eqb}
use lib.ListN.{get_or, length, set, drop, length-drop, drop_of_length-le}
use lib.Seq.{drop-cons, get_or-drop}
use borrow.Author.Tests.{eq-eqb, ne_eqb, eqb-true, eqb-false}
use Rattle.rules.specs.Basics.{pick, any, mem, repeats, same_list}
use Rattle.rules.specs.Netlist.{twins}
use Rattle.rules.proofs.Laws.{cons_self, cons_more, same_list_eq, same_list_refl}
use Rattle.std.specs.Prelude.{Option, Some}
use Rattle.std.specs.Option.{is_some}
use Rattle.index.specs.declared.Chains.{Chains}
use Rattle.index.specs.Chains.{key_of, chained, seek, again_in, twice_in}
use Rattle.index.proofs.Keys.{key_same}
use Rattle.index.proofs.Seeking.{again_chained}
use Rattle.netlist.specs.declared.Netlist.{Netlist}
use Rattle.netlist.specs.Flat.{from, gate_in, gates_in}
use Rattle.netlist.specs.Keys.{keys_in}
use Rattle.netlist.specs.Marks.{no_marks, marked}
use Rattle.netlist.specs.Well.{WellFlat}
use Rattle.netlist.proofs.Arrays.{mem-get_or, length_from, get_or-from, length-gate}
use Rattle.netlist.proofs.Keyed.{key_of_gate}
use Rattle.netlist.proofs.Marking.{marked_set, none_marked}

-- ---- outputs

-- some of a list stands twice, or was seen before
pub again : List Bool → List ℕ → Bool
again seen l = repeats l || any (marked seen) l

none_seen : (l : List ℕ) → any (marked no_marks) l ≡ false
none_seen [] = refl
none_seen (x ∷ l) = rw (none_marked x, none_seen l)

pub or_nothing : (a : Bool) → (a || false) ≡ a
or_nothing true = refl
or_nothing false = refl

or_true : (a : Bool) → (a || true) ≡ true
or_true true = refl
or_true false = refl

eqb_flips : (a b : ℕ) → eqb a b ≡ eqb b a
eqb_flips a b = go (eqb b a) refl
  where
    go : (t : Bool) → eqb b a ≡ t → eqb a b ≡ eqb b a
    go true e = let z = eqb-true b a e in eq-eqb a b (sym z) ∙ sym e
    go false e = ne_eqb a b (λ z. eqb-false b a e (sym z)) ∙ sym e

-- one more is seen
any_seen : (seen : List Bool) (o : ℕ) (l : List ℕ) → ((x : ℕ) → mem x l ≡ true → x < length seen) → any (marked (set seen o true)) l ≡ (mem o l || any (marked seen) l)
unfolding mem
any_seen seen o [] h = refl
any_seen seen o (x ∷ l) h =
    let p = marked_set seen o x (h x (cons_self x l)) in
    let q = any_seen seen o l (λ y e. h y (cons_more y x l e)) in
    rw (p, q, eqb_flips x o) (moves (eqb o x) (marked seen x) (mem o l) (any (marked seen) l))
  where
    moves : (a b c d : Bool) → ((a || b) || (c || d)) ≡ ((a || c) || (b || d))
    moves true b c d = refl
    moves false true true d = refl
    moves false true false d = refl
    moves false false c d = refl

again_turn : (seen : List Bool) (o : ℕ) (l : List ℕ) → ((x : ℕ) → mem x l ≡ true → x < length seen) → marked seen o ≡ false → again seen (o ∷ l) ≡ again (set seen o true) l
unfolding again repeats
again_turn seen o l h e = rw (e, any_seen seen o l h) (moves (mem o l) (repeats l) (any (marked seen) l))
  where
    moves : (a b c : Bool) → ((a || b) || c) ≡ (b || (a || c))
    moves true true c = refl
    moves true false c = refl
    moves false true c = refl
    moves false false c = refl

-- what is left of the list repeats, or was seen
pub repeat_start : (list : List ℕ) → again no_marks (drop 0 list) ≡ repeats list
unfolding again
repeat_start list = rw (none_seen list) (or_nothing (repeats list))

module _ (list : List ℕ) (seen : List Bool) (k : ℕ) (w : again seen (drop k list) ≡ repeats list) where
  pub repeat_end : length list ≤ k → false ≡ repeats list
  unfolding again repeats
  repeat_end h = sym (rw (drop_of_length-le list h)) ∙ w

  module _ (h : k < length list) where
    here : drop k list ≡ get_or list k 0 ∷ drop (k + 1) list
    here = rw (add-one, drop-cons list k 0 h)

    pub repeat_stop : marked seen (get_or list k 0) ≡ true → true ≡ repeats list
    unfolding again
    repeat_stop e = sym (rw (here, e) (or_true (repeats (get_or list k 0 ∷ drop (k + 1) list)))) ∙ w

    pub repeat_turn : length seen ≡ 576 → ((i : ℕ) → i < length list → get_or list i 0 < 576) → marked seen (get_or list k 0) ≡ false
        → again (set seen (get_or list k 0) true) (drop (k + 1) list) ≡ repeats list
    repeat_turn long low e =
        let rest = drop (k + 1) list in
        let inside : (x : ℕ) → mem x rest ≡ true → x < length seen = λ x z.
        let q = mem-get_or x rest z in
        let v = get_or-drop (k + 1) list q.0 0 in
        omega (arith, low (k + 1 + q.0) (omega (arith, q.1, length-drop (k + 1) list)), q.2, v) in
        sym (ap (again seen) here ∙ again_turn seen (get_or list k 0) rest inside e) ∙ w

-- ---- gates

pub any_snoc : {A : Type 0} (p : A → Bool) (l : List A) (x : A) → any p (l ++ (x ∷ [])) ≡ (any p l || p x)
any_snoc p [] x = or_nothing (p x)
any_snoc p (y ∷ l) x = rw (any_snoc p l x) (groups (p y) (any p l) (p x))
  where
    groups : (a b c : Bool) → (a || (b || c)) ≡ ((a || b) || c)
    groups true b c = refl
    groups false b c = refl

pub twins_snoc : (gs : List (List ℕ)) (x : List ℕ) → twins (gs ++ (x ∷ [])) ≡ (twins gs || any (λ g. same_list g x) gs)
unfolding twins
twins_snoc [] x = refl
twins_snoc (g ∷ gs) x =
    rw (any_snoc (same_list g) gs x, twins_snoc gs x) (moves (any (same_list g) gs) (same_list g x) (twins gs) (any (λ g. same_list g x) gs))
  where
    moves : (a b c d : Bool) → ((a || b) || (c || d)) ≡ ((a || c) || (b || d))
    moves true b c d = refl
    moves false true true d = refl
    moves false true false d = refl
    moves false false c d = refl

module _ (n : Netlist) (w : WellFlat n) where
  abbrev gate : ℕ → List ℕ
  gate g = gate_in n.ops n.counts g

  abbrev gates : ℕ → List (List ℕ)
  gates g = gates_in n.ops n.counts g

  abbrev keys : List ℕ
  keys = keys_in n

  pub gate_few : (g : ℕ) → g < n.gates → length (gate g) ≤ 4
  gate_few g h = omega (arith, length-gate n.ops n.counts g, w.few g h)

  pub gate_low : (g : ℕ) → g < n.gates → (k : ℕ) → k < length (gate g) → get_or (gate g) k 0 < 1024
  unfolding gate_in
  gate_low g h k l =
      let m : k < get_or n.counts g 0 = omega (arith, length-gate n.ops n.counts g) in
      rw (get_or-from n.ops (4 * g) (get_or n.counts g 0) k 0 m) (omega (arith, w.lower g k h m, w.inputs_most, w.gates_most))

  -- two gates have one key exactly when they have one operand list
  key_tells : (i g : ℕ) → i < n.gates → g < n.gates → eqb (get_or keys i 0) (get_or keys g 0) ≡ same_list (gate i) (gate g)
  key_tells i g h l = go (eqb (get_or keys i 0) (get_or keys g 0)) refl (same_list (gate i) (gate g)) refl
    where
      go : (t : Bool) → eqb (get_or keys i 0) (get_or keys g 0) ≡ t → (u : Bool) → same_list (gate i) (gate g) ≡ u → t ≡ u
      go true e u f =
          let z : key_of (gate i) ≡ key_of (gate g) = sym (key_of_gate n w i h) ∙ eqb-true (get_or keys i 0) (get_or keys g 0) e ∙ key_of_gate n w g l in
          let y = key_same (gate i) (gate g) z (gate_few i h) (gate_few g l) (gate_low i h) (gate_low g l) in
          sym (same_list_refl (gate g)) ∙ (rw y at f)
      go false e true f =
          let y = same_list_eq (gate i) (gate g) f in
          absurd (eqb-false (get_or keys i 0) (get_or keys g 0) e (key_of_gate n w i h ∙ ap key_of y ∙ sym (key_of_gate n w g l)))
      go false e false f = refl

  seek_tells : (g m : ℕ) → g < n.gates → m ≤ g → is_some (seek keys (get_or keys g 0) m) ≡ any (λ x. same_list x (gate g)) (gates m)
  unfolding seek gates_in pick
  seek_tells g zero h l = refl
  seek_tells g (suc m) h l = rw (key_tells m g (omega arith) h, any_snoc (λ x. same_list x (gate g)) (gates m) (gate m), ← seek_tells g m h (omega arith)) (go (same_list (gate m) (gate g)) (seek keys (get_or keys g 0) m))
    where
      go : (t : Bool) (s : Option ℕ) → is_some (pick t (Some m) s) ≡ (is_some s || t)
      go true s = sym (or_true (is_some s))
      go false s = sym (or_nothing (is_some s))

  abbrev next : List ℕ
  next = (chained keys n.gates).next

  again_tells : (g : ℕ) → g < n.gates → again_in keys next g ≡ any (λ x. same_list x (gate g)) (gates g)
  again_tells g h = again_chained keys n.gates w.gates_most g h ∙ seek_tells g g h (omega arith)

  twice_tells : (k g : ℕ) → g + k ≤ n.gates → (twins (gates g) || twice_in keys next g k) ≡ twins (gates (g + k))
  unfolding gates_in
  twice_tells zero g h = let e : g + 0 ≡ g = omega arith in rw e (or_nothing (twins (gates g)))
  twice_tells (suc k) g h =
      let e : g + 1 + k ≡ g + suc k = omega arith in
      let r : (twins (gates (suc g)) || twice_in keys next (g + 1) k) ≡ twins (gates (g + suc k)) =
      ap (λ m. twins (gates m) || twice_in keys next (g + 1) k) (sym (add-one g)) ∙ twice_tells k (g + 1) (omega arith) ∙ ap (λ m. twins (gates m)) e in
      rw (again_tells g (omega arith)) (go (twins (gates g)) (any (λ x. same_list x (gate g)) (gates g)) (twice_in keys next (g + 1) k) ∙ rw (← twins_snoc (gates g) (gate g)) r)
    where
      go : (a b c : Bool) → (a || (b || c)) ≡ ((a || b) || c)
      go true b c = refl
      go false true c = refl
      go false false c = refl

  pub twins_are : twice_in keys (chained keys (min n.gates 512)).next 0 (min n.gates 512) ≡ twins (gates n.gates)
  unfolding gates_in twins
  twins_are =
      let m : min n.gates 512 ≡ n.gates = omega (arith, w.gates_most) in
      let z : 0 + n.gates ≡ n.gates = omega arith in
      ap (λ k. twice_in keys (chained keys k).next 0 k) m ∙ twice_tells n.gates 0 (omega arith) ∙ ap (λ k. twins (gates k)) z

  pub twins_from : (ks : List ℕ) (ch : Chains) (r : Bool) → ks ≡ keys_in n → ch ≡ chained ks (min n.gates 512) → r ≡ twice_in ks ch.next 0 (min n.gates 512) → r ≡ twins (gates n.gates)
  twins_from ks ch r e f h = h ∙ rw (f, e) twins_are

  -- an output is a signal
  pub outputs_low : (l : List ℕ) → l ≡ from n.outs 0 n.outputs → (k : ℕ) → k < length l → get_or l k 0 < 576
  outputs_low l e k h =
      let u : k < n.outputs = omega (arith, ap length e, length_from n.outs 0 n.outputs) in
      let z : 0 + k ≡ k = omega arith in
      rw (e, get_or-from n.outs 0 n.outputs k 0 u, z) (omega (arith, w.outputs_low k u, w.inputs_most, w.gates_most))

-- what `repeats` is proved by
pub ruleset repeat_rules = (repeat_start, repeat_stop, repeat_turn, repeat_end)
