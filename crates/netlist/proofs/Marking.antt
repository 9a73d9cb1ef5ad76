-- Signals marked in an array, and what the marks say: every gate is read or an output.
use Prim.Native.Nat.{ℕ, zero, suc, ◌+◌, ◌<◌, ◌≤◌}
use native.Mathlib.Omega.{arith}
use native.Mathlib.Numerals.{add-one}
use mathlib.Core.Path.{◌≡◌, refl, sym, ◌∙◌}
use mathlib.Core.Bool.{Bool, true, false, ◌||◌}
use mathlib.Core.List.{List, [], ◌∷◌, ◌++◌}
use lib.Dec.{eqb}
use lib.ListN.{get_or, length, set, drop, length-set, drop_of_length-le, replicate, length-replicate}
use lib.Seq.{drop-cons, get_or-set_same, get_or-set_other}
use borrow.Author.Tests.{eqb-true, eqb-false}
use Rattle.std.specs.List.{range_with_len}
use Rattle.rules.specs.Basics.{all, any, mem, set_all, upto}
use Rattle.rules.specs.Netlist.{all_used, gate_signals, is_read}
use Rattle.netlist.specs.declared.Netlist.{Netlist}
use Rattle.netlist.specs.Flat.{from, gate_in, gates_in, netlist_in}
use Rattle.netlist.specs.Marks.{no_marks, marked, marked_by}
use Rattle.netlist.specs.Well.{WellFlat}
use Rattle.netlist.proofs.Arrays.{length-gates}

-- ---- marking a list

pub mark_turn : (list : List ℕ) (marks : List Bool) (k : ℕ) → k < length list → set_all true (drop k list) marks ≡ set_all true (drop (k + 1) list) (set marks (get_or list k 0) true)
unfolding set_all
mark_turn list marks k h = rw (add-one, drop-cons list k 0 h)

pub mark_end : (list : List ℕ) (marks : List Bool) (k : ℕ) → length list ≤ k → set_all true (drop k list) marks ≡ marks
unfolding set_all
mark_end list marks k h = rw (drop_of_length-le list h)

-- ---- marking the gates

by_snoc : (gs : List (List ℕ)) (g : List ℕ) (marks : List Bool) → marked_by (gs ++ (g ∷ [])) marks ≡ set_all true g (marked_by gs marks)
unfolding marked_by
by_snoc [] g marks = refl
by_snoc (x ∷ gs) g marks = by_snoc gs g (set_all true x marks)

set_all_long : (l : List ℕ) (marks : List Bool) → length (set_all true l marks) ≡ length marks
unfolding set_all
set_all_long [] marks = refl
set_all_long (c ∷ l) marks = set_all_long l (set marks c true) ∙ length-set marks c true

by_long : (gs : List (List ℕ)) (marks : List Bool) → length (marked_by gs marks) ≡ length marks
unfolding marked_by
by_long [] marks = refl
by_long (g ∷ gs) marks = by_long gs (set_all true g marks) ∙ set_all_long g marks

pub gates_none : (ops counts : List ℕ) (marks : List Bool) → marks ≡ marked_by (gates_in ops counts 0) marks
unfolding gates_in marked_by
gates_none ops counts marks = refl

pub gates_more : (ops counts : List ℕ) (none marks : List Bool) (g : ℕ) → marks ≡ marked_by (gates_in ops counts g) none
    → set_all true (gate_in ops counts g) marks ≡ marked_by (gates_in ops counts (g + 1)) none
unfolding gates_in
gates_more ops counts none marks g e = rw (add-one, e) (sym (by_snoc (gates_in ops counts g) (gate_in ops counts g) none))

-- ---- what the marks say

pub marked_set : (marks : List Bool) (c s : ℕ) → s < length marks → marked (set marks c true) s ≡ (eqb s c || marked marks s)
marked_set marks c s h = go (eqb s c) refl
  where
    go : (t : Bool) → eqb s c ≡ t → marked (set marks c true) s ≡ (t || marked marks s)
    go true e = let z = eqb-true s c e in rw (← z) (get_or-set_same marks s true false h)
    go false e = get_or-set_other marks c s true false (eqb-false s c e)

or_moves : (a b c : Bool) → (b || (a || c)) ≡ ((a || b) || c)
or_moves true true c = refl
or_moves true false c = refl
or_moves false true c = refl
or_moves false false c = refl

marked_list : (l : List ℕ) (marks : List Bool) (s : ℕ) → s < length marks → marked (set_all true l marks) s ≡ (mem s l || marked marks s)
unfolding set_all mem
marked_list [] marks s h = refl
marked_list (c ∷ l) marks s h =
    marked_list l (set marks c true) s (omega (arith, length-set marks c true)) ∙ rw (marked_set marks c s h) (or_moves (eqb s c) (mem s l) (marked marks s))

marked_gates : (gs : List (List ℕ)) (marks : List Bool) (s : ℕ) → s < length marks → marked (marked_by gs marks) s ≡ (any (mem s) gs || marked marks s)
unfolding marked_by
marked_gates [] marks s h = refl
marked_gates (g ∷ gs) marks s h =
    marked_gates gs (set_all true g marks) s (omega (arith, set_all_long g marks)) ∙ rw (marked_list g marks s h) (or_moves (mem s g) (any (mem s) gs) (marked marks s))

pub none_marked : (s : ℕ) → marked no_marks s ≡ false
none_marked s = go 576 s
  where
    go : (n i : ℕ) → get_or (replicate n false) i false ≡ false
    go zero i = refl
    go (suc n) zero = refl
    go (suc n) (suc i) = go n i

all_agree : (p q : ℕ → Bool) (k a : ℕ) → ((s : ℕ) → s < a + k → p s ≡ q s) → all p (range_with_len a k) ≡ all q (upto a k)
unfolding upto
all_agree p q zero a h = refl
all_agree p q (suc k) a h = rw (add-one, h a (omega arith), all_agree p q k (suc a) (λ s l. h s (omega arith)))

or_swaps : (a b : Bool) → (a || b) ≡ (b || (a || false))
or_swaps true true = refl
or_swaps true false = refl
or_swaps false true = refl
or_swaps false false = refl

pub used_is : (n : Netlist) (marks : List Bool) (g : ℕ) → WellFlat n → g ≡ n.gates → marks ≡ marked_by (gates_in n.ops n.counts g) no_marks
    → all (marked (set_all true (from n.outs 0 n.outputs) marks)) (range_with_len n.inputs n.gates) ≡ all_used (netlist_in n)
unfolding all_used netlist_in gate_signals is_read
used_is n marks g w f e =
    let gates = gates_in n.ops n.counts n.gates in
    let outputs = from n.outs 0 n.outputs in
    rw (e, f, length-gates n.ops n.counts n.gates) (all_agree _ _ n.gates n.inputs (λ s h.
    let long : length no_marks ≡ 576 = length-replicate 576 false in
    let l : s < length no_marks = omega (arith, w.inputs_most, w.gates_most) in
    let m : s < length (marked_by gates no_marks) = omega (arith, by_long gates no_marks) in
    rw (marked_list outputs (marked_by gates no_marks) s m, marked_gates gates no_marks s l, none_marked s) (sym (or_swaps (any (mem s) gates) (mem s outputs)))))
