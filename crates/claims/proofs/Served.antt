-- Who is released: no input, no output, and nothing that a gate not yet executed reads.
-- Assumes nothing.
use Rattle.std.proofs.Common.{ℕ, zero, suc, ◌+◌, ◌<◌, arith, ◌≡◌, refl, Bool, true, false, ◌&&◌, ◌||◌, not, List, [], ◌∷◌, ◌++◌, ltb, leb, get_or, length}
use mathlib.Core.Bool.{and-false}
use borrow.Author.Tests.{lt-leb}
use Rattle.std.proofs.lemmas.Bool.{and_parts}
use Rattle.rules.specs.Basics.{mem}
use Rattle.rules.specs.Netlist.{Netlist}
use Rattle.rules.specs.Cells.{served, released}
use Rattle.rules.proofs.Laws.{snoc_more, snoc_cases}

-- a signal that has a value: an input, or a gate that has been executed
unfoldable pub present : Netlist → List ℕ → ℕ → Bool
present N done s = ltb s N.inputs || mem s done

pub present_cases : {P : Type 0} (N : Netlist) (done : List ℕ) (g s : ℕ) → present N (done ++ (g ∷ [])) s ≡ true → (present N done s ≡ true → P) → (s ≡ g → P) → P
unfolding present
present_cases {P} N done g s e f h = go (ltb s N.inputs) refl e
  where
    go : (t : Bool) → ltb s N.inputs ≡ t → (t || mem s (done ++ (g ∷ []))) ≡ true → P
    go true p q = f (rw p)
    go false p q = snoc_cases P s done g q (λ z. f (rw (p, z))) h

served_more : (done : List ℕ) (g k : ℕ) (gs : List (List ℕ)) (s : ℕ) → served done k gs s ≡ true → served (done ++ (g ∷ [])) k gs s ≡ true
unfolding served
served_more done g k [] s e = refl
served_more done g k (h ∷ gs) s e =
    let (u, v) = and_parts (not (mem s h) || mem k done) (served done (suc k) gs s) e in
    rw (served_more done g (suc k) gs s v, go (not (mem s h)) (mem k done) (mem k (done ++ (g ∷ []))) u (snoc_more k done g))
  where
    go : (t a b : Bool) → (t || a) ≡ true → (a ≡ true → b ≡ true) → (t || b) ≡ true
    go true a b p f = refl
    go false a b p f = f p

served_reader : (done : List ℕ) (k : ℕ) (gs : List (List ℕ)) (s j : ℕ) → j < length gs → mem s (get_or gs j []) ≡ true → mem (k + j) done ≡ false
    → served done k gs s ≡ false
unfolding served
served_reader done k [] s j h e f = absurd (omega arith)
served_reader done k (g ∷ gs) s zero h e f = let z : k + 0 ≡ k = omega arith in rw (e, (rw z at f))
served_reader done k (g ∷ gs) s (suc j) h e f =
    let z : k + suc j ≡ suc k + j = omega arith in
    rw (served_reader done (suc k) gs s j (omega arith) e (rw z at f)) (and-false (not (mem s g) || mem k done))

-- what is not released after a gate was not released before it
pub released_more : (N : Netlist) (done : List ℕ) (g s : ℕ) → released N (done ++ (g ∷ [])) s ≡ false → released N done s ≡ false
unfolding released
released_more N done g s e = down (leb N.inputs s) (not (mem s N.outputs)) _ _ e (served_more done g N.inputs N.gates s)
  where
    down : (a b c d : Bool) → (a && (b && c)) ≡ false → (d ≡ true → c ≡ true) → (a && (b && d)) ≡ false
    down true true c true e f = let z = f refl in cc
    down true true c false e f = refl
    down true false c d e f = refl
    down false b c d e f = refl

-- what a gate not yet executed reads is not released
pub released_reader : (N : Netlist) (done : List ℕ) (s j : ℕ) → j < length N.gates → mem s (get_or N.gates j []) ≡ true → mem (N.inputs + j) done ≡ false
    → released N done s ≡ false
unfolding released
released_reader N done s j h e f = rw (served_reader done N.inputs N.gates s j h e f, and-false (not (mem s N.outputs))) (and-false (leb N.inputs s))

pub released_output : (N : Netlist) (done : List ℕ) (s : ℕ) → mem s N.outputs ≡ true → released N done s ≡ false
unfolding released
released_output N done s e = rw e (and-false (leb N.inputs s))

pub released_input : (N : Netlist) (done : List ℕ) (s : ℕ) → s < N.inputs → released N done s ≡ false
unfolding released
released_input N done s h = rw (lt-leb N.inputs s h)
