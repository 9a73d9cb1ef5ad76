-- Laws of the flat arrays: how long the lists are that they stand for, and what stands in them.
use Prim.Native.Nat.{ℕ, zero, suc, ◌+◌, ◌-◌, ◌*◌, ◌<◌, ◌≤◌}
use native.Mathlib.Omega.{arith}
use native.Mathlib.Numerals.{add-one}
use native.Mathlib.Decide.{dec_lt}
use mathlib.Core.Path.{◌≡◌, refl, sym, ap, ◌∙◌}
use mathlib.Core.Bool.{true}
use mathlib.Core.List.{List, [], ◌∷◌, ◌++◌}
use lib.ListN.{get_or, length, take, drop, length-append, get_or-append}
use lib.Seq.{drop-cons, get_or-append_seam}
use Rattle.rules.specs.Basics.{mem}
use Rattle.rules.proofs.Laws.{mem-nil, cons_cases, cons_more, cons_self}
use Rattle.netlist.specs.Flat.{from, gate_in, gates_in}

-- ---- n numbers from a place on

pub length_from : (l : List ℕ) (at n : ℕ) → length (from l at n) ≡ n
unfolding from
length_from l at zero = refl
length_from l at (suc n) = ap suc (length_from l (at + 1) n)

pub get_or-from : (l : List ℕ) (at n k d : ℕ) → k < n → get_or (from l at n) k d ≡ get_or l (at + k) 0
unfolding from
get_or-from l at zero k d h = absurd (omega arith)
get_or-from l at (suc n) zero d h = let e : at + 0 ≡ at = omega arith in rw e
get_or-from l at (suc n) (suc k) d h = let e : at + 1 + k ≡ at + suc k = omega arith in get_or-from l (at + 1) n k d (omega arith) ∙ rw e

-- a part of a list is what stands from its place on
part_is : (l : List ℕ) (k at : ℕ) → at + k ≤ length l → take k (drop at l) ≡ from l at k
unfolding from
part_is l zero at h = refl
part_is l (suc k) at h =
    rw (drop-cons l at 0 (omega arith)) (ap (λ t. get_or l at 0 ∷ t) (rw (← add-one at) (part_is l k (at + 1) (omega arith))))

pub front_is : (l : List ℕ) (k : ℕ) → k ≤ length l → take k l ≡ from l 0 k
front_is l k h = part_is l k 0 (omega arith)

pub range_is : (l : List ℕ) (at k : ℕ) → at + k ≤ length l → take (at + k - at) (drop at l) ≡ from l at k
range_is l at k h = let e : at + k - at ≡ k = omega arith in rw e (part_is l k at h)

-- numbers that stand in a row elsewhere
pub from_reads : (l xs : List ℕ) (at k : ℕ) → k ≤ length xs → ((i : ℕ) → i < k → get_or l (at + i) 0 ≡ get_or xs i 0) → from l at k ≡ take k xs
unfolding from
from_reads l xs at zero u h = refl
from_reads l [] at (suc k) u h = absurd (omega arith)
from_reads l (x ∷ xs) at (suc k) u h =
    let e : at + 0 ≡ at = omega arith in
    let r : from l (at + 1) k ≡ take k xs = from_reads l xs (at + 1) k (omega arith) (λ i v. let f : at + 1 + i ≡ at + suc i = omega arith in rw f (h (suc i) (omega arith))) in
    rw (r, rw e at (h 0 (omega arith)))

pub from_snoc : (l : List ℕ) (at n : ℕ) → from l at (suc n) ≡ from l at n ++ (get_or l (at + n) 0 ∷ [])
unfolding from
from_snoc l at zero = let e : at + 0 ≡ at = omega arith in rw e
from_snoc l at (suc n) = let e : at + 1 + n ≡ at + suc n = omega arith in ap (λ t. get_or l at 0 ∷ t) (from_snoc l (at + 1) n ∙ rw e)

-- two arrays that agree where the numbers stand
pub from_agree : (a b : List ℕ) (at n : ℕ) → ((i : ℕ) → at ≤ i → i < at + n → get_or a i 0 ≡ get_or b i 0) → from a at n ≡ from b at n
unfolding from
from_agree a b at zero h = refl
from_agree a b at (suc n) h =
    ap (λ x. x ∷ from a (at + 1) n) (h at (omega arith) (omega arith))
    ∙ ap (λ l. get_or b at 0 ∷ l) (from_agree a b (at + 1) n (λ i u v. h i (omega arith) (omega arith)))

-- ---- gates

pub gates_agree : (a b c d : List ℕ) (n : ℕ) → ((g : ℕ) → g < n → gate_in a c g ≡ gate_in b d g) → gates_in a c n ≡ gates_in b d n
unfolding gates_in
gates_agree a b c d zero h = refl
gates_agree a b c d (suc n) h =
    ap (λ l. l ++ (gate_in a c n ∷ [])) (gates_agree a b c d n (λ g u. h g (omega arith)))
    ∙ ap (λ x. gates_in b d n ++ (x ∷ [])) (h n (omega arith))

pub length-gates : (ops counts : List ℕ) (n : ℕ) → length (gates_in ops counts n) ≡ n
unfolding gates_in
length-gates ops counts zero = refl
length-gates ops counts (suc n) = length-append (gates_in ops counts n) (gate_in ops counts n ∷ []) ∙ rw (length-gates ops counts n) (add-one n)

pub get_or-gates : (ops counts : List ℕ) (n g : ℕ) (d : List ℕ) → g < n → get_or (gates_in ops counts n) g d ≡ gate_in ops counts g
unfolding gates_in
get_or-gates ops counts zero g d h = absurd (omega arith)
get_or-gates ops counts (suc n) g d h = go (λ y. get_or-gates ops counts n g d y) (dec_lt g n)
  where
    go : (g < n → get_or (gates_in ops counts n) g d ≡ gate_in ops counts g) → Dec (g < n)
        → get_or (gates_in ops counts n ++ (gate_in ops counts n ∷ [])) g d ≡ gate_in ops counts g
    go rec (yes y) = get_or-append (gates_in ops counts n) (gate_in ops counts n ∷ []) d g (omega (arith, length-gates ops counts n)) ∙ rec y
    go rec (no y) =
        let e : g ≡ length (gates_in ops counts n) = omega (arith, length-gates ops counts n) in
        let f : n ≡ g = omega arith in
        ap (λ i. get_or (gates_in ops counts n ++ (gate_in ops counts n ∷ [])) i d) e ∙ get_or-append_seam (gates_in ops counts n) (gate_in ops counts n) [] d
        ∙ ap (gate_in ops counts) f

pub length-gate : (ops counts : List ℕ) (g : ℕ) → length (gate_in ops counts g) ≡ get_or counts g 0
unfolding gate_in
length-gate ops counts g = length_from ops (4 * g) (get_or counts g 0)

-- ---- members

-- a number of a list stands somewhere in it
pub mem-get_or : (x : ℕ) (l : List ℕ) → mem x l ≡ true → (j : ℕ) × (j < length l) × (get_or l j 0 ≡ x)
mem-get_or x [] e = absurd (mem-nil x e)
mem-get_or x (y ∷ l) e = cons_cases _ x y l e (λ f. (0, omega arith, sym f)) (λ f. let r = mem-get_or x l f in (suc r.0, omega arith, r.2))

pub get_or-mem : (l : List ℕ) (j : ℕ) → j < length l → mem (get_or l j 0) l ≡ true
get_or-mem [] j h = absurd (omega arith)
get_or-mem (y ∷ l) zero h = cons_self y l
get_or-mem (y ∷ l) (suc j) h = cons_more (get_or l j 0) y l (get_or-mem l j (omega arith))

pub mem-from : (l : List ℕ) (at n k : ℕ) → k < n → mem (get_or l (at + k) 0) (from l at n) ≡ true
mem-from l at n k h = rw (get_or-from l at n k 0 h) at (get_or-mem (from l at n) k (omega (arith, length_from l at n)))

pub from_mem : (l : List ℕ) (at n x : ℕ) → mem x (from l at n) ≡ true → (k : ℕ) × (k < n) × (get_or l (at + k) 0 ≡ x)
from_mem l at n x e =
    let r = mem-get_or x (from l at n) e in
    let h : r.0 < n = omega (arith, length_from l at n, r.1) in
    (r.0, h, sym (get_or-from l at n r.0 0 h) ∙ r.2)
