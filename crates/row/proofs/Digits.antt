-- Digits: two cells are the same exactly when their digits are.
use Prim.Native.Nat.{ℕ, zero, suc, ◌+◌, ◌*◌, ◌<◌, ◌≤◌}
use native.Mathlib.Omega.{arith}
use mathlib.Core.Path.{◌≡◌, refl, sym, ap, ◌∙◌}
use mathlib.Core.Bool.{Bool, true, false, ◌&&◌, ◌||◌}
use mathlib.Core.List.{List, [], ◌∷◌}
use lib.Dec.{eqb, leb}
use lib.ListN.{get_or, length, drop}
use lib.Seq.{get_or-drop, drop-drop}
use borrow.Author.Tests.{eqb-true, eqb-false, eq-eqb, ne_eqb, leb-true}
use Rattle.rules.specs.Basics.{pick}
use Rattle.rules.specs.Lines.{is_digit, value_of, digits}
use Rattle.rules.proofs.Laws.{and_true}
use Rattle.lines.specs.Line.{byte_at, bytes_from}
use Rattle.row.proofs.Judging.{length-bytes}
use Rattle.lines.proofs.Laws.{value_number, value_letter, value_small}

get_or-bytes : (text : List ℕ) (k at j : ℕ) → j < k → get_or (bytes_from text at k) j 0 ≡ byte_at text (at + 2 * j)
unfolding bytes_from
get_or-bytes text zero at j h = absurd (omega arith)
get_or-bytes text (suc k) at zero h = let z : at + 2 * 0 ≡ at = omega arith in rw z
get_or-bytes text (suc k) at (suc j) h = let z : at + 2 * suc j ≡ at + 2 + 2 * j = omega arith in rw (z, get_or-bytes text k (at + 2) j (omega arith))

pub digits_most : (t : List ℕ) → digits t ≤ length t
unfolding digits pick
digits_most [] = omega arith
digits_most (c ∷ t) = go (is_digit c) (digits_most t)
  where
    go : (u : Bool) → digits t ≤ length t → pick u (suc (digits t)) 0 ≤ suc (length t)
    go true h = omega arith
    go false h = omega arith

-- each of so many characters is a digit
pub digit_in : (t : List ℕ) (i : ℕ) → i < digits t → is_digit (get_or t i 0) ≡ true
unfolding digits pick
digit_in [] i h = absurd (omega arith)
digit_in (c ∷ t) i h = go i (is_digit c) refl (λ j. digit_in t j) h
  where
    go : (i : ℕ) (u : Bool) → is_digit c ≡ u → ((j : ℕ) → j < digits t → is_digit (get_or t j 0) ≡ true) → i < pick u (suc (digits t)) 0 → is_digit (get_or (c ∷ t) i 0) ≡ true
    go i false e r l = absurd (omega arith)
    go zero true e r l = e
    go (suc j) true e r l = r j (omega arith)

-- after some of the digits the others follow
pub digits_after : (k : ℕ) (t : List ℕ) → k ≤ digits t → digits (drop k t) + k ≡ digits t
unfolding digits pick
digits_after zero t h = omega arith
digits_after (suc k) [] h = absurd (omega arith)
digits_after (suc k) (c ∷ t) h = go (is_digit c) (digits_after k t) h
  where
    go : (u : Bool) → (k ≤ digits t → digits (drop k t) + k ≡ digits t) → suc k ≤ pick u (suc (digits t)) 0 → digits (drop k t) + suc k ≡ pick u (suc (digits t)) 0
    go true r l = let e = r (omega arith) in omega arith
    go false r l = absurd (omega arith)

-- the same at a place of a text
pub digits_further : (text : List ℕ) (p i : ℕ) → i ≤ digits (drop p text) → digits (drop (p + i) text) + i ≡ digits (drop p text)
digits_further text p i h = ap (λ t. digits t + i) (sym (drop-drop i p text)) ∙ digits_after i (drop p text) h

-- a digit is a number or a letter
digit_is : (P : Type 0) (c : ℕ) → is_digit c ≡ true → (48 ≤ c → c < 58 → P) → (65 ≤ c → c < 71 → P) → P
unfolding is_digit
digit_is P c e f g = go (leb 48 c && leb c 57) refl e
  where
    go : (u : Bool) → (leb 48 c && leb c 57) ≡ u → (u || (leb 65 c && leb c 70)) ≡ true → P
    go true q h = let a = and_true (leb 48 c) (leb c 57) q in f (leb-true 48 c a.0) (omega (arith, leb-true c 57 a.1))
    go false q h = let a = and_true (leb 65 c) (leb c 70) h in g (leb-true 65 c a.0) (omega (arith, leb-true c 70 a.1))

pub no_feed : (c : ℕ) → is_digit c ≡ true → c ≡ 10 → ⊥
no_feed c e h = digit_is ⊥ c e (λ a b. omega arith) (λ a b. omega arith)

value_same : (c d : ℕ) → is_digit c ≡ true → is_digit d ≡ true → value_of c ≡ value_of d → c ≡ d
value_same c d p q e =
    digit_is (c ≡ d) c p
    (λ a b. digit_is (c ≡ d) d q (λ a' b'. omega (arith, e, value_number c a b, value_number d a' b')) (λ a' b'. omega (arith, e, value_number c a b, value_letter d a' b')))
    (λ a b. digit_is (c ≡ d) d q (λ a' b'. omega (arith, e, value_letter c a b, value_number d a' b')) (λ a' b'. omega (arith, e, value_letter c a b, value_letter d a' b')))

-- ---- two cells by their digits

module _ (text : List ℕ) (a b : ℕ) (at_a : 2 ≤ digits (drop a text)) (at_b : 2 ≤ digits (drop b text)) where
  first_digit : (p : ℕ) → 2 ≤ digits (drop p text) → is_digit (get_or text p 0) ≡ true
  first_digit p h =
      let z : p + 0 ≡ p = omega arith in
      ap is_digit (sym (get_or-drop p text 0 0 ∙ ap (λ i. get_or text i 0) z)) ∙ digit_in (drop p text) 0 (omega arith)

  second_digit : (p : ℕ) → 2 ≤ digits (drop p text) → is_digit (get_or text (p + 1) 0) ≡ true
  second_digit p h = ap is_digit (sym (get_or-drop p text 1 0)) ∙ digit_in (drop p text) 1 (omega arith)

  -- the high digits differ
  unlike : (get_or text a 0 ≡ get_or text b 0 → ⊥) → eqb (get_or text a 0) (get_or text b 0) ≡ eqb (byte_at text a) (byte_at text b)
  unfolding byte_at
  unlike h =
      ne_eqb (get_or text a 0) (get_or text b 0) h
      ∙ sym (ne_eqb (byte_at text a) (byte_at text b) (λ e. h (value_same (get_or text a 0) (get_or text b 0) (first_digit a at_a) (first_digit b at_b)
      (omega (arith, e, value_small (get_or text (a + 1) 0), value_small (get_or text (b + 1) 0))))))

  -- the low digits decide
  alike_then : get_or text a 0 ≡ get_or text b 0 → eqb (get_or text (a + 1) 0) (get_or text (b + 1) 0) ≡ eqb (byte_at text a) (byte_at text b)
  unfolding byte_at
  alike_then h = go (eqb (get_or text (a + 1) 0) (get_or text (b + 1) 0)) refl
    where
      go : (u : Bool) → eqb (get_or text (a + 1) 0) (get_or text (b + 1) 0) ≡ u
          → u ≡ eqb (byte_at text a) (byte_at text b)
      go true q = sym (eq-eqb (byte_at text a) (byte_at text b) (let e = eqb-true (get_or text (a + 1) 0) (get_or text (b + 1) 0) q in rw (h, e)))
      go false q =
          sym (ne_eqb (byte_at text a) (byte_at text b) (λ e. eqb-false (get_or text (a + 1) 0) (get_or text (b + 1) 0) q
          (value_same (get_or text (a + 1) 0) (get_or text (b + 1) 0) (second_digit a at_a) (second_digit b at_b) (omega (arith, e, ap value_of h)))))

-- ---- the cells of a line as the list of their numbers

module _ (text : List ℕ) (first count : ℕ) (cells : List ℕ) (view : bytes_from text first count ≡ cells) where
  pub cells_long : count ≡ length cells
  cells_long = sym (length-bytes text first count) ∙ ap length view

  module _ (j : ℕ) (h : j < length cells) where
    pub cell_is : byte_at text (first + 2 * j) ≡ get_or cells j 0
    cell_is = rw (← view) (sym (get_or-bytes text count first j (omega (arith, cells_long))))

    pub cell_inside : first + 2 * count ≤ length text → first + 2 * j + 2 ≤ length text
    cell_inside m = omega (arith, cells_long)

    cell_digits : 2 * count ≤ digits (drop first text) → 2 ≤ digits (drop (first + 2 * j) text)
    cell_digits m = omega (arith, cells_long, digits_further text first (2 * j) (omega (arith, cells_long)))

  module _ (i j : ℕ) (h : i < length cells) (m : j < length cells) (written : 2 * count ≤ digits (drop first text)) where
    pub cells_unlike : (get_or text (first + 2 * i) 0 ≡ get_or text (first + 2 * j) 0 → ⊥)
        → eqb (get_or text (first + 2 * i) 0) (get_or text (first + 2 * j) 0) ≡ eqb (get_or cells i 0) (get_or cells j 0)
    cells_unlike n = rw (← cell_is i h, ← cell_is j m) (unlike text (first + 2 * i) (first + 2 * j) (cell_digits i h written) (cell_digits j m written) n)

    pub cells_alike : get_or text (first + 2 * i) 0 ≡ get_or text (first + 2 * j) 0
        → eqb (get_or text (first + 2 * i + 1) 0) (get_or text (first + 2 * j + 1) 0) ≡ eqb (get_or cells i 0) (get_or cells j 0)
    cells_alike n = rw (← cell_is i h, ← cell_is j m) (alike_then text (first + 2 * i) (first + 2 * j) (cell_digits i h written) (cell_digits j m written) n)
