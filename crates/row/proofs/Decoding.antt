-- The cells of a line: one at a place, a walk from one to the next, and the bytes of a good line.
use Prim.Native.Nat.{ℕ, zero, suc, ◌+◌, ◌-◌, ◌*◌, ◌/◌, ◌%◌, ◌<◌, ◌≤◌}
use native.Mathlib.Omega.{arith}
use native.Mathlib.Numerals.{add-one}
use native.Mathlib.Decide.{dec_lt}
use mathlib.Core.Path.{◌≡◌, refl, sym, ap, ◌∙◌}
use mathlib.Core.Bool.{Bool, true, false, ◌&&◌}
use mathlib.Core.List.{List, [], ◌∷◌}
use lib.Dec.{eqb, leb}
use lib.ListN.{get_or, length, drop, drop_of_length-le, length-drop}
use lib.Seq.{drop-cons, get_or-drop}
use borrow.Author.Tests.{eq-eqb, ne_eqb, eqb-true, lt-leb}
use Rattle.rules.specs.Basics.{pick}
use Rattle.rules.specs.Form.{form01}
use Rattle.rules.specs.Lines.{is_digit, value_of, digits, is_line}
use Rattle.rules.specs.Sequence.{Set}
use Rattle.rules.proofs.Laws.{no_way, and_true}
use Rattle.lines.specs.Line.{line_at, byte_at, bytes_from}
use Rattle.lines.proofs.Meaning.{frame_fits}
use Rattle.std.specs.Prelude.{Some, None, Ok}
use Rattle.row.specs.Decoded.{cells_in, cells_from, first_of, cell_at, end_from, nor_on, instruction_at, next_at}
use Rattle.row.proofs.Digits.{digit_in, digits_further, no_feed}

-- ---- one cell

module _ (text : List ℕ) (at : ℕ) where
  cells_open : at + 1 < length text → cells_from text at ≡ pick (eqb (get_or text at 0) 10) [] (byte_at text at ∷ cells_from text (at + 2))
  unfolding cells_from cells_in byte_at
  cells_open h =
      let a : drop at text ≡ get_or text at 0 ∷ drop (at + 1) text = rw add-one (drop-cons text at 0 (omega arith)) in
      let b : drop (at + 1) text ≡ get_or text (at + 1) 0 ∷ drop (suc (at + 1)) text = drop-cons text (at + 1) 0 h in
      let e : suc (at + 1) ≡ at + 2 = omega arith in
      rw (a, b, e)

  cells_short : length text ≤ at + 1 → cells_from text at ≡ []
  unfolding cells_from cells_in
  cells_short h = go (dec_lt at (length text))
    where
      go : Dec (at < length text) → cells_in (drop at text) ≡ []
      go (yes l) =
          let e : drop (suc at) text ≡ [] = drop_of_length-le text {i = suc at} (omega arith) in
          rw (drop-cons text at 0 l, e)
      go (no l) = rw (drop_of_length-le text {i = at} (omega arith))

  pub cell_past : length text ≤ at + 1 → None ≡ cell_at text at
  unfolding cell_at first_of
  cell_past h = rw (cells_short h)

  module _ (h : at + 1 < length text) where
    pub cell_feed : get_or text at 0 ≡ 10 → None ≡ cell_at text at
    unfolding cell_at first_of pick
    cell_feed e = rw (cells_open h, eq-eqb (get_or text at 0) 10 e)

    pub cell_named : (b : ℕ) → (get_or text at 0 ≡ 10 → ⊥) → b ≡ byte_at text at → Some b ≡ cell_at text at
    unfolding cell_at first_of pick
    cell_named b n e = rw (cells_open h, ne_eqb (get_or text at 0) 10 n, e)

  -- a named cell is followed by those two places further
  pub named : (c : ℕ) → Some c ≡ cell_at text at → (cells_from text at ≡ c ∷ cells_from text (at + 2)) × (at + 2 ≤ length text)
  unfolding cell_at first_of pick
  named c e = go (dec_lt (at + 1) (length text)) (sym e)
    where
      fed : (t : Bool) → first_of (pick t [] (byte_at text at ∷ cells_from text (at + 2))) ≡ Some c
          → pick t [] (byte_at text at ∷ cells_from text (at + 2)) ≡ c ∷ cells_from text (at + 2)
      fed true f = absurd (no_way (cc))
      fed false f = cc

      go : Dec (at + 1 < length text) → first_of (cells_from text at) ≡ Some c → (cells_from text at ≡ c ∷ cells_from text (at + 2)) × (at + 2 ≤ length text)
      go (yes h) f = (cells_open h ∙ fed (eqb (get_or text at 0) 10) (rw (cells_open h) at f), omega arith)
      go (no h) f = absurd (no_way (let z = cells_short (omega arith) in cc))

  pub cell_within : (c : ℕ) → Some c ≡ cell_at text at → at + 2 ≤ length text
  cell_within c e = (named c e).1

  -- it is the byte whose digits stand there
  pub cell_is : (c : ℕ) → Some c ≡ cell_at text at → byte_at text at ≡ c
  unfolding cell_at first_of pick
  cell_is c e = go (dec_lt (at + 1) (length text)) (sym e)
    where
      fed : (t : Bool) → first_of (pick t [] (byte_at text at ∷ cells_from text (at + 2))) ≡ Some c → byte_at text at ≡ c
      fed true f = absurd (no_way (cc))
      fed false f = cc

      go : Dec (at + 1 < length text) → first_of (cells_from text at) ≡ Some c → byte_at text at ≡ c
      go (yes h) f = fed (eqb (get_or text at 0) 10) (rw (cells_open h) at f)
      go (no h) f = absurd (no_way (let z = cells_short (omega arith) in cc))

  pub ended : None ≡ cell_at text at → cells_from text at ≡ []
  unfolding cell_at first_of
  ended e = go (cells_from text at) (sym e)
    where
      go : (l : List ℕ) → first_of l ≡ None → l ≡ []
      go [] f = refl
      go (c ∷ l) f = absurd (no_way (cc))

-- two digits to a cell
pub cells_fit : (l : List ℕ) → 2 * length (cells_in l) ≤ length l
unfolding cells_in pick
cells_fit [] = omega arith
cells_fit (h ∷ []) = omega arith
cells_fit (h ∷ l ∷ t) = go (eqb h 10) (cells_fit t)
  where
    go : (u : Bool) → 2 * length (cells_in t) ≤ length t → 2 * length (pick u [] ((16 * value_of h + value_of l) ∷ cells_in t)) ≤ suc (suc (length t))
    go true e = omega arith
    go false e = omega arith

-- so cells from within a text end within it
pub end_inside : (text : List ℕ) (at : ℕ) → at ≤ length text + 1 → end_from text at ≤ length text + 1
unfolding end_from cells_from
end_inside text at h = omega (arith, cells_fit (drop at text), length-drop at text)

-- ---- the instruction at a place, by its kind

module _ (text : List ℕ) (at : ℕ) (h : at < length text) where
  pub set_at : byte_at text at ≡ 18 → instruction_at text at ≡ Set (cells_from text (at + 2))
  unfolding instruction_at pick
  set_at e = rw (lt-leb (length text) at h, eq-eqb (byte_at text at) 18 e)

  pub nor_at : (byte_at text at ≡ 18 → ⊥) → instruction_at text at ≡ nor_on (cells_from text (at + 2))
  unfolding instruction_at pick
  nor_at e = rw (lt-leb (length text) at h, ne_eqb (byte_at text at) 18 e)

  pub next_at_lem : next_at text at ≡ end_from text (at + 2) + 1
  unfolding next_at pick
  next_at_lem = rw (lt-leb (length text) at h)

-- ---- a walk from cell to cell

-- what f gives of the cells from a place on is the answer a, and they end where the first ones do
pub record Walk {A : Type 0} (f : List ℕ → A) (a : A) (text : List ℕ) (first at : ℕ) : Type 0 where
  pub same : f (cells_from text at) ≡ a
  pub stop : end_from text at ≡ end_from text first

module _ {A : Type 0} {f : List ℕ → A} {a : A} {text : List ℕ} {first at : ℕ} (walk : Walk f a text first at) where
  pub walk_turn : (g : List ℕ → A) (c : ℕ) → Some c ≡ cell_at text at → f (c ∷ cells_from text (at + 2)) ≡ g (cells_from text (at + 2)) → Walk g a text first (at + 2)
  unfolding end_from
  walk_turn g c here turn =
      let z = named text at c here in
      record {
        same = sym turn ∙ ap f (sym z.0) ∙ walk.same;
        stop =
            let l : length (cells_from text at) ≡ suc (length (cells_from text (at + 2))) = ap length z.0 in
            let e : at + 2 + 2 * length (cells_from text (at + 2)) ≡ at + 2 * length (cells_from text at) = omega arith in
            e ∙ walk.stop;
      }

  pub walk_end : None ≡ cell_at text at → (v : A) → f [] ≡ v → (at ≡ end_from text first) × (v ≡ a)
  unfolding end_from
  walk_end here v e =
      let z = ended text at here in
      let l : ◌≡◌ {A = ℕ} (length (cells_from text at)) 0 = ap length z in
      let s : at ≡ at + 2 * length (cells_from text at) = omega arith in
      (s ∙ walk.stop, sym e ∙ ap f (sym z) ∙ walk.same)

-- ---- the cells of a good line are its bytes

cells_are : (text : List ℕ) (k p : ℕ) → 2 * k ≤ digits (drop p text) → p + 2 * k < length text → get_or text (p + 2 * k) 0 ≡ 10 → cells_from text p ≡ bytes_from text p k
unfolding bytes_from pick
cells_are text zero p d h e = go (dec_lt (p + 1) (length text))
  where
    go : Dec (p + 1 < length text) → cells_from text p ≡ []
    go (yes l) =
        let z : get_or text p 0 ≡ 10 = (let i : p + 2 * 0 ≡ p = omega arith in rw i at e) in
        rw (cells_open text p l, eq-eqb (get_or text p 0) 10 z)
    go (no l) = cells_short text p (omega arith)
cells_are text (suc k) p d h e =
    let i : p + 2 * suc k ≡ p + 2 + 2 * k = omega arith in
    let z : p + 0 ≡ p = omega arith in
    let c : is_digit (get_or text p 0) ≡ true = ap is_digit (sym (get_or-drop p text 0 0 ∙ ap (λ i. get_or text i 0) z)) ∙ digit_in (drop p text) 0 (omega arith) in
    let m : 2 * k ≤ digits (drop (p + 2) text) = omega (arith, digits_further text p 2 (omega arith)) in
    rw (cells_open text p (omega arith), ne_eqb (get_or text p 0) 10 (no_feed (get_or text p 0) c), cells_are text k (p + 2) m (omega arith) (rw i at e))

module _ (text : List ℕ) (at n : ℕ) (e : line_at text at ≡ Ok n) where
  fed : get_or text (at + n) 0 ≡ 10
  unfolding is_line form01
  fed =
      let f = frame_fits text at n e in
      let d = digits (drop at text) in
      let a = and_true (eqb (get_or (drop at text) d 0) 10) (eqb (d % 2) 0 && (leb 2 d && leb d 514)) f.good in
      sym (get_or-drop at text n 0) ∙ (rw f.is at (eqb-true (get_or (drop at text) d 0) 10 a.0))

  pub line_digits : 2 * (n / 2 - 1) ≤ digits (drop (at + 2) text)
  line_digits =
      let f = frame_fits text at n e in
      omega (arith, f.even, f.least, f.is, digits_further text at 2 (omega (arith, f.is, f.least)))

  pub line_cells : cells_from text (at + 2) ≡ bytes_from text (at + 2) (n / 2 - 1)
  line_cells =
      let f = frame_fits text at n e in
      let i : at + n ≡ at + 2 + 2 * (n / 2 - 1) = omega (arith, f.even, f.least) in
      cells_are text (n / 2 - 1) (at + 2) line_digits (omega (arith, f.inside, i)) (rw i at fed)
