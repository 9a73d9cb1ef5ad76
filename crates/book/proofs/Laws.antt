-- Laws of a book's cells: what they say of a row, one cell altered, the first book.
use Rattle.std.proofs.Common.{ℕ, zero, suc, ◌+◌, ◌-◌, ◌*◌, ◌<◌, ◌≤◌, min, arith, add-one, ◌≡◌, refl, sym, ap, ◌∙◌, List, [], ◌∷◌, ◌++◌, map, append-nil, ltb, get_or, length, set, take, drop, take-append-drop, length-take, length-set, drop_of_length-le, drop-set-lt, take_at, drop_at, take_all}
use native.Mathlib.Decide.{dec_lt}
use lib.ListN.{length-map, get_or-map}
use lib.Seq.{sets, set_out, take-set-lt}
use Rattle.std.proofs.lemmas.List.{map-set}
use Rattle.std.specs.List.{list_any, range_with_len}
use Rattle.rules.specs.Basics.{any, set_all, upto}
use Rattle.lines.specs.Line.{byte_at, bytes_from}
use Rattle.rules.specs.Book as rules
use Rattle.rules.specs.Book.{unknown, ready, holds}
use Rattle.rules.proofs.Lists.{length-set_all}
use Rattle.book.specs.declared.Cell.{Cell}
use Rattle.book.specs.declared.Cell.TheVariants.{Unknown, Ready, Holds}
use Rattle.book.specs.declared.Book.{Book}
use Rattle.book.specs.Cells.{cell_in, cell_of, book_in, book_of, blank_cells}

-- a book of the same row with other cells
abbrev pub with_cells : Book → List Cell → Book
with_cells b cells = record { row = b.row; inputs = b.inputs; cells = cells }

-- ---- cells and what they say

pub cell_same : (c : Cell) → cell_of (cell_in c) ≡ c
unfolding cell_of cell_in
cell_same Unknown = refl
cell_same Ready = refl
cell_same (Holds s) = refl

pub said_same : (c : rules.Cell) → cell_in (cell_of c) ≡ c
unfolding cell_of cell_in
said_same unknown = refl
said_same ready = refl
said_same (holds s) = refl

pub cells_same : (l : List Cell) → map cell_of (map cell_in l) ≡ l
cells_same [] = refl
cells_same (c ∷ l) = rw (cell_same c, cells_same l)

pub saids_same : (l : List rules.Cell) → map cell_in (map cell_of l) ≡ l
saids_same [] = refl
saids_same (c ∷ l) = rw (said_same c, saids_same l)

-- ---- a book and what it says

pub book_same : (b : Book) → book_of b (book_in b) ≡ b
unfolding book_of book_in
book_same b = ap (with_cells b) (rw (cells_same (take b.row b.cells)) (take-append-drop b.row b.cells))

book_length : (b : Book) → length (book_in b) ≡ min b.row (length b.cells)
unfolding book_in
book_length b = length-map (take b.row b.cells) cell_in ∙ length-take b.row b.cells

pub book_at : (b : Book) (c : ℕ) → get_or (book_in b) c unknown ≡ cell_in (get_or (take b.row b.cells) c Unknown)
unfolding book_in cell_in
book_at b c = get_or-map cell_in (take b.row b.cells) c Unknown

-- a book that says something else of as many cells
module _ (b : Book) (book : List rules.Cell) (fits : length book ≡ length (book_in b)) where
  long : length (map cell_of book) ≡ min b.row (length b.cells)
  long = length-map book cell_of ∙ fits ∙ book_length b

  -- where the row is longer than the cells none stand past it
  none_past : length b.cells < b.row → drop b.row b.cells ≡ []
  none_past h = drop_of_length-le b.cells {i = b.row} (omega arith)

  pub book_says : book_in (book_of b book) ≡ book
  unfolding book_in book_of
  book_says = go (dec_lt (length b.cells) b.row)
    where
      go : Dec (length b.cells < b.row) → map cell_in (take b.row (map cell_of book ++ drop b.row b.cells)) ≡ book
      go (yes h) =
          let l : length (map cell_of book) ≤ b.row = omega (arith, long) in
          rw (none_past h, append-nil (map cell_of book), take_all b.row (map cell_of book) l) (saids_same book)
      go (no h) = rw (take_at (map cell_of book) (drop b.row b.cells) b.row (omega (arith, long))) (saids_same book)

  -- said once more, only the last counts
  pub book_again : (more : List rules.Cell) → book_of (book_of b book) more ≡ book_of b more
  unfolding book_of
  book_again more = ap (λ d. with_cells b (map cell_of more ++ d)) (go (dec_lt (length b.cells) b.row))
    where
      go : Dec (length b.cells < b.row) → drop b.row (map cell_of book ++ drop b.row b.cells) ≡ drop b.row b.cells
      go (yes h) =
          let l : length (map cell_of book) ≤ b.row = omega (arith, long) in
          rw (none_past h, append-nil (map cell_of book)) (drop_of_length-le (map cell_of book) l)
      go (no h) = drop_at (map cell_of book) (drop b.row b.cells) b.row (omega (arith, long))

-- ---- one cell altered

pub put_in : (b : Book) (i c : ℕ) (v : Cell) → i ≡ c → i < b.row → with_cells b (set b.cells i v) ≡ book_of b (set (book_in b) c (cell_in v))
unfolding book_of book_in
put_in b i c v e l =
    let h : c < b.row = omega (arith, e) in
    rw e
    (ap (with_cells b) (sym (take-append-drop b.row (set b.cells c v)))
    ∙ rw (← map-set cell_in (take b.row b.cells) c v, ← take-set-lt b.row b.cells c v h, cells_same (take b.row (set b.cells c v)), ← drop-set-lt b.row b.cells c v h))

pub put_past : (b : Book) (i c : ℕ) (v : Cell) → i ≡ c → b.row ≤ i → b ≡ book_of b (set (book_in b) c (cell_in v))
put_past b i c v e h = sym (ap (book_of b) (set_out (book_in b) c (cell_in v) (omega (arith, book_length b))) ∙ book_same b)

-- ---- the cells of a set line, one after the other

pub any_below : (text : List ℕ) (n k first : ℕ) → list_any (λ j. ltb (byte_at text (first + 2 * j)) n) (range_with_len 0 k) ≡ any (λ c. ltb c n) (bytes_from text first k)
unfolding bytes_from
any_below text n k first = let z : first + 2 * 0 ≡ first = omega arith in go k 0 ∙ rw z
  where
    go : (k a : ℕ) → list_any (λ j. ltb (byte_at text (first + 2 * j)) n) (range_with_len a k) ≡ any (λ c. ltb c n) (bytes_from text (first + 2 * a) k)
    go zero a = refl
    go (suc k) a = let z : first + 2 * a + 2 ≡ first + 2 * (a + 1) = omega arith in rw (z, ← go k (a + 1))

set_all_next : {A : Type 0} (v : A) (text : List ℕ) (j first : ℕ) (l : List A)
    → set_all v (bytes_from text first (suc j)) l ≡ set (set_all v (bytes_from text first j) l) (byte_at text (first + 2 * j)) v
unfolding set_all bytes_from
set_all_next v text zero first l = let z : first + 2 * 0 ≡ first = omega arith in rw z
set_all_next v text (suc j) first l =
    let z : first + 2 * suc j ≡ first + 2 + 2 * j = omega arith in
    rw z (set_all_next v text j (first + 2) (set l (byte_at text first) v))

-- so many cells have become ready
abbrev pub readied : Book → List ℕ → ℕ → ℕ → Book
readied b text first j = book_of b (set_all ready (bytes_from text first j) (book_in b))

pub readied_start : (b : Book) (text : List ℕ) (first : ℕ) → b ≡ readied b text first 0
unfolding set_all bytes_from
readied_start b text first = sym (book_same b)

pub readied_turn : (b : Book) (text : List ℕ) (first j : ℕ) (was after : Book) (c : ℕ) → was ≡ readied b text first j → c ≡ byte_at text (first + 2 * j)
    → after ≡ book_of was (set (book_in was) c (cell_in Ready)) → after ≡ readied b text first (j + 1)
unfolding cell_in
readied_turn b text first j was after c w e a =
    let book = set_all ready (bytes_from text first j) (book_in b) in
    let l = length-set_all ready (bytes_from text first j) (book_in b) in
    rw (a, w, e, book_says b book l, book_again b book l, add-one, set_all_next ready text j first (book_in b))

-- ---- the first book

sets_next : {A : Type 0} (f : ℕ → A) (n at : ℕ) (l : List A) → sets l at (map f (upto at (suc n))) ≡ set (sets l at (map f (upto at n))) (at + n) (f (at + n))
unfolding upto
sets_next f zero at l = let z : at + 0 ≡ at = omega arith in rw z
sets_next f (suc n) at l = let z : at + suc n ≡ suc at + n = omega arith in rw z (sets_next f n (suc at) (set l at (f at)))

sets_out : {A : Type 0} (vs l : List A) (i : ℕ) → length l ≤ i → sets l i vs ≡ l
sets_out [] l i h = refl
sets_out (v ∷ vs) l i h = rw (set_out l i v h) (sets_out vs l (suc i) (omega arith))

-- those that stand past the end change nothing
sets_most : {A : Type 0} (f : ℕ → A) (n at : ℕ) (l : List A) → sets l at (map f (upto at (min n (length l - at)))) ≡ sets l at (map f (upto at n))
unfolding upto
sets_most f zero at l = let z : min 0 (length l - at) ≡ 0 = omega arith in rw z
sets_most f (suc n) at l = go (sets_most f n (suc at) (set l at (f at))) (dec_lt at (length l))
  where
    go : sets (set l at (f at)) (suc at) (map f (upto (suc at) (min n (length (set l at (f at)) - suc at)))) ≡ sets l at (map f (upto at (suc n)))
        → Dec (at < length l) → sets l at (map f (upto at (min (suc n) (length l - at)))) ≡ sets l at (map f (upto at (suc n)))
    go r (yes h) =
        let z : min (suc n) (length l - at) ≡ suc (min n (length (set l at (f at)) - suc at)) = omega (arith, length-set l at (f at)) in
        rw z r
    go r (no h) =
        let z : min (suc n) (length l - at) ≡ 0 = omega arith in
        rw z (sym (sets_out (map f (upto at (suc n))) l at (omega arith)))

-- so many cells hold their signals
abbrev pub begun : ℕ → List Cell
begun s = sets blank_cells 0 (map Holds (upto 0 s))

pub begun_turn : (s : ℕ) → set (begun s) s (Holds s) ≡ begun (s + 1)
begun_turn s = let z : 0 + s ≡ s = omega arith in rw add-one (rw z at (sym (sets_next Holds s 0 blank_cells)))

pub begun_start : blank_cells ≡ begun 0
unfolding upto
begun_start = refl

pub begun_end : (inputs : ℕ) → begun (min inputs 256) ≡ begun inputs
begun_end inputs = sets_most Holds inputs 0 blank_cells
