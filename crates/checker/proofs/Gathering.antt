-- Operand signals read one after the other.
use Rattle.std.proofs.Common.{ℕ, zero, suc, ◌+◌, ◌-◌, ◌*◌, ◌<◌, ◌≤◌, arith, ◌≡◌, refl, sym, ap, ◌∙◌, Bool, true, false, leb, List, [], ◌∷◌, ◌++◌, map, get_or, length, take, set, length-set, Some, None, take-suc-set, lt-ltb, le-ltb}
use mathlib.Core.Option as maybe
use mathlib.Core.Option.{none, some}
use lib.ListN.{get_or-map}
use Rattle.rules.specs.Basics.{pick, insert, sort}
use Rattle.rules.specs.Book as rules
use Rattle.rules.specs.Book.{unknown, ready, holds, if_holds, signals}
use Rattle.rules.proofs.Laws.{no_way}
use Rattle.lines.specs.Line.{byte_at, bytes_from}
use Rattle.index.specs.Chains.{key_of}
use Rattle.book.specs.declared.Cell.{Cell}
use Rattle.book.specs.declared.Cell.TheVariants.{Unknown, Ready, Holds}
use Rattle.book.specs.declared.Book.{Book}
use Rattle.book.specs.Cells.{cell_in, book_in}
use Rattle.book.proofs.Laws.{book_at}
use Rattle.checker.specs.Operands.{key_over, low_cell}

insert_long : (x : ℕ) (l : List ℕ) → length (insert x l) ≡ suc (length l)
unfolding insert pick
insert_long x [] = refl
insert_long x (b ∷ l) = go (leb x b) (insert_long x l)
  where
    go : (t : Bool) → length (insert x l) ≡ suc (length l) → length (pick t (x ∷ b ∷ l) (b ∷ insert x l)) ≡ suc (suc (length l))
    go true r = refl
    go false r = ap suc r

pub sort_long : (l : List ℕ) → length (sort l) ≡ length l
unfolding sort
sort_long [] = refl
sort_long (a ∷ l) = insert_long a (sort l) ∙ ap suc (sort_long l)

-- one operand that holds no signal, and the line has no operand list
none_before : (book : List rules.Cell) (p s : List ℕ) → signals book s ≡ none → signals book (p ++ s) ≡ none
unfolding signals
none_before book [] s e = e
none_before book (c ∷ p) s e = rw (none_before book p s e) (go (get_or book c unknown))
  where
    go : (x : rules.Cell) → if_holds x none ≡ none
    go unknown = refl
    go ready = refl
    go (holds t) = refl

bytes_split : (text : List ℕ) (at a b : ℕ) → bytes_from text at (a + b) ≡ bytes_from text at a ++ bytes_from text (at + 2 * a) b
unfolding bytes_from
bytes_split text at zero b = let z : 0 + b ≡ b = omega arith in let y : at + 2 * 0 ≡ at = omega arith in rw (z, y)
bytes_split text at (suc a) b =
    let z : suc a + b ≡ suc (a + b) = omega arith in
    let y : at + 2 * suc a ≡ at + 2 + 2 * a = omega arith in
    rw (z, y) (ap (λ l. byte_at text at ∷ l) (bytes_split text (at + 2) a b))

-- the signals of cells and of the cells after them
signals_append : (book : List rules.Cell) (p q s t : List ℕ) → signals book p ≡ some s → signals book q ≡ some t → signals book (p ++ q) ≡ some (s ++ t)
unfolding signals if_holds
signals_append book [] q s t e f = let z : [] ≡ s = cc in rw (← z) f
signals_append book (c ∷ p) q s t e f = go (get_or book c unknown) (signals book p) refl e (λ u g. signals_append book p q u t g f)
  where
    go : (x : rules.Cell) (o : maybe.Option (List ℕ)) → signals book p ≡ o → if_holds x o ≡ some s → ((u : List ℕ) → signals book p ≡ some u → signals book (p ++ q) ≡ some (u ++ t))
        → if_holds x (signals book (p ++ q)) ≡ some (s ++ t)
    go unknown o g h r = absurd (no_way (cc))
    go ready o g h r = absurd (no_way (cc))
    go (holds y) none g h r = absurd (no_way (cc))
    go (holds y) (some u) g h r = let z : y ∷ u ≡ s = cc in rw (r u g, ← z)

-- ---- from the first operand to the last

module _ (b : Book) (text : List ℕ) (first k : ℕ) where
  abbrev lows : List rules.Cell
  lows = map low_cell (book_in b)

  lows_at : (p : ℕ) (c : Cell) → c ≡ get_or (take b.row b.cells) p Unknown → get_or lows p unknown ≡ low_cell (cell_in c)
  unfolding low_cell book_in
  lows_at p c e = get_or-map low_cell (book_in b) p unknown ∙ ap low_cell (book_at b p ∙ ap cell_in (sym e))

  -- the operands before cell j hold signals, which stand in the array
  pub record Gathered (j : ℕ) (four : List ℕ) : Type 0 where
    pub least : 1 ≤ j
    pub long : length four ≡ 4
    pub are : signals lows (bytes_from text (first + 2) (j - 1)) ≡ some (take (j - 1) four)

  pub gathered_start : Gathered 1 (0 ∷ 0 ∷ 0 ∷ 0 ∷ [])
  unfolding signals bytes_from
  gathered_start = record { least = omega arith; long = refl; are = refl }

  module _ {j : ℕ} {four : List ℕ} (s : Gathered j four) where
    pub gathered_end : j ≡ k → (key : ℕ) → key ≡ key_of (sort (take (k - 1) four)) → Some key ≡ key_over (signals lows (bytes_from text (first + 2) (k - 1)))
    unfolding key_over
    gathered_end h key e = rw (← h, s.are) (ap Some (rw (← h) at e))

    module _ (more : j < k) (p : ℕ) (c : Cell) (e : p ≡ byte_at text (first + 2 * j)) (f : c ≡ get_or (take b.row b.cells) p Unknown) where
      here : (n : ℕ) → signals lows (bytes_from text (first + 2 * j) (suc n)) ≡ if_holds (low_cell (cell_in c)) (signals lows (bytes_from text (first + 2 * j + 2) n))
      unfolding signals bytes_from
      here n = rw (← e, lows_at p c f)

      -- the operands before cell j, and those from it on
      split : (n : ℕ) → bytes_from text (first + 2) (j - 1 + n) ≡ bytes_from text (first + 2) (j - 1) ++ bytes_from text (first + 2 * j) n
      split n = let z : first + 2 + 2 * (j - 1) ≡ first + 2 * j = omega (arith, s.least) in bytes_split text (first + 2) (j - 1) n ∙ rw z

      pub gathered_turn : (x : ℕ) → k ≤ 5 → c ≡ Holds x → x ≤ 1023 → Gathered (j + 1) (set four (j - 1) x)
      unfolding signals bytes_from if_holds cell_in low_cell pick
      gathered_turn x few q m =
          let z : j + 1 - 1 ≡ j - 1 + 1 = omega (arith, s.least) in
          let y : j + 1 - 1 ≡ suc (j - 1) = omega (arith, s.least) in
          let l : j - 1 < length four = omega (arith, s.long, s.least) in
          let one : signals lows (bytes_from text (first + 2 * j) 1) ≡ some (x ∷ []) = here 0 ∙ rw (q, lt-ltb x 1024 (omega arith)) in
          record {
            least = omega arith;
            long = length-set four (j - 1) x ∙ s.long;
            are = ap (λ i. signals lows (bytes_from text (first + 2) i)) z ∙ ap (signals lows) (split 1)
                ∙ signals_append lows (bytes_from text (first + 2) (j - 1)) (bytes_from text (first + 2 * j) 1) (take (j - 1) four) (x ∷ []) s.are one
                ∙ ap some (sym (ap (λ i. take i (set four (j - 1) x)) y ∙ take-suc-set four (j - 1) x l));
          }

      none_at_all : if_holds (low_cell (cell_in c)) (signals lows (bytes_from text (first + 2 * j + 2) (k - 1 - j))) ≡ none
          → None ≡ key_over (signals lows (bytes_from text (first + 2) (k - 1)))
      unfolding key_over
      none_at_all n =
          let q : k - 1 ≡ j - 1 + suc (k - 1 - j) = omega (arith, s.least) in
          rw (q, split (suc (k - 1 - j)), none_before lows (bytes_from text (first + 2) (j - 1)) (bytes_from text (first + 2 * j) (suc (k - 1 - j))) (here (k - 1 - j) ∙ n))

      pub gathered_high : (x : ℕ) → c ≡ Holds x → 1023 < x → None ≡ key_over (signals lows (bytes_from text (first + 2) (k - 1)))
      unfolding if_holds cell_in low_cell pick
      gathered_high x q h = none_at_all (rw (q, le-ltb x 1024 (omega arith)))

      pub gathered_none : ((x : ℕ) → c ≡ Holds x → ⊥) → None ≡ key_over (signals lows (bytes_from text (first + 2) (k - 1)))
      unfolding if_holds cell_in low_cell
      gathered_none h = none_at_all (go c h)
        where
          go : (d : Cell) → ((x : ℕ) → d ≡ Holds x → ⊥) → if_holds (low_cell (cell_in d)) (signals lows (bytes_from text (first + 2 * j + 2) (k - 1 - j))) ≡ none
          go Unknown z = refl
          go Ready z = refl
          go (Holds x) z = absurd (z x refl)
