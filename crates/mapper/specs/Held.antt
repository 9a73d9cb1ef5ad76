-- The row's cells in the code: what is known of each, and what a set line and a search do to them.
-- Assumes nothing.
use Rattle.std.specs.Prelude.{ℕ, suc, ◌+◌, ◌-◌, ◌<◌, ◌≤◌, ◌≡◌, Bool, ◌&&◌, List, [], ◌∷◌, ◌++◌, map, eqb, leb, get_or, take, length, replicate, Option, Some, None}
use Rattle.rules.specs.Lines.{written}
use Rattle.rules.specs.Cells.{Slot, blank, ready, spent, keeps}
use Rattle.mapper.specs.declared.cells.Hold.{Hold}
use Rattle.mapper.specs.declared.cells.Hold.TheVariants.{Ready, Spent, Keeps}
use Rattle.mapper.specs.declared.cells.Cells.{Cells}

-- what the code knows of a cell, of which the rule says this
unfoldable pub hold_of : Slot → Hold
hold_of blank = Keeps
hold_of ready = Ready
hold_of spent = Spent
hold_of (keeps s) = Keeps

-- the row's cells
abbrev pub cells_of : Cells → List Hold
cells_of st = take st.row st.held

-- the spent ones among cells counted from k, ascending
unfoldable pub spent_in : ℕ → List Hold → List ℕ
spent_in k [] = []
spent_in k (Ready ∷ xs) = spent_in (suc k) xs
spent_in k (Spent ∷ xs) = k ∷ spent_in (suc k) xs
spent_in k (Keeps ∷ xs) = spent_in (suc k) xs

-- a spent cell becomes ready
unfoldable pub renewed : Hold → Hold
renewed Ready = Ready
renewed Spent = Ready
renewed Keeps = Keeps

-- no cell below n is ready
abbrev pub NoneBelow : List Hold → ℕ → Type 0
NoneBelow l n = (i : ℕ) → i < n → get_or l i Keeps ≡ Ready → ⊥

-- a row of at most 256 cells, none of them ready below the cursor
pub record Fine (st : Cells) : Type 0 where
  pub size : st.row ≤ 256
  pub inside : st.next ≤ st.row
  pub low : NoneBelow st.held st.next

-- a row of at most 256 cells, and a text that is not long yet
pub record Short (st : Cells) (text : List ℕ) : Type 0 where
  pub size : st.row ≤ 256
  pub short : length text ≤ 15800
  pub few : st.lines ≤ 60000

-- the cursor at the lowest ready cell
pub record Sought (st r : Cells) : Type 0 where
  pub held : r.held ≡ st.held
  pub row : r.row ≡ st.row
  pub lines : r.lines ≡ st.lines
  pub inside : r.next < r.row
  pub low : NoneBelow r.held r.next
  pub found : get_or r.held r.next Keeps ≡ Ready

-- the search for it: none where no cell of the row is ready
abbrev pub SoughtOf : Cells → Option Cells → Type 0
SoughtOf st (Some r) = Sought st r
SoughtOf st None = NoneBelow st.held st.row

-- one set line with all spent cells, which become ready
pub record Renewed (st : Cells) (text text' : List ℕ) (r : Cells) : Type 0 where
  pub row : r.row ≡ st.row
  pub next : r.next ≡ 0
  pub lines : r.lines ≡ st.lines + 1
  pub long : length r.held ≡ 256
  pub cells : cells_of r ≡ map renewed (cells_of st)
  pub line : text' ≡ text ++ written (0x12 ∷ spent_in 0 (cells_of st))

-- a gate operand that nobody wants
abbrev pub is_free : ℕ → List ℕ → ℕ → Bool
is_free inputs left o = leb inputs o && eqb (get_or left o 0) 0

-- before the first line: the inputs' cells keep them, all others are spent
unfoldable pub first_held : ℕ → List Hold
first_held inputs = replicate inputs Keeps ++ replicate (256 - inputs) Spent

abbrev pub first_cells : ℕ → ℕ → Cells
first_cells inputs row = record { held = first_held inputs; row = row; next = 0; lines = 0 }

-- a cell at once, or after a set line, if there is one at all
pub data Roomed (st : Cells) (text text' : List ℕ) (o : Option Cells) : Type 0 where
  at_once : (r : Cells) → o ≡ Some r → Sought st r → text' ≡ text → Roomed st text text' o
  later : (u : Cells) → NoneBelow st.held st.row → Renewed st text text' u → SoughtOf u o → Roomed st text text' o
