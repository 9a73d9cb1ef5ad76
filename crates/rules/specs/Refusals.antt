-- Document 01, "Numbers of refusal". The table:
--   1 a line breaks the rule for lines, or the last has no line feed
--   2 another kind was due, a length is wrong for the kind, a frame is missing or one too many; an empty text
--   3 a head's number is outside the numbers          4 an operand isn't lower than its reader, or an output is no gate
--   5 operands or set cells don't ascend; a cell stands twice in a NOR
--   6 a gate is neither read nor an output            7 twin gates or twin outputs
--   8 row size asked for is outside 2 to 256          9 no room in the row
--  10 the lent output buffer is too short            11 heads disagree on inputs or outputs
--  12 a cell is at or past the row size              13 an input cell is set or written
--  14 the written cell is not ready                  15 an operand cell holds no signal, or the operands match no gate
--  16 a place's cell doesn't hold its output         17 a row or input slice has the wrong length or a byte other than 0 and 1
-- Assumes nothing.
use Rattle.std.specs.Prelude.{ℕ, Bool, true, false, Result, Ok, Err}
use Rattle.std.proofs.Math.Option.{Option, none, some}
use Rattle.rules.specs.declared.Refusal.{Refusal}
use Rattle.rules.specs.declared.Refusal.TheVariants.{BadLine, WrongFrame, HeadNumber, WrongSignal, NotAscending, Unused, Twins, RowSize, NoRoom, ShortBuffer, HeadsDisagree, PastRow, InputWritten, NotReady, NoGate, Misplaced, NotBits}

infixl 10 ◌>>=◌ ◌>>◌
-- A refusal returns its number only: a value, or that number.
pub data Res (A : Type 0) : Type 0 where
  good : A → Res A
  refused : ℕ → Res A

-- The first line that cannot be read ends the reading with its number: what comes after is asked only of what was good.
unfoldable pub ◌>>=◌ : {A B : Type 0} → Res A → (A → Res B) → Res B
◌>>=◌ (good a) f = f a
◌>>=◌ (refused r) f = refused r

unfoldable pub ◌>>◌ : {A B : Type 0} → Res A → Res B → Res B
◌>>◌ (good a) r = r
◌>>◌ (refused n) r = refused n

-- that number, unless the test holds
unfoldable pub require : Bool → ℕ → Res (Unit {0})
require true n = good tt
require false n = refused n

-- that number, where there is nothing
unfoldable pub or_refuse : {A : Type 0} → ℕ → Option A → Res A
or_refuse n none = refused n
or_refuse n (some a) = good a

-- the table's number of each refusal of the code
abbrev pub number_of : Refusal → ℕ
number_of BadLine = 1
number_of WrongFrame = 2
number_of HeadNumber = 3
number_of WrongSignal = 4
number_of NotAscending = 5
number_of Unused = 6
number_of Twins = 7
number_of RowSize = 8
number_of NoRoom = 9
number_of ShortBuffer = 10
number_of HeadsDisagree = 11
number_of PastRow = 12
number_of InputWritten = 13
number_of NotReady = 14
number_of NoGate = 15
number_of Misplaced = 16
number_of NotBits = 17

-- an answer of the code, as this paper has it: what its value stands for, or its number
abbrev pub meaning_by : {A B : Type 0} → (A → B) → Result A Refusal → Res B
meaning_by f (Ok a) = good (f a)
meaning_by f (Err r) = refused (number_of r)

abbrev pub meaning : Result ℕ Refusal → Res ℕ
meaning a = meaning_by (λ n. n) a
