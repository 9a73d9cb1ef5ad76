-- What the line reader answers, in terms of document 01's rule for lines.
-- Assumes nothing.
use Rattle.std.specs.Prelude.{ℕ, zero, suc, ◌+◌, ◌*◌, List, [], ◌∷◌, leb, get_or, length, drop, Result, Ok, Err}
use Rattle.rules.specs.declared.Refusal.{Refusal}
use Rattle.rules.specs.declared.Refusal.TheVariants.{BadLine, WrongFrame}
use Rattle.rules.specs.Basics.{pick}
use Rattle.rules.specs.Form.{form01}
use Rattle.rules.specs.Lines.{value_of, digits, is_line}

-- the line at a place of a text: how many digits it has, or its refusal
unfoldable pub line_at : List ℕ → ℕ → Result ℕ Refusal
line_at text at = pick (leb (length text) at) (Err WrongFrame) (pick (is_line form01 (drop at text)) (Ok (digits (drop at text))) (Err BadLine))

-- nothing follows a place, or the refusal of what stands there
unfoldable pub ends_from : Result ℕ Refusal → Result (Unit {0}) Refusal
ends_from (Ok n) = Err WrongFrame
ends_from (Err r) = Err r

unfoldable pub ends_at : List ℕ → ℕ → Result (Unit {0}) Refusal
ends_at text at = pick (leb (length text) at) (Ok tt) (ends_from (line_at text at))

-- the byte whose two digits stand at a place; the two-byte number whose four digits stand there
unfoldable pub byte_at : List ℕ → ℕ → ℕ
byte_at text at = 16 * value_of (get_or text at 0) + value_of (get_or text (at + 1) 0)

unfoldable pub word_at : List ℕ → ℕ → ℕ
word_at text at = byte_at text at * 256 + byte_at text (at + 2)

-- k bytes from a place on; k two-byte numbers from a place on
unfoldable pub bytes_from : List ℕ → ℕ → ℕ → List ℕ
bytes_from text at zero = []
bytes_from text at (suc k) = byte_at text at ∷ bytes_from text (at + 2) k

unfoldable pub words_from : List ℕ → ℕ → ℕ → List ℕ
words_from text at zero = []
words_from text at (suc k) = word_at text at ∷ words_from text (at + 4) k
