-- Pieces of the sequence's text.
-- Assumes nothing.
use Rattle.std.specs.Prelude.{ℕ, ◌-◌, ◌/◌, ◌%◌, List, [], ◌∷◌, get_or}
use Rattle.rules.specs.Lines.{digit_of, written}

-- the two digits of a byte
abbrev pub digits : ℕ → List ℕ
digits b = digit_of (b / 16) ∷ digit_of (b % 16) ∷ []

-- the entry of a table
abbrev pub entry : List ℕ → ℕ → ℕ
entry l o = get_or l o 0

-- the head line of a sequence
unfoldable pub head_line : ℕ → ℕ → ℕ → ℕ → List ℕ
unfolding written
head_line row inputs outputs lines = written (0x11 ∷ (row - 1) ∷ inputs ∷ outputs ∷ (lines / 256) ∷ (lines % 256) ∷ [])
