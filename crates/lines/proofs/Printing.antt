-- A byte as it is written.
use Rattle.std.proofs.Common.{ℕ, List, [], ◌∷◌, ◌/◌, ◌%◌}
use Rattle.rules.specs.Lines.{digit_of}

-- the two digits of a byte
abbrev pub two : ℕ → List ℕ
two b = digit_of (b / 16) ∷ digit_of (b % 16) ∷ []
