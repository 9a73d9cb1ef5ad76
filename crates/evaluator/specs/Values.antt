-- The values on the way.
-- Assumes nothing.
use Rattle.std.specs.Prelude.{ℕ, List, get_or}

-- the value of signal o
abbrev pub values_at : List ℕ → ℕ → ℕ
values_at values o = get_or values o 0
