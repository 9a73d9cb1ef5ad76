-- Signals marked in an array: what 6 and the outputs' part of 7 are found by.
-- Assumes nothing.
use Rattle.std.specs.Prelude.{ℕ, Bool, true, false, List, [], ◌∷◌, get_or, replicate}
use Rattle.rules.specs.Basics.{set_all}

-- a mark for each signal, none made
abbrev pub no_marks : List Bool
no_marks = replicate 576 false

abbrev pub marked : List Bool → ℕ → Bool
marked marks s = get_or marks s false

-- the operands of each gate marked
unfoldable pub marked_by : List (List ℕ) → List Bool → List Bool
unfolding set_all
marked_by [] marks = marks
marked_by (g ∷ gs) marks = marked_by gs (set_all true g marks)
