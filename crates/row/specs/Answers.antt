-- What the lines of a sequence answer, by document 01's rule for each: the place of the next line, or the refusal.
-- Assumes nothing.
use Rattle.std.specs.Prelude.{ℕ, zero, suc, ◌+◌, ◌/◌, Bool, true, false, ◌&&◌, List, ltb}
use Rattle.rules.specs.Basics.{within}
use Rattle.rules.specs.Form.{form01}
use Rattle.rules.specs.Refusals.{Res, good, refused, ◌>>=◌, ◌>>◌, meaning}
use Rattle.rules.specs.Sequence.{SequenceHead, sequence_head_of}
use Rattle.lines.specs.Line.{line_at, bytes_from}
use Rattle.row.specs.declared.frames.Numbers.{Numbers}

-- the line at a place by a rule for its bytes
unfoldable pub line_answer : {A : Type 0} → (List ℕ → Res A) → List ℕ → ℕ → Res ℕ
unfolding ◌>>=◌ ◌>>◌
line_answer rule text at = meaning (line_at text at) >>= (λ n. rule (bytes_from text at (n / 2)) >> good (at + n + 1))

-- k lines from a place on: the first that cannot be read ends the reading with its number
unfoldable pub lines_answer : (ℕ → Res ℕ) → ℕ → ℕ → Res ℕ
unfolding ◌>>=◌
lines_answer line at zero = good at
lines_answer line at (suc k) = line at >>= (λ next. lines_answer line next k)

-- the head's line
unfoldable pub head_answer : List ℕ → Res SequenceHead
unfolding ◌>>=◌
head_answer text = meaning (line_at text 0) >>= (λ n. sequence_head_of form01 (bytes_from text 0 (n / 2)))

-- a head's numbers, as document 01 has them
abbrev pub head_of : Numbers → SequenceHead
head_of h = record { row = h.row; inputs = h.inputs; outputs = h.outputs; instructions = h.instructions }

-- row size 2 to 256, inputs 1 to 64, outputs 1 to 64, instructions 1 to 1,024; inputs are fewer than the row size
abbrev pub numbers_fit : SequenceHead → Bool
numbers_fit h =
    within 2 256 h.row && (within 1 64 h.inputs && (within 1 64 h.outputs && (within 1 1024 h.instructions && ltb h.inputs h.row)))

-- a rule's refusal, whatever it gives else
abbrev pub passed : {A : Type 0} → Res A → Res (Unit {0})
passed (good a) = good tt
passed (refused r) = refused r

-- what a line's cells give: 5 before 12
abbrev pub judged_of : Bool → Bool → Res (Unit {0})
judged_of false below = refused 5
judged_of true false = refused 12
judged_of true true = good tt
