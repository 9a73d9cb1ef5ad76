-- A sequence that was read has as many instructions as its head says.
use Prim.Native.Nat.{ℕ, zero, suc}
use mathlib.Core.Path.{◌≡◌, refl, ap}
use mathlib.Core.List.{List}
use lib.ListN.{length}
use Rattle.row.specs.Decoded.{each_line, instruction_at, next_at, instructions_at}

each_count : {A : Type 0} (said : ℕ → A) (next : ℕ → ℕ) (k at : ℕ) → length (each_line said next at k) ≡ k
unfolding each_line
each_count said next zero at = refl
each_count said next (suc k) at = ap suc (each_count said next k (next at))

pub instructions_count : (text : List ℕ) (at k : ℕ) → length (instructions_at text at k) ≡ k
unfolding instructions_at
instructions_count text at k = each_count (instruction_at text) (next_at text) k at
