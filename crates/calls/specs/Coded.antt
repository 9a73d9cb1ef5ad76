-- An answer as one 64-bit number, for C and Rust.
-- Assumes nothing.
use Rattle.std.specs.Prelude.{ℕ, ◌-◌, ◌%◌, ◌^◌, List}
use Rattle.rules.specs.Form.{form01}
use Rattle.rules.specs.Refusals.{Res, good, refused, ◌>>=◌}
use Rattle.rules.specs.Netlist.{netlist_of}

-- the value, or minus the refusal's number as a 64-bit machine has it
unfoldable pub coded : Res ℕ → ℕ
coded (good n) = n
coded (refused r) = (2 ^ 64 - r) % 2 ^ 64

-- 0 where a netlist reads well, or the refusal
unfoldable pub read_answer : List ℕ → Res ℕ
read_answer text = netlist_of form01 text >>= λ N. good 0
