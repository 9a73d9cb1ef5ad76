-- Laws of zeros, and of the gates that flat arrays stand for.
-- Assumes nothing.
use Prim.Native.Nat.{ℕ, ◌<◌, ◌≤◌}
use native.Mathlib.Omega.{arith}
use native.Mathlib.Decide.{dec_lt}
use mathlib.Core.Path.{◌≡◌}
use mathlib.Core.List.{List, []}
use lib.ListN.{get_or, replicate, length-replicate, get_or-eq_default, get_or-replicate}
use Rattle.netlist.specs.Flat.{gates_in}
use Rattle.netlist.proofs.Arrays.{length-gates}

-- a gate past the last has no operands
pub gates_past : (ops counts : List ℕ) (n g : ℕ) → n ≤ g → get_or (gates_in ops counts n) g [] ≡ []
gates_past ops counts n g h = get_or-eq_default (gates_in ops counts n) [] (omega (arith, length-gates ops counts n))

-- zeros are zero everywhere
pub replicate-zero : (n i : ℕ) → ◌≡◌ {A = ℕ} (get_or (replicate n 0) i 0) 0
replicate-zero n i = go (dec_lt i n)
  where
    go : Dec (i < n) → ◌≡◌ {A = ℕ} (get_or (replicate n 0) i 0) 0
    go (yes h) = get_or-replicate n i 0 0 h
    go (no h) = get_or-eq_default (replicate n 0) 0 (omega (arith, length-replicate {A = ℕ} n 0, h))
