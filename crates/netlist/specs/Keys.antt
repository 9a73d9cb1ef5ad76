-- The keys of a netlist's gates.
-- Assumes nothing.
use Rattle.std.specs.Prelude as std
use Rattle.std.specs.Prelude.{ℕ, zero, suc, ◌+◌, ◌*◌, min, List, get_or, set, replicate, None, Some}
use Rattle.std.proofs.Math.Option.{Option, none, some}
use Rattle.index.specs.Chains.{key_of}
use Rattle.netlist.specs.declared.Netlist.{Netlist}
use Rattle.netlist.specs.Flat.{from}

-- the key of gate g, by its first four operands
unfoldable pub key_at : List ℕ → List ℕ → ℕ → ℕ
key_at ops counts g = key_of (from ops (4 * g) (min (get_or counts g 0) 4))

-- the keys of the first n gates, 0 behind them
unfoldable pub keys_to : List ℕ → List ℕ → ℕ → List ℕ
unfolding key_at
keys_to ops counts zero = replicate 512 0
keys_to ops counts (suc g) = set (keys_to ops counts g) g (key_at ops counts g)

unfoldable pub keys_in : Netlist → List ℕ
unfolding keys_to
keys_in n = keys_to n.ops n.counts (min n.gates 512)

-- the gate that was found, as a signal
unfoldable pub found_gate : ℕ → std.Option ℕ → Option ℕ
found_gate inputs (Some g) = some (inputs + g)
found_gate inputs None = none
