-- The keys of a netlist's gates, and the loop that fills them in.
use Prim.Native.Nat.{ℕ, zero, suc, ◌+◌, ◌<◌, ◌≤◌, min}
use native.Mathlib.Omega.{arith}
use native.Mathlib.Numerals.{add-one}
use native.Mathlib.Decide.{dec_lt}
use mathlib.Core.Path.{◌≡◌, refl, ◌∙◌}
use mathlib.Core.List.{List}
use lib.ListN.{get_or, length, set, length-set, replicate, length-replicate}
use lib.Seq.{get_or-set_same, get_or-set_other}
use Rattle.index.specs.Chains.{key_of}
use Rattle.netlist.specs.declared.Netlist.{Netlist}
use Rattle.netlist.specs.Flat.{gate_in}
use Rattle.netlist.specs.Keys.{key_at, keys_to, keys_in}
use Rattle.netlist.specs.Well.{WellFlat}

-- ---- the loop that fills them in

pub keys_start : (ops counts : List ℕ) → replicate 512 0 ≡ keys_to ops counts 0
unfolding keys_to
keys_start ops counts = refl

pub keys_turn : (ops counts keys : List ℕ) (g : ℕ) → keys ≡ keys_to ops counts g → set keys g (key_at ops counts g) ≡ keys_to ops counts (g + 1)
unfolding keys_to
keys_turn ops counts keys g e = rw (add-one, e)

-- ---- what stands at a gate's place

module _ (ops counts : List ℕ) where
  keys_long : (n : ℕ) → length (keys_to ops counts n) ≡ 512
  unfolding keys_to
  keys_long zero = length-replicate {A = ℕ} 512 0
  keys_long (suc n) = length-set (keys_to ops counts n) n (key_at ops counts n) ∙ keys_long n

  key_stands : (n g : ℕ) → g < n → n ≤ 512 → get_or (keys_to ops counts n) g 0 ≡ key_at ops counts g
  unfolding keys_to
  key_stands zero g h l = absurd (omega arith)
  key_stands (suc n) g h l = go (λ y. key_stands n g y (omega arith)) (dec_lt g n)
    where
      go : (g < n → get_or (keys_to ops counts n) g 0 ≡ key_at ops counts g) → Dec (g < n) → get_or (set (keys_to ops counts n) n (key_at ops counts n)) g 0 ≡ key_at ops counts g
      go rec (yes y) = get_or-set_other (keys_to ops counts n) n g (key_at ops counts n) 0 (λ z. omega arith) ∙ rec y
      go rec (no y) = let z : g ≡ n = omega arith in rw z (get_or-set_same (keys_to ops counts n) n (key_at ops counts n) 0 (omega (arith, keys_long n)))

-- each gate's key is the key of its operand list
pub key_of_gate : (n : Netlist) → WellFlat n → (g : ℕ) → g < n.gates → get_or (keys_in n) g 0 ≡ key_of (gate_in n.ops n.counts g)
unfolding keys_in key_at gate_in
key_of_gate n w g h =
    let m : min n.gates 512 ≡ n.gates = omega (arith, w.gates_most) in
    let k : min (get_or n.counts g 0) 4 ≡ get_or n.counts g 0 = omega (arith, w.few g h) in
    rw m (key_stands n.ops n.counts n.gates g h w.gates_most ∙ rw k)
