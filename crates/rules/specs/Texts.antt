-- Texts written as document 01 prints them.
-- Assumes nothing.
use Rattle.std.specs.Prelude.{ℕ, List, [], ◌∷◌}
use Prim.Native.String.{String}
use Prim.Native.Char.{code}

-- the bytes of a printed text
unfoldable pub chars : String → List ℕ
chars String.[] = []
chars (String.◌∷◌ c s) = code c ∷ chars s

-- Whole case, row of 5, exclusive or of two inputs.
unfoldable pub xor_job : List ℕ
unfolding chars
xor_job = chars "0F04\n0102000501\n0200000001\n0200000002\n0200010002\n0200030004\n020005\n030006\n"

unfoldable pub xor_netlist : List ℕ
unfolding chars
xor_netlist = chars "0102000501\n0200000001\n0200000002\n0200010002\n0200030004\n020005\n030006\n"

-- Printed:
unfoldable pub xor_sequence : List ℕ
unfolding chars
xor_sequence = chars "110402010008\n12020304\n13020001\n13030002\n13040102\n1202\n13020304\n120304\n130302\n1403\n"
