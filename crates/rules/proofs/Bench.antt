-- Document 01, "Bench sheet": P1 to P12 as one table, proved by computing. Texts are written as the document prints them.
-- Assumes nothing.
use Rattle.std.proofs.Common.{ℕ, ◌≡◌, refl, List, [], ◌∷◌, ◌++◌, length, drop, get_or, replicate}
use Rattle.rules.specs.Form.{form01}
use Rattle.rules.specs.Refusals.{Res, good, refused, ◌>>=◌}
use Rattle.rules.specs.Netlist.{Netlist, netlist_of}
use Rattle.rules.specs.Sequence.{sequence_of}
use Rattle.rules.specs.Weight.{weights}
use Rattle.rules.specs.Order.{order}
use Rattle.rules.specs.Mapping.{mapped}
use Rattle.rules.specs.Calls.{Outcome, map_outcome, evaluate_outcome, check_outcome, simulate_outcome, rowmap_output, rowcheck_output}
use Rattle.rules.specs.Texts.{chars, xor_job, xor_netlist, xor_sequence}

-- the exclusive or as a netlist: inputs 0 and 1, gates 2 to 6, output 6
unfoldable pub xor : Netlist
xor = record {
  inputs = 2;
  gates = (0 ∷ 1 ∷ []) ∷ (0 ∷ 2 ∷ []) ∷ (1 ∷ 2 ∷ []) ∷ (3 ∷ 4 ∷ []) ∷ (5 ∷ []) ∷ [];
  outputs = 6 ∷ [];
}

-- an answer with the bytes of the buffer or the row after it
abbrev pub gives : ℕ → List ℕ → Outcome
gives n lent = record { answer = good n; lent = lent }

-- how many instructions the mapping for a row has
unfoldable pub instructions : ℕ → Res ℕ
instructions row = mapped xor row >>= λ S. good (length S.instructions)

unfoldable pub without_set : List ℕ
without_set = chars "110402010007\n12020304\n13020001\n13030002\n13040102\n13020304\n120304\n130302\n1403\n"

unfoldable pub wrong_place : List ℕ
wrong_place = chars "110402010008\n12020304\n13020001\n13030002\n13040102\n1202\n13020304\n120304\n130302\n1402\n"

pub record BenchSheet : Type 0 where
  -- values for inputs 00, 01, 10, 11: 0, 1, 1, 0
  pub p1 : (evaluate_outcome xor_netlist (0 ∷ 0 ∷ []) (9 ∷ 9 ∷ []) ≡ gives 1 (0 ∷ 9 ∷ []))
      × (evaluate_outcome xor_netlist (0 ∷ 1 ∷ []) (9 ∷ 9 ∷ []) ≡ gives 1 (1 ∷ 9 ∷ []))
      × (evaluate_outcome xor_netlist (1 ∷ 0 ∷ []) (9 ∷ 9 ∷ []) ≡ gives 1 (1 ∷ 9 ∷ []))
      × (evaluate_outcome xor_netlist (1 ∷ 1 ∷ []) (9 ∷ 9 ∷ []) ≡ gives 1 (0 ∷ 9 ∷ []))
  -- weights of 2 to 6: 1, 1, 1, 2, 2
  pub p2 : (netlist_of form01 xor_netlist ≡ good xor) × (drop 2 (weights xor) ≡ 1 ∷ 1 ∷ 1 ∷ 2 ∷ 2 ∷ [])
  -- order 2, 3, 4, 5, 6
  pub p3 : order xor ≡ 2 ∷ 3 ∷ 4 ∷ 5 ∷ 6 ∷ []
  -- the text above
  pub p4 : (rowmap_output xor_job ≡ xor_sequence) × (map_outcome 5 xor_netlist (replicate 83 7) ≡ gives 82 (xor_sequence ++ (7 ∷ [])))
      × (rowcheck_output (xor_netlist ++ xor_sequence) ≡ chars "1E0008\n")
  -- row 4: 9
  pub p5 : rowmap_output (chars "0F03\n" ++ xor_netlist) ≡ chars "1F09\n"
  -- row 6: 7 instructions; row 7: 6
  pub p6 : (instructions 6 ≡ good 7) × (instructions 7 ≡ good 6)
  -- row 1 0 0 0 0, budget 9, ends 1 0 0 1 1, 8 run
  pub p7 : simulate_outcome xor_sequence (1 ∷ 0 ∷ 0 ∷ 0 ∷ 0 ∷ []) 9 ≡ gives 8 (1 ∷ 0 ∷ 0 ∷ 1 ∷ 1 ∷ [])
  -- the same with budget 4: 1 0 0 0 1
  pub p8 : simulate_outcome xor_sequence (1 ∷ 0 ∷ 0 ∷ 0 ∷ 0 ∷ []) 4 ≡ gives 4 (1 ∷ 0 ∷ 0 ∷ 0 ∷ 1 ∷ [])
  -- without line 1202 and with count 7 the checker says 14; row 1 1 0 0 0 ends with cell 3 at 1, wrong
  pub p9 : (check_outcome xor_netlist without_set ≡ refused 14) × (get_or (simulate_outcome without_set (1 ∷ 1 ∷ 0 ∷ 0 ∷ 0 ∷ []) 7).lent 3 0 ≡ 1)
      × (get_or (simulate_outcome xor_sequence (1 ∷ 1 ∷ 0 ∷ 0 ∷ 0 ∷ []) 8).lent 3 1 ≡ 0)
  -- with 1402 last: 16
  pub p10 : check_outcome xor_netlist wrong_place ≡ refused 16
  -- one input, one NOT (0101000101, 020000, 030001), row 2: 110101010002, 1201, 130100, 1401
  pub p11 : rowmap_output (chars "0F01\n0101000101\n020000\n030001\n") ≡ chars "110101010002\n1201\n130100\n1401\n"
  -- empty text: 2
  pub p12 : (netlist_of form01 [] ≡ refused 2) × (sequence_of form01 [] ≡ refused 2) × (rowmap_output [] ≡ chars "1F02\n")
      × (rowcheck_output [] ≡ chars "1F02\n")

pub bench : BenchSheet
unfolding xor instructions without_set wrong_place chars xor_job xor_netlist xor_sequence form01 netlist_of sequence_of weights order mapped
    evaluate_outcome map_outcome check_outcome simulate_outcome rowmap_output rowcheck_output ◌>>=◌
bench = record {
  p1 = (refl, refl, refl, refl);
  p2 = (refl, refl);
  p3 = refl;
  p4 = (refl, refl, refl);
  p5 = refl;
  p6 = (refl, refl);
  p7 = refl;
  p8 = refl;
  p9 = (refl, refl, refl);
  p10 = refl;
  p11 = refl;
  p12 = (refl, refl, refl, refl);
}
