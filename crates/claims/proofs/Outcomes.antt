-- The calls' outcomes where nothing is refused.
use Rattle.std.proofs.Common.{ℕ, ◌<◌, ◌≤◌, arith, ◌≡◌, ◌∙◌, true, List, ◌++◌, map, eqb, leb, eqb-true, eq-eqb, le-ltb, get_or, length, take, drop, length-take-le}
use lib.ListN.{length-map, get_or-append}
use Rattle.std.proofs.lemmas.List.Elements.{All-take}
use Rattle.std.proofs.lemmas.List.Sums.{AllPass-from_list_all, list_all-from_AllPass}
use Rattle.std.proofs.lemmas.Bool.{and_parts}
use Rattle.std.proofs.lemmas.List.{get_or-map}
use Rattle.rules.specs.Basics.{all}
use Rattle.rules.specs.Form.{form01}
use Rattle.rules.specs.Refusals.{good, ◌>>=◌, ◌>>◌, require}
use Rattle.rules.specs.Netlist.{Netlist, netlist_of}
use Rattle.rules.specs.Sequence.{Sequence, sequence_of}
use Rattle.rules.specs.Values.{values, output_values, are_bits}
use Rattle.rules.specs.Device.{run, cycles}
use Rattle.rules.specs.Calls.{delivered, evaluate_outcome, simulate_outcome}

-- ---- simulate

pub simulates : (text row : List ℕ) (budget : ℕ) (S : Sequence) → sequence_of form01 text ≡ good S → are_bits S.row row ≡ true
    → simulate_outcome text row budget ≡ record { answer = good (cycles budget S.instructions); lent = run budget S.instructions row }
unfolding simulate_outcome ◌>>=◌ ◌>>◌ require
simulates text row budget S e b = rw (e, b)

-- ---- evaluate

pub evaluates : (text ins out : List ℕ) (N : Netlist) → netlist_of form01 text ≡ good N → are_bits N.inputs ins ≡ true → length N.outputs ≤ length out
    → evaluate_outcome text ins out ≡ record { answer = good (length N.outputs); lent = output_values N ins ++ drop (length N.outputs) out }
unfolding evaluate_outcome ◌>>=◌ ◌>>◌ require
evaluates text ins out N e b h = rw (e, b) (fills (output_values N ins) count)
  where
    count : length (output_values N ins) ≡ length N.outputs
    count = length-map N.outputs _

    fills : (vs : List ℕ) → length vs ≡ length N.outputs
        → delivered (good vs) out ≡ record { answer = good (length N.outputs); lent = vs ++ drop (length N.outputs) out }
    fills vs l = rw (l, le-ltb (length out) (length N.outputs) h)

-- the first bytes of the buffer are the outputs' values
pub output_at : (N : Netlist) (ins rest : List ℕ) (k : ℕ) → k < length N.outputs
    → get_or (output_values N ins ++ rest) k 0 ≡ get_or (values N ins) (get_or N.outputs k 0) 0
unfolding output_values
output_at N ins rest k h =
    get_or-append (map (λ o. get_or (values N ins) o 0) N.outputs) rest 0 k (rw (length-map N.outputs (λ o. get_or (values N ins) o 0)) h)
    ∙ get_or-map (λ o. get_or (values N ins) o 0) N.outputs k 0 0 h

-- ---- bits

pub bits_length : (n : ℕ) (l : List ℕ) → are_bits n l ≡ true → length l ≡ n
unfolding are_bits
bits_length n l e = eqb-true (length l) n (and_parts (eqb (length l) n) (all (λ b. leb b 1) l) e).0

-- the first of a row's bits are bits
pub bits_take : (m n : ℕ) (l : List ℕ) → m ≤ n → are_bits n l ≡ true → are_bits m (take m l) ≡ true
unfolding are_bits
bits_take m n l h e =
    let (p, q) = and_parts (eqb (length l) n) (all (λ b. leb b 1) l) e in
    let len = eqb-true (length l) n p in
    rw (eq-eqb (length (take m l)) m (length-take-le m l (omega arith)), list_all-from_AllPass (λ b. leb b 1) (take m l) (All-take (λ b. leb b 1 ≡ true) m l (AllPass-from_list_all (λ b. leb b 1) l q)))
