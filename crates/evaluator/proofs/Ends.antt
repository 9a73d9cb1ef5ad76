-- How evaluating ends: the netlist's refusal, 17, 10, or the outputs in the buffer's first bytes.
use Prim.Native.Nat.{ℕ, ◌+◌, ◌<◌, ◌≤◌}
use native.Mathlib.Omega.{arith}
use mathlib.Core.Path.{◌≡◌, refl, sym, ap, ◌∙◌}
use mathlib.Core.Bool.{true, false}
use mathlib.Core.List.{List, [], ◌∷◌, ◌++◌, map}
use lib.Dec.{eqb, leb}
use lib.ListN.{get_or, length, take, drop, length-map}
use lib.Seq.{sets, take-append_seam, get_or-take}
use borrow.Author.Tests.{lt-ltb, le-ltb, eqb-true}
use Rattle.std.specs.Prelude.{Ok, Err}
use Rattle.rules.specs.declared.Refusal.{Refusal}
use Rattle.rules.specs.declared.Refusal.TheVariants.{NotBits, ShortBuffer}
use Rattle.rules.specs.Basics.{pick, mem, all}
use Rattle.rules.specs.Form.{form01}
use Rattle.rules.specs.Refusals.{good, refused, ◌>>=◌, ◌>>◌, require, number_of}
use Rattle.rules.specs.Netlist.{netlist_of}
use Rattle.rules.specs.Values.{nor, table, values, output_values, are_bits}
use Rattle.rules.specs.Calls.{outcome_of, delivered, evaluated, evaluate_outcome}
use Rattle.rules.proofs.Laws.{and_true, cons_self, cons_more}
use Rattle.rules.proofs.Lists.{sets_front}
use Rattle.netlist.specs.declared.Netlist.{Netlist}
use Rattle.netlist.specs.Flat.{from, gates_in, netlist_in}
use Rattle.netlist.specs.Well.{WellFlat}
use Rattle.netlist.proofs.Arrays.{length_from, from_mem}
use Rattle.netlist.proofs.FlatWell.{read_flat}
use Rattle.evaluator.specs.Values.{values_at}

-- ---- lists

map-agree : (f g : ℕ → ℕ) (l : List ℕ) → ((x : ℕ) → mem x l ≡ true → f x ≡ g x) → map f l ≡ map g l
map-agree f g [] h = refl
map-agree f g (x ∷ l) h = rw (h x (cons_self x l), map-agree f g l (λ y e. h y (cons_more y x l e)))

pub bits_long : (n : ℕ) (inputs : List ℕ) → are_bits n inputs ≡ true → length inputs ≡ n
unfolding are_bits
bits_long n inputs bits = eqb-true (length inputs) n (and_true (eqb (length inputs) n) (all (λ b. leb b 1) inputs) bits).0

-- ---- refusals

module _ (text inputs out : List ℕ) where
  pub not_read : (r : Refusal) → refused (number_of r) ≡ netlist_of form01 text → outcome_of (Err r) out ≡ evaluate_outcome text inputs out
  unfolding evaluate_outcome evaluated delivered ◌>>=◌
  not_read r e = rw (← e)

  module _ (n : Netlist) (e : good (netlist_in n) ≡ netlist_of form01 text) where
    well : WellFlat n
    well = read_flat text n e

    outputs_long : length (output_values (netlist_in n) inputs) ≡ n.outputs
    unfolding output_values netlist_in
    outputs_long = length-map (from n.outs 0 n.outputs) (λ o. get_or (values (netlist_in n) inputs) o 0) ∙ length_from n.outs 0 n.outputs

    pub not_bits : are_bits n.inputs inputs ≡ false → outcome_of (Err NotBits) out ≡ evaluate_outcome text inputs out
    unfolding evaluate_outcome evaluated delivered netlist_in ◌>>=◌ ◌>>◌ require
    not_bits h = rw (← e, h)

    module _ (bits : are_bits n.inputs inputs ≡ true) where
      worked : evaluated text inputs ≡ good (output_values (netlist_in n) inputs)
      unfolding evaluated netlist_in ◌>>=◌ ◌>>◌ require
      worked = rw (← e, bits)

      pub no_room : length out < n.outputs → outcome_of (Err ShortBuffer) out ≡ evaluate_outcome text inputs out
      unfolding evaluate_outcome delivered pick
      no_room h = rw (worked, outputs_long, lt-ltb (length out) n.outputs h)

      given : n.outputs ≤ length out
          → record { answer = good n.outputs; lent = output_values (netlist_in n) inputs ++ drop n.outputs out } ≡ evaluate_outcome text inputs out
      unfolding evaluate_outcome delivered pick
      given h = rw (worked, outputs_long, le-ltb (length out) n.outputs h)

      module _ (rest v₁ v₂ os after : List ℕ) (e₁ : v₁ ≡ inputs ++ rest)
          (e₂ : take (n.inputs + n.gates) v₂ ≡ table nor (take n.inputs v₁) (gates_in n.ops n.counts n.gates))
          (e₃ : os ≡ from n.outs 0 n.outputs) (e₄ : after ≡ sets out 0 (map (values_at v₂) os)) where
        values_are : take (n.inputs + n.gates) v₂ ≡ values (netlist_in n) inputs
        unfolding values netlist_in
        values_are =
            let z : take n.inputs v₁ ≡ inputs = rw (e₁, ← bits_long n.inputs inputs bits) (take-append_seam inputs rest) in
            e₂ ∙ rw z

        outputs_are : map (values_at v₂) os ≡ output_values (netlist_in n) inputs
        unfolding output_values netlist_in
        outputs_are = rw e₃ (map-agree (values_at v₂) (λ o. get_or (values (netlist_in n) inputs) o 0) (from n.outs 0 n.outputs) (λ o h.
            let q = from_mem n.outs 0 n.outputs o h in
            let k : 0 + q.0 ≡ q.0 = omega arith in
            let p : get_or n.outs q.0 0 ≡ o = ap (λ i. get_or n.outs i 0) (sym k) ∙ q.2 in
            let l : o < n.inputs + n.gates = omega (arith, well.outputs_low q.0 q.1, p) in
            rw (← values_are) (sym (get_or-take (n.inputs + n.gates) v₂ o 0 l))))

        pub handed : n.outputs ≤ length out → outcome_of (Ok n.outputs) after ≡ evaluate_outcome text inputs out
        handed h =
            let l : length (output_values (netlist_in n) inputs) ≤ length out = omega (arith, outputs_long) in
            let a : after ≡ output_values (netlist_in n) inputs ++ drop n.outputs out =
            e₄ ∙ rw outputs_are (sets_front (output_values (netlist_in n) inputs) out l ∙ rw outputs_long) in
            rw a (given h)
