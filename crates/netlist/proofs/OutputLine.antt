-- The line of an output: its kind, its length, then whether it is a gate.
use Prim.Native.Nat.{ℕ, zero, suc, ◌+◌, ◌-◌, ◌/◌}
use native.Mathlib.Omega.{arith}
use mathlib.Core.Path.{◌≡◌, refl, sym, ◌∙◌}
use mathlib.Core.Bool.{true, false, ◌&&◌}
use mathlib.Core.List.{List, [], ◌∷◌}
use mathlib.Core.Option.{none}
use lib.Dec.{ltb, leb}
use lib.ListN.{drop}
use borrow.Author.Tests.{eq-eqb, ne_eqb}
use Rattle.std.specs.Prelude.{Ok, Err}
use Rattle.rules.specs.declared.Refusal.{Refusal}
use Rattle.rules.specs.Basics.{pick}
use Rattle.rules.specs.Form.{form01, two}
use Rattle.rules.specs.Refusals.{refused, number_of, good, ◌>>=◌, ◌>>◌, require, or_refuse}
use Rattle.rules.specs.Lines.{fields, also}
use Rattle.rules.specs.Netlist.{due, output_of}
use Rattle.lines.specs.Line.{byte_at, word_at, bytes_from, line_at}
use Rattle.lines.proofs.Laws.{word_small}
use Rattle.lines.proofs.Meaning.{frame_fits}
use Rattle.netlist.specs.declared.Netlist.{Netlist}
use Rattle.netlist.specs.Steps.{head_from, output_line}
use Rattle.netlist.proofs.OneLine.{frame_inside, by_line, by_none, by_refused, half}

module _ (text : List ℕ) (at : ℕ) (n : Netlist) where
  pub output_none : (r : Refusal) → line_at text at ≡ Err r → refused (number_of r) ≡ output_line text at n
  output_none r e = sym (by_none (output_of form01 (head_from n)) text at r e)

  module _ (d : ℕ) (e : line_at text at ≡ Ok d) where
    wrong : (k : ℕ) → output_of form01 (head_from n) (bytes_from text at (d / 2)) ≡ refused k → refused k ≡ output_line text at n
    wrong k f = by_refused (output_of form01 (head_from n)) text at d k e f

    pub output_other : (byte_at text at ≡ 3 → ⊥) → refused 2 ≡ output_line text at n
    unfolding output_of bytes_from due form01 pick ◌>>=◌
    output_other h = wrong 2 (rw (half text at d e, ne_eqb (byte_at text at) 3 h))

    module _ (kind : byte_at text at ≡ 3) where
      word_not : (k p : ℕ) → (k ≡ 2 → ⊥) → fields (two ∷ []) (bytes_from text p k) ≡ none
      unfolding fields bytes_from also
      word_not zero p h = refl
      word_not (suc zero) p h = refl
      word_not (suc (suc zero)) p h = absurd (h refl)
      word_not (suc (suc (suc k))) p h = refl

      pub output_long : (d ≡ 6 → ⊥) → refused 2 ≡ output_line text at n
      unfolding output_of bytes_from due form01 pick ◌>>=◌ or_refuse
      output_long h =
          let f = frame_fits text at d e in
          wrong 2 (rw (half text at d e, eq-eqb (byte_at text at) 3 kind, word_not (d / 2 - 1) (at + 2) (λ z. h (omega (arith, f.even, f.least)))))

      module _ (six : d ≡ 6) (s : ℕ) (is : s ≡ word_at text (at + 2)) where
        named_output : output_of form01 (head_from n) (bytes_from text at (d / 2)) ≡ (require (leb n.inputs s && ltb s (n.inputs + n.gates)) 4 >> good s)
        unfolding output_of bytes_from due form01 pick ◌>>=◌ or_refuse fields also word_at
        named_output = rw (six, is, eq-eqb (byte_at text at) 3 kind)

        pub output_outside : false ≡ (leb n.inputs s && ltb s (n.inputs + n.gates)) → refused 4 ≡ output_line text at n
        unfolding ◌>>◌ require
        output_outside h = wrong 4 (named_output ∙ rw (← h))

        pub output_good : true ≡ (leb n.inputs s && ltb s (n.inputs + n.gates)) → good (record { got = s; tail = drop (at + 7) text }) ≡ output_line text at n
        unfolding ◌>>=◌ ◌>>◌ require
        output_good h =
            let c : at + d + 1 ≡ at + 7 = omega (arith, six) in
            let g : output_of form01 (head_from n) (bytes_from text at (d / 2)) ≡ good s = named_output ∙ rw (← h) in
            sym (by_line (output_of form01 (head_from n)) text at d e ∙ rw (c, g))

-- what `read_output` is proved by
pub ruleset output_rules = (output_none, output_other, output_long, output_outside, output_good, frame_inside, word_small)
