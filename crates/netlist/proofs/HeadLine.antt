-- The line of a netlist's head: its kind, its length, then its numbers.
use Prim.Native.Nat.{ℕ, zero, suc, ◌-◌, ◌/◌}
use native.Mathlib.Omega.{arith}
use mathlib.Core.Path.{◌≡◌, refl, sym, ◌∙◌}
use mathlib.Core.Bool.{Bool, true, false, ◌&&◌}
use mathlib.Core.List.{List, [], ◌∷◌}
use mathlib.Core.Option.{none}
use lib.ListN.{drop}
use borrow.Author.Tests.{eq-eqb, ne_eqb}
use Rattle.std.specs.Prelude.{Ok, Err}
use Rattle.rules.specs.declared.Refusal.{Refusal}
use Rattle.rules.specs.Basics.{pick, within}
use Rattle.rules.specs.Form.{form01, one, two}
use Rattle.rules.specs.Refusals.{good, refused, number_of, ◌>>=◌, ◌>>◌, require, or_refuse}
use Rattle.rules.specs.Lines.{fields, also}
use Rattle.rules.specs.Netlist as rules
use Rattle.rules.specs.Netlist.{due, head_of}
use Rattle.lines.specs.Line.{byte_at, word_at, bytes_from, line_at}
use Rattle.lines.proofs.Meaning.{frame_fits}
use Rattle.netlist.specs.declared.line.Head.{Head}
use Rattle.netlist.specs.Steps.{head_in, head_line}
use Rattle.netlist.proofs.OneLine.{frame_inside, by_line, by_none, by_refused, half}

-- the three numbers within their limits
abbrev pub in_limits : Head → Bool
in_limits h = within 1 64 h.inputs && within 1 512 h.gates && within 1 64 h.outputs

-- one number after the other, or all at once
at_once : (t u v : Bool) (h : rules.Head) → (require t 3 >> (require u 3 >> (require v 3 >> good h))) ≡ (require (t && u && v) 3 >> good h)
unfolding require ◌>>◌
at_once true true v h = refl
at_once true false v h = refl
at_once false u v h = refl

module _ (text : List ℕ) where
  pub head_none : (r : Refusal) → line_at text 0 ≡ Err r → refused (number_of r) ≡ head_line text
  head_none r e = sym (by_none (head_of form01) text 0 r e)

  module _ (n : ℕ) (e : line_at text 0 ≡ Ok n) where
    pub head_kind : (byte_at text 0 ≡ 1 → ⊥) → refused 2 ≡ head_line text
    unfolding head_of bytes_from due form01 pick ◌>>=◌
    head_kind h = by_refused (head_of form01) text 0 n 2 e (rw (half text 0 n e, ne_eqb (byte_at text 0) 1 h))

    module _ (kind : byte_at text 0 ≡ 1) where
      -- four bytes after the kind, or none of the fields fit
      fields_not : (k : ℕ) (at : ℕ) → (k ≡ 4 → ⊥) → fields (one ∷ two ∷ one ∷ []) (bytes_from text at k) ≡ none
      unfolding fields bytes_from also
      fields_not zero at h = refl
      fields_not (suc zero) at h = refl
      fields_not (suc (suc zero)) at h = refl
      fields_not (suc (suc (suc zero))) at h = refl
      fields_not (suc (suc (suc (suc zero)))) at h = absurd (h refl)
      fields_not (suc (suc (suc (suc (suc k))))) at h = refl

      pub head_long : (n ≡ 10 → ⊥) → refused 2 ≡ head_line text
      unfolding head_of bytes_from due form01 pick ◌>>=◌ or_refuse
      head_long h =
          let f = frame_fits text 0 n e in
          by_refused (head_of form01) text 0 n 2 e (rw (half text 0 n e, eq-eqb (byte_at text 0) 1 kind, fields_not (n / 2 - 1) 2 (λ z. h (omega (arith, f.even, f.least)))))

      module _ (ten : n ≡ 10) (i g o : ℕ) (a : i ≡ byte_at text 2) (b : g ≡ word_at text 4) (c : o ≡ byte_at text 8) where
        abbrev head : Head
        head = record { inputs = i; gates = g; outputs = o }

        named_head : head_of form01 (bytes_from text 0 (n / 2)) ≡ (require (in_limits head) 3 >> good (head_in head))
        unfolding head_of bytes_from due form01 pick ◌>>=◌ or_refuse fields also word_at
        named_head = rw (ten, a, b, c, eq-eqb (byte_at text 0) 1 kind) (at_once (within 1 64 (byte_at text 2)) (within 1 512 (word_at text 4)) (within 1 64 (byte_at text 8)) _)

        pub head_outside : false ≡ in_limits head → refused 3 ≡ head_line text
        unfolding ◌>>◌ require
        head_outside z = by_refused (head_of form01) text 0 n 3 e (named_head ∙ rw (← z))

        pub head_good : true ≡ in_limits head → good (record { got = head_in head; tail = drop 11 text }) ≡ head_line text
        unfolding ◌>>=◌ ◌>>◌ require
        head_good z =
            let named : head_of form01 (bytes_from text 0 (n / 2)) ≡ good (head_in head) = named_head ∙ rw (← z) in
            sym (by_line (head_of form01) text 0 n e ∙ rw (named, ten))

-- what `read_head` is proved by
pub ruleset head_rules = (head_none, head_kind, head_long, head_outside, head_good, frame_inside)
