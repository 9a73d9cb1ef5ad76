-- What the first line answers, by the rule for a sequence's head.
use Prim.Native.Nat.{ℕ, ◌+◌, ◌-◌, ◌/◌}
use native.Mathlib.Omega.{arith}
use mathlib.Core.Path.{◌≡◌, refl, sym}
use mathlib.Core.Bool.{Bool, true, false, ◌&&◌}
use mathlib.Core.List.{List, [], ◌∷◌}
use mathlib.Core.Option.{none, some}
use lib.Dec.{ltb, leb}
use borrow.Author.Tests.{eq-eqb, ne_eqb}
use Rattle.rules.specs.declared.Refusal.{Refusal}
use Rattle.rules.specs.Basics.{pick}
use Rattle.rules.specs.Form.{form01, one, two}
use Rattle.rules.specs.Refusals.{good, refused, ◌>>=◌, ◌>>◌, require, or_refuse, number_of}
use Rattle.rules.specs.Lines.{fields, also}
use Rattle.rules.specs.Netlist.{due}
use Rattle.rules.specs.Sequence.{SequenceHead, sequence_head_of}
use Rattle.lines.specs.Line.{line_at, byte_at, word_at, bytes_from}
use Rattle.lines.proofs.Meaning.{frame_fits}
use Rattle.std.specs.Prelude.{Ok, Err}
use Rattle.row.specs.Answers.{head_answer, numbers_fit}
use Rattle.row.proofs.Judging.{length-bytes}
use Rattle.row.proofs.Framed.{kind_first, widths, fields_none}

-- five requirements with one number are one
all_required : {A : Type 0} (a b c d e : Bool) (x : A)
    → (require a 3 >> (require b 3 >> (require c 3 >> (require d 3 >> (require e 3 >> good x))))) ≡ pick (a && (b && (c && (d && e)))) (good x) (refused 3)
unfolding require ◌>>◌ pick
all_required false b c d e x = refl
all_required true false c d e x = refl
all_required true true false d e x = refl
all_required true true true false e x = refl
all_required true true true true false x = refl
all_required true true true true true x = refl

pub head_refused : (text : List ℕ) (r : Refusal) → Err r ≡ line_at text 0 → refused (number_of r) ≡ head_answer text
unfolding head_answer ◌>>=◌
head_refused text r e = rw (← e)

module _ (text : List ℕ) (n k : ℕ) (e : Ok n ≡ line_at text 0) (kind : k ≡ byte_at text 0) where
  framed : head_answer text ≡ sequence_head_of form01 (k ∷ bytes_from text 2 (n / 2 - 1))
  unfolding head_answer ◌>>=◌
  framed = rw (← e, kind_first text 0 n (frame_fits text 0 n (sym e)), kind)

  pub head_other : (k ≡ 17 → ⊥) → refused 2 ≡ head_answer text
  unfolding sequence_head_of form01 due pick ◌>>=◌
  head_other h = rw (framed, ne_eqb k 17 h)

  module _ (is : k ≡ 17) where
    pub head_length : (n ≡ 12 → ⊥) → refused 2 ≡ head_answer text
    unfolding sequence_head_of form01 due pick ◌>>=◌ or_refuse widths
    head_length h =
        let f = frame_fits text 0 n (sym e) in
        let z : fields (one ∷ one ∷ one ∷ two ∷ []) (bytes_from text 2 (n / 2 - 1)) ≡ none =
        fields_none (one ∷ one ∷ one ∷ two ∷ []) (bytes_from text 2 (n / 2 - 1)) (λ q. h (omega (arith, f.even, f.least, length-bytes text 2 (n / 2 - 1), q))) in
        rw (framed, eq-eqb k 17 is, z)

    module _ (twelve : n ≡ 12) (r i o m : ℕ) (row : r ≡ byte_at text 2) (inputs : i ≡ byte_at text 4) (outputs : o ≡ byte_at text 6) (instructions : m ≡ word_at text 8) where
      numbers : fields (one ∷ one ∷ one ∷ two ∷ []) (bytes_from text 2 (n / 2 - 1)) ≡ some (r ∷ i ∷ o ∷ m ∷ [])
      unfolding fields also bytes_from word_at
      numbers = rw (twelve, row, inputs, outputs, instructions)

      abbrev found : SequenceHead
      found = record { row = r + 1; inputs = i; outputs = o; instructions = m }

      judged : head_answer text ≡ pick (numbers_fit found) (good found) (refused 3)
      unfolding sequence_head_of form01 due pick or_refuse ◌>>=◌
      judged =
          rw (framed, eq-eqb k 17 is, numbers)
          (all_required (leb 2 (r + 1) && leb (r + 1) 256) (leb 1 i && leb i 64) (leb 1 o && leb o 64) (leb 1 m && leb m 1024) (ltb i (r + 1)) found)

      pub head_unfit : numbers_fit found ≡ false → refused 3 ≡ head_answer text
      unfolding pick
      head_unfit h = rw (judged, h)

      pub head_good : numbers_fit found ≡ true → good found ≡ head_answer text
      unfolding pick
      head_good h = rw (judged, h)
