-- The lines that were read, put together, are the sequence of document 01, or its refusal.
use Prim.Native.Nat.{ℕ, zero, suc, ◌+◌, ◌/◌}
use mathlib.Core.Path.{◌≡◌, refl, sym, ap, ◌∙◌}
use mathlib.Core.List.{List, [], ◌∷◌, ◌++◌, append_assoc, append-nil}
use lib.ListN.{drop}
use Rattle.std.specs.Prelude.{Result, Ok, Err}
use Rattle.rules.specs.declared.Refusal.{Refusal}
use Rattle.rules.specs.Form.{form01}
use Rattle.rules.specs.Refusals.{Res, good, refused, ◌>>=◌, ◌>>◌, number_of}
use Rattle.rules.specs.Lines.{nothing}
use Rattle.rules.specs.Netlist.{Part, lines}
use Rattle.rules.specs.Sequence as rules
use Rattle.rules.specs.Sequence.{SequenceHead, sequence_head_of, instruction_of, place_of, sequence_of}
use Rattle.rules.proofs.Laws.{no_way}
use Rattle.lines.specs.Line.{line_at, ends_at, byte_at, bytes_from}
use Rattle.lines.proofs.Meaning.{line_is, line_not, ends_good, ends_refused}
use Rattle.row.specs.Answers.{line_answer, lines_answer, head_answer}
use Rattle.row.specs.Decoded.{instruction_at, next_at, each_line, instructions_at, places_at, sequence_at}
use Rattle.row.proofs.Saying.{next_said, instruction_said, place_said}

-- ---- lines one after another: by their rule, and by what stands there

module _ {A : Type 0} (text : List ℕ) where
  -- what was read up to a place, or the refusal
  part_from : Res ℕ → List A → Res (Part (List A))
  part_from (good end) got = good (record { got = got; tail = drop end text })
  part_from (refused r) got = refused r

  module _ (rule : List ℕ → Res A) (said : ℕ → A) (next : ℕ → ℕ)
      (right : (at n : ℕ) → line_at text at ≡ Ok n → (a : A) → rule (bytes_from text at (n / 2)) ≡ good a → (a ≡ said at) × (at + n + 1 ≡ next at)) where
    abbrev line : ℕ → Res ℕ
    line at = line_answer rule text at

    lines_are : (k at own : ℕ) (sofar : List A)
        → lines form01 (λ _. rule) k own sofar (drop at text) ≡ part_from (lines_answer line at k) (sofar ++ each_line said next at k)
    unfolding lines lines_answer each_line part_from line_answer ◌>>=◌ ◌>>◌
    lines_are zero at own sofar = rw (append-nil sofar)
    lines_are (suc k) at own sofar = go (line_at text at) refl (λ p a. lines_are k p (suc own) (sofar ++ (a ∷ [])))
      where
        Again : Type 0
        Again = (p : ℕ) (a : A) → lines form01 (λ _. rule) k (suc own) (sofar ++ (a ∷ [])) (drop p text)
            ≡ part_from (lines_answer line p k) ((sofar ++ (a ∷ [])) ++ each_line said next p k)

        ruled : (n : ℕ) → line_at text at ≡ Ok n → (r : Res A) → rule (bytes_from text at (n / 2)) ≡ r → Again
            → (r >>= (λ a. lines form01 (λ _. rule) k (suc own) (sofar ++ (a ∷ [])) (drop (at + n + 1) text)))
            ≡ part_from ((r >> good (at + n + 1)) >>= (λ p. lines_answer line p k)) (sofar ++ (said at ∷ each_line said next (next at) k))
        ruled n q (good a) p again =
            let e = right at n q a p in
            again (at + n + 1) a ∙ ap (part_from (lines_answer line (at + n + 1) k)) (append_assoc sofar (a ∷ []) _ ∙ rw (e.0, e.1))
        ruled n q (refused r) p again = refl

        go : (l : Result ℕ Refusal) → line_at text at ≡ l → Again
            → lines form01 (λ _. rule) (suc k) own sofar (drop at text) ≡ part_from (lines_answer line at (suc k)) (sofar ++ (said at ∷ each_line said next (next at) k))
        go (Ok n) q again = rw (line_is text at n q, q) (ruled n q (rule (bytes_from text at (n / 2))) refl again)
        go (Err r) q again = rw (line_not text at r q, q)

-- ---- the sequence

-- what is read after the head
continued : SequenceHead → List ℕ → Res rules.Sequence
continued h tail = do
  is ← lines form01 (λ _. instruction_of form01 h.row) h.instructions 0 [] tail
  ps ← lines form01 (λ _. place_of form01 h.row) h.outputs 0 [] is.tail
  nothing form01 ps.tail
  good (record { row = h.row; inputs = h.inputs; outputs = h.outputs; instructions = is.got; places = ps.got })

module _ (text : List ℕ) where
  pub head_ends : (r : ℕ) → refused r ≡ head_answer text → refused r ≡ sequence_of form01 text
  unfolding head_answer sequence_of ◌>>=◌
  head_ends r e = go (line_at text 0) refl e
    where
      ruled : (n : ℕ) (s : Res SequenceHead) → line_at text 0 ≡ Ok n → sequence_head_of form01 (bytes_from text 0 (n / 2)) ≡ s → refused r ≡ s → refused r ≡ sequence_of form01 text
      ruled n (good h) q p f = absurd (no_way (cc))
      ruled n (refused m) q p f = let z : r ≡ m = cc in rw (line_is text 0 n q, p, z)

      go : (l : Result ℕ Refusal) → line_at text 0 ≡ l → refused r ≡ head_answer text → refused r ≡ sequence_of form01 text
      go (Ok n) q f = ruled n (sequence_head_of form01 (bytes_from text 0 (n / 2))) q refl (rw q at f)
      go (Err m) q f = let z : ◌≡◌ {A = Res SequenceHead} (refused r) (refused (number_of m)) = rw q at f in rw (line_not text 0 m q) (cc)

  module _ (h : SequenceHead) (e : good h ≡ head_answer text) (long : line_at text 0 ≡ Ok 12) where
    after_head : sequence_of form01 text ≡ continued h (drop 13 text)
    unfolding head_answer sequence_of continued ◌>>=◌
    after_head = let z : good h ≡ sequence_head_of form01 (bytes_from text 0 6) = rw long at e in rw (line_is text 0 12 long, ← z)

    abbrev pub instructions_read : Res ℕ
    instructions_read = lines_answer (λ at. line_answer (instruction_of form01 h.row) text at) 13 h.instructions

    read_instructions : (r : Res ℕ) → r ≡ instructions_read
        → lines form01 (λ _. instruction_of form01 h.row) h.instructions 0 [] (drop 13 text) ≡ part_from text r (instructions_at text 13 h.instructions)
    unfolding instructions_at
    read_instructions r f =
        rw f (lines_are text (instruction_of form01 h.row) (instruction_at text) (next_at text)
        (λ at n q a g. (instruction_said h.row text at n q a g, next_said text at n q)) h.instructions 13 0 [])

    pub instructions_end : (r : ℕ) → refused r ≡ instructions_read → refused r ≡ sequence_of form01 text
    unfolding continued part_from ◌>>=◌
    instructions_end r f = rw (after_head, read_instructions (refused r) f)

    module _ (places : ℕ) (f : good places ≡ instructions_read) where
      abbrev pub places_read : Res ℕ
      places_read = lines_answer (λ at. line_answer (place_of form01 h.row) text at) places h.outputs

      read_places : (r : Res ℕ) → r ≡ places_read → lines form01 (λ _. place_of form01 h.row) h.outputs 0 [] (drop places text) ≡ part_from text r (places_at text places h.outputs)
      unfolding places_at
      read_places r g =
          rw g (lines_are text (place_of form01 h.row) (λ at. byte_at text (at + 2)) (λ at. at + 5) (λ at n q. place_said h.row text at n q) h.outputs places 0 [])

      pub places_end : (r : ℕ) → refused r ≡ places_read → refused r ≡ sequence_of form01 text
      unfolding continued part_from ◌>>=◌
      places_end r g = rw (after_head, read_instructions (good places) f, read_places (refused r) g)

      module _ (end : ℕ) (g : good end ≡ places_read) where
        pub text_goes_on : (r : Refusal) → Err r ≡ ends_at text end → refused (number_of r) ≡ sequence_of form01 text
        unfolding continued part_from ◌>>=◌ ◌>>◌
        text_goes_on r k = rw (after_head, read_instructions (good places) f, read_places (good end) g, ends_refused text end r (sym k))

        pub read_whole : Ok tt ≡ ends_at text end
            → good (sequence_at text (record { row = h.row; inputs = h.inputs; outputs = h.outputs; instructions = h.instructions; code = 13; places = places })) ≡ sequence_of form01 text
        unfolding continued part_from ◌>>=◌ ◌>>◌
        read_whole k = rw (after_head, read_instructions (good places) f, read_places (good end) g, ends_good text end (sym k))
