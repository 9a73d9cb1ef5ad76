-- What the line at a place answers, by the rule for its kind.
use Prim.Native.Nat.{ℕ, suc, ◌+◌, ◌-◌, ◌/◌, ◌<◌, ◌≤◌}
use native.Mathlib.Omega.{arith}
use mathlib.Core.Path.{◌≡◌, refl, sym, ap}
use mathlib.Core.List.{List, [], ◌∷◌}
use mathlib.Core.Option.{none}
use lib.ListN.{length}
use borrow.Author.Tests.{eq-eqb, ne_eqb, lt-ltb, le-ltb}
use Rattle.std.specs.Prelude.{Ok, Err}
use Rattle.rules.specs.declared.Refusal.{Refusal}
use Rattle.rules.specs.Basics.{pick}
use Rattle.rules.specs.Form.{form01, Width, one, two}
use Rattle.rules.specs.Refusals.{Res, good, refused, ◌>>=◌, ◌>>◌, require, or_refuse, number_of}
use Rattle.rules.specs.Lines.{fields, also}
use Rattle.rules.specs.Netlist.{due}
use Rattle.rules.specs.Sequence.{set_of, nor_of, instruction_of, place_of}
use Rattle.rules.proofs.Laws.{no_way}
use Rattle.lines.specs.Line.{line_at, byte_at, bytes_from}
use Rattle.lines.proofs.Meaning.{Fits, frame_fits}
use Rattle.row.specs.Answers.{passed, line_answer}
use Rattle.row.proofs.Judging.{length-bytes}

-- ---- fields of the wrong number

unfoldable pub widths : List Width → ℕ
widths [] = 0
widths (one ∷ ws) = suc (widths ws)
widths (two ∷ ws) = suc (suc (widths ws))

pub fields_none : (ws : List Width) (l : List ℕ) → (length l ≡ widths ws → ⊥) → fields ws l ≡ none
unfolding fields also widths
fields_none [] [] h = absurd (h refl)
fields_none [] (a ∷ l) h = refl
fields_none (one ∷ ws) [] h = refl
fields_none (one ∷ ws) (a ∷ l) h = rw (fields_none ws l (λ e. h (ap suc e)))
fields_none (two ∷ ws) [] h = refl
fields_none (two ∷ ws) (a ∷ []) h = refl
fields_none (two ∷ ws) (a ∷ b ∷ l) h = rw (fields_none ws l (λ e. h (ap (λ x. suc (suc x)) e)))

-- ---- a line that is a frame: its kind, then the bytes after it

pub line_inside : (text : List ℕ) (at n : ℕ) → Ok n ≡ line_at text at → at + n < length text
line_inside text at n e = (frame_fits text at n (sym e)).inside

pub line_least : (text : List ℕ) (at n : ℕ) → Ok n ≡ line_at text at → 2 ≤ n
line_least text at n e = (frame_fits text at n (sym e)).least

pub kind_first : (text : List ℕ) (at n : ℕ) → Fits text at n → bytes_from text at (n / 2) ≡ byte_at text at ∷ bytes_from text (at + 2) (n / 2 - 1)
unfolding bytes_from
kind_first text at n f = let h : n / 2 ≡ suc (n / 2 - 1) = omega (arith, f.least) in ap (bytes_from text at) h

module _ {A : Type 0} (rule : List ℕ → Res A) (text : List ℕ) (at : ℕ) where
  pub line_refused : (r : Refusal) → Err r ≡ line_at text at → refused (number_of r) ≡ line_answer rule text at
  unfolding line_answer ◌>>=◌
  line_refused r e = rw (← e)

  module _ (n : ℕ) (e : line_at text at ≡ Ok n) where
    framed : line_answer rule text at ≡ (rule (byte_at text at ∷ bytes_from text (at + 2) (n / 2 - 1)) >> good (at + n + 1))
    unfolding line_answer ◌>>=◌
    framed = rw (e, kind_first text at n (frame_fits text at n e))

-- ---- instructions and places

-- a rule's refusal is the line's, and what it gives leads to the next line
module _ {A : Type 0} (r : Res A) (next : ℕ) where
  rule_refused : (m : ℕ) → refused m ≡ passed r → refused m ≡ (r >> good next)
  unfolding ◌>>◌
  rule_refused m e = go r e
    where
      go : (r : Res A) → refused m ≡ passed r → refused m ≡ (r >> good next)
      go (good a) f = absurd (no_way (cc))
      go (refused n) f = cc

  rule_good : good tt ≡ passed r → good next ≡ (r >> good next)
  unfolding ◌>>◌
  rule_good e = go r e
    where
      go : (r : Res A) → good tt ≡ passed r → good next ≡ (r >> good next)
      go (good a) f = refl
      go (refused n) f = absurd (no_way (cc))

module _ (row : ℕ) (text : List ℕ) (at n k : ℕ) (e : Ok n ≡ line_at text at) (kind : k ≡ byte_at text at) where
  abbrev cells : List ℕ
  cells = bytes_from text (at + 2) (n / 2 - 1)

  is_set : k ≡ 18 → line_answer (instruction_of form01 row) text at ≡ (set_of form01 row cells >> good (at + n + 1))
  unfolding instruction_of form01 pick
  is_set h = rw (framed (instruction_of form01 row) text at n (sym e), ← kind, eq-eqb k 18 h)

  is_nor : (k ≡ 18 → ⊥) → k ≡ 19 → line_answer (instruction_of form01 row) text at ≡ (nor_of form01 row cells >> good (at + n + 1))
  unfolding instruction_of form01 pick
  is_nor g h = rw (framed (instruction_of form01 row) text at n (sym e), ← kind, ne_eqb k 18 g, eq-eqb k 19 h)

  pub set_refused : k ≡ 18 → (m : ℕ) → refused m ≡ passed (set_of form01 row cells) → refused m ≡ line_answer (instruction_of form01 row) text at
  set_refused h m f = rw (is_set h) (rule_refused (set_of form01 row cells) (at + n + 1) m f)

  pub set_good : k ≡ 18 → good tt ≡ passed (set_of form01 row cells) → good (at + n + 1) ≡ line_answer (instruction_of form01 row) text at
  set_good h f = rw (is_set h) (rule_good (set_of form01 row cells) (at + n + 1) f)

  pub nor_refused : (k ≡ 18 → ⊥) → k ≡ 19 → (m : ℕ) → refused m ≡ passed (nor_of form01 row cells) → refused m ≡ line_answer (instruction_of form01 row) text at
  nor_refused g h m f = rw (is_nor g h) (rule_refused (nor_of form01 row cells) (at + n + 1) m f)

  pub nor_good : (k ≡ 18 → ⊥) → k ≡ 19 → good tt ≡ passed (nor_of form01 row cells) → good (at + n + 1) ≡ line_answer (instruction_of form01 row) text at
  nor_good g h f = rw (is_nor g h) (rule_good (nor_of form01 row cells) (at + n + 1) f)

  pub instruction_other : (k ≡ 18 → ⊥) → (k ≡ 19 → ⊥) → refused 2 ≡ line_answer (instruction_of form01 row) text at
  unfolding instruction_of form01 pick ◌>>◌
  instruction_other g h = rw (framed (instruction_of form01 row) text at n (sym e), ← kind, ne_eqb k 18 g, ne_eqb k 19 h)

  pub place_other : (k ≡ 20 → ⊥) → refused 2 ≡ line_answer (place_of form01 row) text at
  unfolding place_of form01 due pick ◌>>=◌ ◌>>◌
  place_other h = rw (framed (place_of form01 row) text at n (sym e), ← kind, ne_eqb k 20 h)

  module _ (is : k ≡ 20) where
    pub place_length : (n ≡ 4 → ⊥) → refused 2 ≡ line_answer (place_of form01 row) text at
    unfolding place_of form01 due pick ◌>>=◌ ◌>>◌ or_refuse widths
    place_length h =
        let f = frame_fits text at n (sym e) in
        let none : fields (one ∷ []) cells ≡ none =
        fields_none (one ∷ []) cells (λ q. h (omega (arith, f.even, f.least, length-bytes text (at + 2) (n / 2 - 1), q))) in
        rw (framed (place_of form01 row) text at n (sym e), ← kind, eq-eqb k 20 is, none)

    module _ (four : n ≡ 4) (c : ℕ) (cell : c ≡ byte_at text (at + 2)) where
      one_cell : cells ≡ c ∷ []
      unfolding bytes_from
      one_cell = rw (four, cell)

      pub place_past : row ≤ c → refused 12 ≡ line_answer (place_of form01 row) text at
      unfolding place_of form01 due pick ◌>>=◌ ◌>>◌ require or_refuse fields also
      place_past h = rw (framed (place_of form01 row) text at n (sym e), ← kind, eq-eqb k 20 is, one_cell, le-ltb c row h)

      pub place_one : c < row → good (at + n + 1) ≡ line_answer (place_of form01 row) text at
      unfolding place_of form01 due pick ◌>>=◌ ◌>>◌ require or_refuse fields also
      place_one h = rw (framed (place_of form01 row) text at n (sym e), ← kind, eq-eqb k 20 is, one_cell, lt-ltb c row h)
