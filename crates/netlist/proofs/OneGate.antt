-- The line of one gate: its operands, then 4, then 5.
use Prim.Native.Nat.{ℕ, ◌+◌, ◌*◌, ◌≤◌}
use native.Mathlib.Omega.{arith}
use mathlib.Core.Path.{◌≡◌, refl, sym, ap, ◌∙◌}
use mathlib.Core.Bool.{Bool, true, false}
use mathlib.Core.List.{List, ◌++◌}
use mathlib.Core.Option.{Option, none, some}
use lib.Dec.{ltb}
use lib.ListN.{length, take, drop}
use lib.Seq.{take-append_seam}
use Rattle.std.proofs.lemmas.List.{length-take-le}
use Rattle.rules.specs.Basics.{within, all, ascending}
use Rattle.rules.specs.Form.{form01, two}
use Rattle.rules.specs.Refusals.{Res, good, refused, ◌>>=◌, ◌>>◌, require, or_refuse}
use Rattle.rules.specs.Lines.{Line, line, numbers}
use Rattle.rules.specs.Netlist.{Part, due, gate_of}
use Rattle.lines.specs.Line.{words_from}
use Rattle.netlist.specs.Steps.{line_by, operands_in, operands_line, gate_line}
use Rattle.netlist.proofs.OneLine.{length-words}

-- what a line gives, and the text after it
abbrev part : {A : Type 0} → A → List ℕ → Res (Part A)
part a t = good (record { got = a; tail = t })

-- 4, then 5, of operands that were named
checks : ℕ → List ℕ → Res (List ℕ)
checks own os = require (all (λ o. ltb o own) os) 4 >> (require (ascending os) 5 >> good os)

gate_splits : (own : ℕ) (bytes : List ℕ) → gate_of form01 own bytes ≡ (operands_in bytes >>= checks own)
unfolding gate_of operands_in checks ◌>>=◌ ◌>>◌ form01
gate_splits own bytes = kind (due 2 bytes)
  where
    number : (l os : List ℕ) (t : Bool)
        → (require t 2 >> (require (all (λ o. ltb o own) os) 4 >> (require (ascending os) 5 >> good os)))
        ≡ ((require t 2 >> good os) >>= checks own)
    number l os true = refl
    number l os false = refl

    named : (l : List ℕ) (o : Option (List ℕ))
        → (or_refuse 2 o >>= λ os. require (within 1 4 (length os)) 2 >> (require (all (λ o. ltb o own) os) 4 >> (require (ascending os) 5 >> good os)))
        ≡ ((or_refuse 2 o >>= λ os. require (within 1 4 (length os)) 2 >> good os) >>= checks own)
    named l none = refl
    named l (some os) = number l os (within 1 4 (length os))

    kind : (r : Res (List ℕ))
        → (r >>= λ l. or_refuse 2 (numbers two l) >>= λ os. require (within 1 4 (length os)) 2 >> (require (all (λ o. ltb o own) os) 4 >> (require (ascending os) 5 >> good os)))
        ≡ ((r >>= λ l. or_refuse 2 (numbers two l) >>= λ os. require (within 1 4 (length os)) 2 >> good os) >>= checks own)
    kind (good l) = named l (numbers two l)
    kind (refused r) = refl

-- a line by a rule in two parts
line_splits : {A B : Type 0} (f : List ℕ → Res A) (g : A → Res B) (rule : List ℕ → Res B) → ((bytes : List ℕ) → rule bytes ≡ (f bytes >>= g)) → (text : List ℕ)
    → line_by rule text ≡ (line_by f text >>= λ p. g p.got >>= λ b. part b p.tail)
unfolding line_by ◌>>=◌
line_splits {A} {B} f g rule h text = go (line form01 text)
  where
    after : (l : Line) (r : Res A)
        → ((r >>= g) >>= λ b. part b l.rest)
        ≡ ((r >>= λ a. part a l.rest) >>= λ p. g p.got >>= λ b. part b p.tail)
    after l (good a) = refl
    after l (refused r) = refl

    go : (r : Res Line)
        → (r >>= λ l. rule l.bytes >>= λ b. part b l.rest)
        ≡ ((r >>= λ l. f l.bytes >>= λ a. part a l.rest) >>= λ p. g p.got >>= λ b. part b p.tail)
    go (good l) = rw (h l.bytes) (after l (f l.bytes))
    go (refused r) = refl

module _ (text : List ℕ) (at own : ℕ) where
  splits : gate_line text at own ≡ (operands_line text at >>= λ p. checks own p.got >>= λ b. part b p.tail)
  splits = line_splits operands_in (checks own) (gate_of form01 own) (gate_splits own) (drop at text)

  pub gate_none : (r : ℕ) → refused r ≡ operands_line text at → refused r ≡ gate_line text at own
  unfolding ◌>>=◌
  gate_none r e = sym (splits ∙ rw (← e))

  -- the operands were written over the front of their room
  module _ (k : ℕ) (few : k ≤ 4) (o : part (words_from text (at + 2) k) (drop (at + 4 * k + 3) text) ≡ operands_line text at)
      (before os : List ℕ) (l : length before ≡ 4) (e : os ≡ words_from text (at + 2) (length (take k before))) where
    named : os ≡ words_from text (at + 2) k
    named = let m : k ≤ length before = omega arith in e ∙ rw (length-take-le k before m)

    front : take k (os ++ drop k before) ≡ os
    front = let m : length os ≡ k = ap length named ∙ length-words text k (at + 2) in rw (← m) (take-append_seam os (drop (length os) before))

    judged : gate_line text at own ≡ (checks own os >>= λ b. part b (drop (at + 4 * k + 3) text))
    unfolding ◌>>=◌
    judged = splits ∙ rw (← o, ← named)

    pub gate_high : false ≡ all (λ o. ltb o own) os → refused 4 ≡ gate_line text at own
    unfolding checks ◌>>=◌ ◌>>◌ require
    gate_high t = sym (judged ∙ rw (← t))

    module _ (t : true ≡ all (λ o. ltb o own) os) where
      pub gate_falls : false ≡ ascending os → refused 5 ≡ gate_line text at own
      unfolding checks ◌>>=◌ ◌>>◌ require
      gate_falls d = sym (judged ∙ rw (← t, ← d))

      pub gate_good : true ≡ ascending os → part (take k (os ++ drop k before)) (drop (at + 4 * k + 3) text) ≡ gate_line text at own
      unfolding checks ◌>>=◌ ◌>>◌ require
      gate_good d = rw front (sym (judged ∙ rw (← t, ← d)))
