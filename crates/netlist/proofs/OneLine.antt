-- Laws of one line: what its kind and its length make of it, and a gate's operands.
use Prim.Native.Nat.{ℕ, zero, suc, ◌+◌, ◌-◌, ◌*◌, ◌/◌, ◌%◌, ◌<◌, ◌≤◌}
use native.Mathlib.Omega.{arith}
use mathlib.Core.Path.{◌≡◌, refl, sym, ap, ◌∙◌}
use mathlib.Core.List.{List, [], ◌∷◌}
use lib.ListN.{get_or, length, drop}
use borrow.Author.Tests.{eq-eqb, ne_eqb, le-leb, lt-leb}
use Rattle.std.specs.Prelude.{Ok, Err}
use Rattle.rules.specs.declared.Refusal.{Refusal}
use Rattle.rules.specs.Basics.{pick, within}
use Rattle.rules.specs.Form.{form01}
use Rattle.rules.specs.Refusals.{Res, good, refused, ◌>>=◌, ◌>>◌, require, or_refuse, number_of}
use Rattle.rules.specs.Netlist.{due}
use Rattle.lines.specs.Line.{byte_at, word_at, bytes_from, words_from, line_at}
use Rattle.lines.proofs.Meaning.{frame_fits, line_is, line_not, words_are, words_odd}
use Rattle.netlist.specs.Steps.{line_by, operands_in, operands_line}

-- ---- a line by a rule

module _ {A : Type 0} (rule : List ℕ → Res A) (text : List ℕ) (at : ℕ) where
  pub by_line : (n : ℕ) → line_at text at ≡ Ok n
      → line_by rule (drop at text) ≡ (rule (bytes_from text at (n / 2)) >>= λ a. good (record { got = a; tail = drop (at + n + 1) text }))
  unfolding line_by ◌>>=◌
  by_line n e = rw (line_is text at n e)

  pub by_none : (r : Refusal) → line_at text at ≡ Err r → line_by rule (drop at text) ≡ refused (number_of r)
  unfolding line_by ◌>>=◌
  by_none r e = rw (line_not text at r e)

  -- a rule that refuses the line's bytes
  pub by_refused : (n k : ℕ) → line_at text at ≡ Ok n → rule (bytes_from text at (n / 2)) ≡ refused k → refused k ≡ line_by rule (drop at text)
  unfolding ◌>>=◌
  by_refused n k e f = sym (by_line n e ∙ rw f)

pub frame_inside : (text : List ℕ) (at n : ℕ) → line_at text at ≡ Ok n → at + n < length text
frame_inside text at n e = (frame_fits text at n e).inside

-- a frame has at least its kind
pub half : (text : List ℕ) (at n : ℕ) → line_at text at ≡ Ok n → n / 2 ≡ suc (n / 2 - 1)
half text at n e = let f = frame_fits text at n e in omega (arith, f.least)

pub length-words : (text : List ℕ) (k at : ℕ) → length (words_from text at k) ≡ k
unfolding words_from
length-words text zero at = refl
length-words text (suc k) at = ap suc (length-words text k (at + 4))

-- a list in which each word stands is those words
pub words_stand : (text : List ℕ) (at : ℕ) (os : List ℕ) → ((k : ℕ) → k < length os → get_or os k 0 ≡ word_at text (at + 4 * k)) → os ≡ words_from text at (length os)
unfolding words_from
words_stand text at [] h = refl
words_stand text at (o ∷ os) h =
    let e : at + 4 * 0 ≡ at = omega arith in
    let r : os ≡ words_from text (at + 4) (length os) = words_stand text (at + 4) os (λ k u. let f : at + 4 * suc k ≡ at + 4 + 4 * k = omega arith in h (suc k) (omega arith) ∙ rw f) in
    rw (← r, h 0 (omega arith), e)

-- ---- a gate's operands

module _ (text : List ℕ) (at : ℕ) where
  pub operands_none : (r : Refusal) → line_at text at ≡ Err r → refused (number_of r) ≡ operands_line text at
  operands_none r e = sym (by_none operands_in text at r e)

  module _ (n : ℕ) (e : line_at text at ≡ Ok n) where
    wrong : operands_in (bytes_from text at (n / 2)) ≡ refused 2 → refused 2 ≡ operands_line text at
    wrong f = by_refused operands_in text at n 2 e f

    pub operands_kind : (byte_at text at ≡ 2 → ⊥) → refused 2 ≡ operands_line text at
    unfolding operands_in bytes_from due form01 pick ◌>>=◌
    operands_kind h = wrong (rw (half text at n e, ne_eqb (byte_at text at) 2 h))

    module _ (kind : byte_at text at ≡ 2) where
      pub operands_odd : (n % 4 ≡ 2 → ⊥) → refused 2 ≡ operands_line text at
      unfolding operands_in bytes_from due form01 pick ◌>>=◌ or_refuse
      operands_odd h =
          let f = frame_fits text at n e in
          let z : n % 4 ≡ 0 = omega (arith, f.even, h) in
          let m : n / 2 ≡ suc (suc (2 * (n / 4 - 1))) = omega (arith, f.even, f.least, z) in
          wrong (rw (m, eq-eqb (byte_at text at) 2 kind, words_odd (n / 4 - 1) text (at + 2)))

      module _ (even : n % 4 ≡ 2) where
        named : operands_in (bytes_from text at (n / 2)) ≡ (require (within 1 4 (n / 4)) 2 >> good (words_from text (at + 2) (n / 4)))
        unfolding operands_in bytes_from due form01 pick ◌>>=◌ or_refuse
        named =
            let f = frame_fits text at n e in
            let m : n / 2 ≡ suc (2 * (n / 4)) = omega (arith, f.even, even) in
            rw (m, eq-eqb (byte_at text at) 2 kind, words_are (n / 4) text (at + 2), length-words text (n / 4) (at + 2))

        pub operands_short : n < 6 → refused 2 ≡ operands_line text at
        unfolding ◌>>◌ require
        operands_short h = let k : n / 4 < 1 = omega arith in wrong (named ∙ rw (lt-leb 1 (n / 4) k))

        pub operands_long : 18 < n → refused 2 ≡ operands_line text at
        unfolding ◌>>◌ require
        operands_long h =
            let k : 4 < n / 4 = omega (arith, even) in
            let l : 1 ≤ n / 4 = omega arith in
            wrong (named ∙ rw (le-leb 1 (n / 4) l, lt-leb (n / 4) 4 k))

        pub operands_good : 6 ≤ n → n ≤ 18 → good (record { got = words_from text (at + 2) (n / 4); tail = drop (at + 4 * (n / 4) + 3) text }) ≡ operands_line text at
        unfolding ◌>>=◌ ◌>>◌ require
        operands_good l m =
            let a : 1 ≤ n / 4 = omega arith in
            let b : n / 4 ≤ 4 = omega arith in
            let c : at + 4 * (n / 4) + 3 ≡ at + n + 1 = omega (arith, even) in
            let g : operands_in (bytes_from text at (n / 2)) ≡ good (words_from text (at + 2) (n / 4)) = named ∙ rw (le-leb 1 (n / 4) a, le-leb (n / 4) 4 b) in
            rw c (sym (by_line operands_in text at n e ∙ rw g))

-- what `operands` is proved by
pub ruleset operand_rules = (operands_none, operands_kind, operands_odd, operands_short, operands_long, operands_good, frame_inside)
