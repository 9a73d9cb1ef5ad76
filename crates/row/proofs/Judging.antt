-- What the cells of a line give by document 01's rule: set and NOR.
use Prim.Native.Nat.{ℕ, zero, suc, ◌+◌, ◌-◌, ◌<◌, ◌≤◌}
use mathlib.Core.Path.{◌≡◌, refl, ap, ◌∙◌}
use mathlib.Core.Bool.{Bool, true, false, not, ◌&&◌}
use mathlib.Core.List.{List, [], ◌∷◌}
use lib.Dec.{ltb}
use lib.ListN.{get_or, length}
use borrow.Author.Tests.{lt-leb, le-leb, lt-ltb, le-ltb, ltb-true}
use native.Mathlib.Omega.{arith}
use native.Mathlib.Decide.{dec_lt}
use Rattle.rules.specs.Basics.{within, all, repeats, ascending}
use Rattle.rules.specs.Form.{form01}
use Rattle.rules.specs.Refusals.{Res, good, refused, ◌>>=◌, ◌>>◌, require, or_refuse}
use Rattle.rules.specs.Sequence.{set_of, nor_of}
use Rattle.rules.proofs.Laws.{and_true}
use Rattle.lines.specs.Line.{bytes_from}
use Rattle.lines.proofs.Meaning.{numbers_one}
use Rattle.row.specs.Answers.{passed, judged_of}

pub length-bytes : (text : List ℕ) (at k : ℕ) → length (bytes_from text at k) ≡ k
unfolding bytes_from
length-bytes text at zero = refl
length-bytes text at (suc k) = ap suc (length-bytes text (at + 2) k)

-- ---- cells that ascend or differ, and are below the row

judged_is : {A : Type 0} (orderly below : Bool) (x : A) → judged_of orderly below ≡ passed (require orderly 5 >> (require below 12 >> good x))
unfolding require ◌>>◌
judged_is true true x = refl
judged_is true false x = refl
judged_is false below x = refl

pub judged_as : (r : Res (Unit {0})) (a b a' b' : Bool) → r ≡ judged_of a b → a ≡ a' → b ≡ b' → r ≡ judged_of a' b'
judged_as r a b a' b' e p q = rw (e, p, q)

-- of cells that ascend the last is the highest, so they are below the row when it is
module _ (row : ℕ) where
  last_below : (a : ℕ) (l : List ℕ) → ascending (a ∷ l) ≡ true → ltb (get_or (a ∷ l) (length l) 0) row ≡ all (λ c. ltb c row) (a ∷ l)
  unfolding ascending
  last_below a [] e = one (ltb a row)
    where
      one : (t : Bool) → t ≡ (t && true)
      one true = refl
      one false = refl
  last_below a (b ∷ l) e =
      let h = and_true (ltb a b) (ascending (b ∷ l)) e in
      last_below b l h.1 ∙ lower (dec_lt b row) (all (λ c. ltb c row) l) (ltb-true a b h.0)
    where
      unless : (u : Bool) → false ≡ (u && false)
      unless true = refl
      unless false = refl

      lower : Dec (b < row) → (t : Bool) → a < b → (ltb b row && t) ≡ (ltb a row && (ltb b row && t))
      lower (yes h) t m = rw (lt-ltb a row (omega arith))
      lower (no h) t m = rw (le-ltb b row (omega arith)) (unless (ltb a row))

  pub judged_last : (r : Res (Unit {0})) (a b : Bool) (cells : List ℕ) (c : ℕ) → 1 ≤ length cells → r ≡ judged_of a b → a ≡ ascending cells → c ≡ get_or cells (length cells - 1) 0 → b ≡ ltb c row
      → r ≡ judged_of (ascending cells) (all (λ c. ltb c row) cells)
  judged_last r a b [] c h e p q f = absurd (omega arith)
  judged_last r a b (x ∷ l) c h e p q f =
      let z : suc (length l) - 1 ≡ length l = omega arith in
      rw (e, p, f, q, z) (go (ascending (x ∷ l)) refl)
    where
      go : (t : Bool) → ascending (x ∷ l) ≡ t → judged_of t (ltb (get_or (x ∷ l) (length l) 0) row) ≡ judged_of t (all (λ c. ltb c row) (x ∷ l))
      go true g = ap (judged_of true) (last_below x l g)
      go false g = refl

module _ (row : ℕ) (cells : List ℕ) where
  pub set_none : length cells < 1 → refused 2 ≡ passed (set_of form01 row cells)
  unfolding set_of form01 or_refuse require ◌>>=◌ ◌>>◌
  set_none h = rw (numbers_one cells, lt-leb 1 (length cells) h)

  pub set_some : 1 ≤ length cells → length cells ≤ 256 → judged_of (ascending cells) (all (λ c. ltb c row) cells) ≡ passed (set_of form01 row cells)
  unfolding set_of form01 or_refuse require ◌>>=◌ ◌>>◌
  set_some l m = rw (numbers_one cells, le-leb 1 (length cells) l, le-leb (length cells) 256 m) (judged_is (ascending cells) (all (λ c. ltb c row) cells) _)

  pub nor_none : within 2 5 (length cells) ≡ false → refused 2 ≡ passed (nor_of form01 row cells)
  unfolding nor_of form01 or_refuse require ◌>>=◌ ◌>>◌
  nor_none h = rw (numbers_one cells, h)

  pub nor_some : within 2 5 (length cells) ≡ true → judged_of (not (repeats cells)) (all (λ c. ltb c row) cells) ≡ passed (nor_of form01 row cells)
  unfolding nor_of form01 or_refuse require ◌>>=◌ ◌>>◌
  nor_some h = rw (numbers_one cells, h) (judged_is (not (repeats cells)) (all (λ c. ltb c row) cells) _)
