-- Lines that read well say what is decoded where they stand.
use Prim.Native.Nat.{ℕ, zero, suc, ◌+◌, ◌-◌, ◌/◌, ◌≤◌}
use native.Mathlib.Omega.{arith}
use mathlib.Core.Path.{◌≡◌, refl, ap, ◌∙◌}
use mathlib.Core.Bool.{Bool, true, false, ◌&&◌, not}
use mathlib.Core.List.{List, [], ◌∷◌}
use lib.Dec.{eqb, ltb, leb}
use lib.ListN.{get_or, length}
use borrow.Author.Tests.{leb-true, lt-leb}
use Rattle.std.specs.Prelude.{Ok}
use Rattle.rules.specs.Basics.{pick, all, repeats, ascending}
use Rattle.rules.specs.Form.{form01, one}
use Rattle.rules.specs.Refusals.{good, refused, ◌>>=◌, ◌>>◌, require, or_refuse}
use Rattle.rules.specs.Lines.{fields, also}
use Rattle.rules.specs.Netlist.{due}
use Rattle.rules.specs.Sequence.{Instruction, Set, nor_from, set_of, nor_of, instruction_of, place_of}
use Rattle.rules.proofs.Laws.{no_way, and_true, require_good}
use Rattle.lines.specs.Line.{line_at, byte_at, bytes_from}
use Rattle.lines.proofs.Meaning.{frame_fits, numbers_one}
use Rattle.row.specs.Decoded.{cells_from, end_from, nor_on, instruction_at, next_at}
use Rattle.row.proofs.Judging.{length-bytes}
use Rattle.row.proofs.Framed.{kind_first}
use Rattle.row.proofs.Decoding.{line_cells}

module _ (row : ℕ) (l : List ℕ) (a : Instruction) where
  set_said : set_of form01 row l ≡ good a → a ≡ Set l
  unfolding set_of form01 or_refuse ◌>>=◌
  set_said e =
      let p = rw (numbers_one l) at e in
      let q = require_good (leb 1 (length l) && leb (length l) 256) 2 _ a p in
      let s = require_good (ascending l) 5 _ a q.1 in
      let t = require_good (all (λ c. ltb c row) l) 12 _ a s.1 in
      let z : good (Set l) ≡ good a = t.1 in
      cc

  nor_said : nor_of form01 row l ≡ good a → a ≡ nor_on l
  unfolding nor_of form01 nor_from nor_on or_refuse ◌>>=◌
  nor_said e =
      let p = rw (numbers_one l) at e in
      let q = require_good (leb 2 (length l) && leb (length l) 5) 2 _ a p in
      let s = require_good (not (repeats l)) 5 _ a q.1 in
      let t = require_good (all (λ c. ltb c row) l) 12 _ a s.1 in
      go l (leb-true 2 (length l) (and_true (leb 2 (length l)) (leb (length l) 5) q.0).0) t.1
    where
      go : (m : List ℕ) → 2 ≤ length m → good (nor_from m) ≡ good a → a ≡ nor_on m
      go [] h z = absurd (omega arith)
      go (w ∷ os) h z = cc

module _ (text : List ℕ) (at n : ℕ) (e : line_at text at ≡ Ok n) where
  -- the next line begins behind the line feed
  pub next_said : at + n + 1 ≡ next_at text at
  unfolding next_at end_from pick
  next_said =
      let f = frame_fits text at n e in
      let l : length (cells_from text (at + 2)) ≡ n / 2 - 1 = ap length (line_cells text at n e) ∙ length-bytes text (at + 2) (n / 2 - 1) in
      rw (lt-leb (length text) at (omega (arith, f.inside)), l) (omega (arith, f.even, f.least))

module _ (row : ℕ) (text : List ℕ) (at n : ℕ) (e : line_at text at ≡ Ok n) where
  pub instruction_said : (a : Instruction) → instruction_of form01 row (bytes_from text at (n / 2)) ≡ good a → a ≡ instruction_at text at
  unfolding instruction_of form01 pick instruction_at
  instruction_said a g =
      let f = frame_fits text at n e in
      rw (lt-leb (length text) at (omega (arith, f.inside)), line_cells text at n e)
      (go (eqb (byte_at text at) 18) (eqb (byte_at text at) 19) (rw (kind_first text at n f) at g))
    where
      l : List ℕ
      l = bytes_from text (at + 2) (n / 2 - 1)

      go : (t u : Bool) → pick t (set_of form01 row l) (pick u (nor_of form01 row l) (refused 2)) ≡ good a → a ≡ pick t (Set l) (nor_on l)
      go true u h = set_said row l a h
      go false true h = nor_said row l a h
      go false false h = absurd (no_way (cc))

  place_bytes : (p m a : ℕ) → place_of form01 row (byte_at text at ∷ bytes_from text p m) ≡ good a → (m ≡ 1) × (a ≡ byte_at text p)
  unfolding place_of form01 due pick or_refuse fields also bytes_from ◌>>=◌
  place_bytes p m a g = go (eqb (byte_at text at) 20) m g
    where
      go : (t : Bool) (m : ℕ)
          → (pick t (good (bytes_from text p m)) (refused 2)
          >>= (λ l. or_refuse 2 (fields (one ∷ []) l) >>= (λ ns. require (ltb (get_or ns 0 0) row) 12 >> good (get_or ns 0 0)))) ≡ good a
          → (m ≡ 1) × (a ≡ byte_at text p)
      go false m h = absurd (no_way (cc))
      go true zero h = absurd (no_way (cc))
      go true (suc zero) h =
          let q = require_good (ltb (byte_at text p) row) 12 (good (byte_at text p)) a h in
          (refl, (let z : good (byte_at text p) ≡ good a = q.1 in cc))
      go true (suc (suc m)) h = absurd (no_way (cc))

  pub place_said : (a : ℕ) → place_of form01 row (bytes_from text at (n / 2)) ≡ good a → (a ≡ byte_at text (at + 2)) × (at + n + 1 ≡ at + 5)
  place_said a g =
      let f = frame_fits text at n e in
      let b = place_bytes (at + 2) (n / 2 - 1) a (rw (kind_first text at n f) at g) in
      (b.1, omega (arith, b.0, f.even, f.least))
