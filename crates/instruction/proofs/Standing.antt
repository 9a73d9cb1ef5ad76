-- An instruction where it stands is what is decoded there.
use Prim.Native.Nat.{ℕ, zero, suc, ◌+◌, ◌-◌, ◌*◌, ◌<◌, ◌≤◌}
use native.Mathlib.Omega.{arith}
use mathlib.Core.Path.{◌≡◌, refl, sym, ap, ◌∙◌}
use mathlib.Core.Bool.{Bool, true, false}
use mathlib.Core.List.{List, [], ◌∷◌}
use lib.Dec.{eqb, leb}
use lib.ListN.{length}
use borrow.Author.Tests.{le-leb, lt-leb, eq-eqb, ne_eqb}
use Rattle.rules.specs.Basics.{pick}
use Rattle.rules.specs.Sequence.{Set, Nor}
use Rattle.rules.proofs.Laws.{no_way}
use Rattle.lines.specs.Line.{byte_at, bytes_from}
use Rattle.std.specs.Prelude.{Some}
use Rattle.row.specs.Decoded as row
use Rattle.row.specs.Decoded.{cells_from, first_of, cell_at, end_from, nor_on, next_at, each_line}
use Rattle.row.proofs.Decoding.{named, cell_is}
use Rattle.instruction.specs.declared.Instruction.{Instruction}
use Rattle.instruction.specs.Line.{idle_at, counted, instruction_at, instruction_in, instructions_at}

-- ---- what the code answers

module _ (text : List ℕ) (at : ℕ) where
  pub stands_past : (i : Instruction) → i ≡ idle_at at → length text ≤ at → i ≡ instruction_at text at
  unfolding instruction_at pick
  stands_past i e h = rw (le-leb (length text) at h) e

  module _ (h : at < length text) (k : ℕ) (count : k ≡ length (cells_from text (at + 2))) where
    pub stands_empty : (i : Instruction) → i ≡ idle_at (at + 3) → k ≡ 0 → i ≡ instruction_at text at
    unfolding instruction_at counted pick
    stands_empty i e z = rw (lt-leb (length text) at h, ← count, eq-eqb k 0 z) e

    pub stands : (kind : ℕ) → kind ≡ byte_at text at → (k ≡ 0 → ⊥)
        → ◌≡◌ {A = Instruction} (record { set = eqb kind 18; first = at + 2; cells = k; next = at + 2 + 2 * k + 1 }) (instruction_at text at)
    unfolding instruction_at counted pick
    stands kind e z = rw (lt-leb (length text) at h, ← count, ne_eqb k 0 z, e)

-- ---- the cells of a line are the bytes from its first cell on

no_cells : (l : List ℕ) → length l ≡ 0 → l ≡ []
no_cells [] e = refl
no_cells (c ∷ l) e = absurd (omega arith)

pub cells_bytes : (k : ℕ) (text : List ℕ) (p : ℕ) → length (cells_from text p) ≡ k → (cells_from text p ≡ bytes_from text p k) × (1 ≤ k → p + 2 * k ≤ length text)
unfolding bytes_from first_of cell_at
cells_bytes zero text p e = (no_cells (cells_from text p) e, λ h. absurd (omega arith))
cells_bytes (suc k) text p e = go (cells_from text p) refl e (cells_bytes k text (p + 2))
  where
    go : (l : List ℕ) → cells_from text p ≡ l → length l ≡ suc k
        → (length (cells_from text (p + 2)) ≡ k → (cells_from text (p + 2) ≡ bytes_from text (p + 2) k) × (1 ≤ k → p + 2 + 2 * k ≤ length text))
        → (cells_from text p ≡ byte_at text p ∷ bytes_from text (p + 2) k) × (1 ≤ suc k → p + 2 * suc k ≤ length text)
    go [] q f rec = absurd (omega arith)
    go (c ∷ l) q f rec =
        let here : Some c ≡ cell_at text p = rw q in
        let (cells, inside) = named text p c here in
        let count : length (cells_from text (p + 2)) ≡ k = (let z : suc (length (cells_from text (p + 2))) ≡ suc k = sym (ap length cells) ∙ ap length q ∙ f in omega arith) in
        let (more, most) = rec count in
        (cells ∙ rw (cell_is text p c here, more), λ _. last k inside most)
      where
        last : (k : ℕ) → p + 2 ≤ length text → (1 ≤ k → p + 2 + 2 * k ≤ length text) → p + 2 * suc k ≤ length text
        last zero h m = omega arith
        last (suc j) h m = let z = m (omega arith) in omega arith

-- ---- the digits of an instruction's cells stand inside the text

module _ (text : List ℕ) (at : ℕ) where
  pub cells_inside : (instruction_at text at).first + 2 * (instruction_at text at).cells ≤ length text
  unfolding instruction_at counted pick
  cells_inside = go (leb (length text) at) (length (cells_from text (at + 2))) refl
    where
      inner : (k : ℕ) (t : Bool) → eqb k 0 ≡ t → length (cells_from text (at + 2)) ≡ k → (counted text at k).first + 2 * (counted text at k).cells ≤ length text
      inner k true q e = rw q (omega arith)
      inner k false q e = rw q ((cells_bytes k text (at + 2) e).1 (positive k q))
        where
          positive : (k : ℕ) → eqb k 0 ≡ false → 1 ≤ k
          positive zero f = absurd (no_way (cc))
          positive (suc k) f = omega arith

      go : (t : Bool) (k : ℕ) → length (cells_from text (at + 2)) ≡ k
          → (pick t (idle_at at) (counted text at k)).first + 2 * (pick t (idle_at at) (counted text at k)).cells ≤ length text
      go true k e = omega arith
      go false k e = inner k (eqb k 0) refl e

  -- it says what is decoded at the place, and the next line is the same
  pub says : (instruction_in text (instruction_at text at) ≡ row.instruction_at text at) × ((instruction_at text at).next ≡ next_at text at)
  unfolding instruction_at instruction_in counted bytes_from nor_on row.instruction_at next_at end_from pick
  says = go (leb (length text) at) (length (cells_from text (at + 2))) refl
    where
      kinds : (u : Bool) (k : ℕ) → cells_from text (at + 2) ≡ bytes_from text (at + 2) (suc k)
          → pick u (Set (bytes_from text (at + 2) (suc k))) (Nor (byte_at text (at + 2)) (bytes_from text (at + 2 + 2) (suc k - 1)))
          ≡ pick u (Set (cells_from text (at + 2))) (nor_on (cells_from text (at + 2)))
      kinds true k e = rw e
      kinds false k e = let z : suc k - 1 ≡ k = omega arith in rw (e, z)

      some : (k : ℕ) → length (cells_from text (at + 2)) ≡ k
          → (instruction_in text (counted text at k) ≡ pick (eqb (byte_at text at) 18) (Set (cells_from text (at + 2))) (nor_on (cells_from text (at + 2))))
          × ((counted text at k).next ≡ at + 2 + 2 * k + 1)
      some zero e = let z = no_cells (cells_from text (at + 2)) e in (rw z (empty (eqb (byte_at text at) 18)), omega arith)
        where
          empty : (u : Bool) → Set [] ≡ pick u (Set []) (nor_on [])
          empty true = refl
          empty false = refl
      some (suc k) e =
          let z = ne_eqb (suc k) 0 (λ u. omega arith) in
          (rw z (kinds (eqb (byte_at text at) 18) k (cells_bytes (suc k) text (at + 2) e).0), rw z)

      go : (t : Bool) (k : ℕ) → length (cells_from text (at + 2)) ≡ k
          → (instruction_in text (pick t (idle_at at) (counted text at k))
          ≡ pick t (Set []) (pick (eqb (byte_at text at) 18) (Set (cells_from text (at + 2))) (nor_on (cells_from text (at + 2)))))
          × ((pick t (idle_at at) (counted text at k)).next ≡ pick t at (at + 2 + 2 * length (cells_from text (at + 2)) + 1))
      go true k e = (refl, refl)
      go false k e = let (a, b) = some k e in (a, rw e b)

-- line by line they are the instructions that stand in the text
pub same_instructions : (text : List ℕ) (k at : ℕ) → instructions_at text at k ≡ row.instructions_at text at k
unfolding instructions_at row.instructions_at each_line
same_instructions text zero at = refl
same_instructions text (suc k) at = rw ((says text at).0, (says text at).1, same_instructions text k (next_at text at))
