-- The row: one instruction's work, and the work that is left of a run.
use Prim.Native.Nat.{ℕ, suc, ◌+◌, ◌-◌, ◌*◌, ◌<◌, ◌≤◌}
use native.Mathlib.Omega.{arith}
use mathlib.Core.Path.{◌≡◌, refl, sym, ap, ◌∙◌}
use mathlib.Core.List.{List, ◌∷◌}
use lib.Dec.{eqb}
use lib.ListN.{get_or, length, set}
use borrow.Author.Tests.{le-leb, eq-eqb, ne_eqb}
use Rattle.rules.specs.Basics.{pick, set_all}
use Rattle.rules.specs.Values.{nor}
use Rattle.rules.specs.Device.{execute}
use Rattle.lines.specs.Line.{byte_at}
use Rattle.std.specs.Prelude.{Some, None}
use Rattle.row.specs.declared.device.Operands.{Operands}
use Rattle.row.specs.Decoded.{cells_from, cell_at, end_from, nor_on, instruction_at, next_at}
use Rattle.row.specs.Runs.{operands_at, run_at}
use Rattle.row.proofs.Decoding.{named, ended, end_inside, set_at, nor_at, next_at_lem}

-- ---- one instruction

pub set_turn : (row row' : List ℕ) (c : ℕ) (l : List ℕ) → row' ≡ set row c 1 → set_all 1 (c ∷ l) row ≡ set_all 1 l row'
unfolding set_all
set_turn row row' c l e = rw e

-- an operand that holds something else than 0 makes the value 0
module _ (row : List ℕ) (v w h c : ℕ) (l : List ℕ) (held : h ≡ get_or row c 0) where
  pub nor_lowered : (h ≡ 0 → ⊥) → w ≡ 0 → v * nor row (c ∷ l) ≡ w * nor row l
  unfolding nor pick
  nor_lowered z e = rw (← held, ne_eqb h 0 z, e) (omega arith)

  pub nor_kept : h ≡ 0 → w ≡ v → v * nor row (c ∷ l) ≡ w * nor row l
  unfolding nor pick
  nor_kept z e = rw (← held, eq-eqb h 0 z, e)

pub nor_ends : (text : List ℕ) (first at v : ℕ) (row : List ℕ) → (at ≡ end_from text first) × (v ≡ nor row (cells_from text first))
    → ◌≡◌ {A = Operands} (record { value = v; end = at }) (operands_at text first row)
unfolding operands_at
nor_ends text first at v row e = rw (e.0, e.1)

module _ (text : List ℕ) (first : ℕ) (row : List ℕ) where
  pub nor_none : None ≡ cell_at text first → (first ≡ end_from text first) × (row ≡ execute (nor_on (cells_from text first)) row)
  unfolding end_from nor_on execute set_all
  nor_none here =
      let z = ended text first here in
      rw z (omega arith, refl)

  module _ (w before x : ℕ) (o : Operands) (row' : List ℕ) (here : Some w ≡ cell_at text first) (e : o ≡ operands_at text (first + 2) row)
      (b : before ≡ get_or row w 0) (put : row' ≡ set row w x) where
    nor_written : x ≡ pick (eqb before 1) o.value 0 → (o.end ≡ end_from text first) × (row' ≡ execute (nor_on (cells_from text first)) row)
    unfolding end_from nor_on execute operands_at
    nor_written f =
        let z = named text first w here in
        rw (z.0, e) (omega arith, rw (put, f, e, b))

    pub nor_ready : before ≡ 1 → x ≡ o.value → (o.end ≡ end_from text first) × (row' ≡ execute (nor_on (cells_from text first)) row)
    unfolding pick
    nor_ready h f = nor_written (rw (eq-eqb before 1 h) f)

    pub nor_unready : (before ≡ 1 → ⊥) → x ≡ 0 → (o.end ≡ end_from text first) × (row' ≡ execute (nor_on (cells_from text first)) row)
    unfolding pick
    nor_unready h f = nor_written (rw (ne_eqb before 1 h) f)

module _ (text : List ℕ) (at : ℕ) where
  pub step_past : (row : List ℕ) → length text ≤ at → (at ≡ next_at text at) × (row ≡ execute (instruction_at text at) row)
  unfolding next_at instruction_at execute set_all pick
  step_past row h = rw (le-leb (length text) at h) (refl, refl)

  module _ (h : at < length text) (end : ℕ) where
    pub end_fits : end ≡ end_from text (at + 2) → end ≤ length text + 1
    end_fits e = omega (arith, e, end_inside text (at + 2) (omega arith))

    module _ (row : List ℕ) (k : ℕ) (row' : List ℕ) (kind : k ≡ byte_at text at) where
      pub step_set : k ≡ 18 → (end ≡ end_from text (at + 2)) × (row' ≡ set_all 1 (cells_from text (at + 2)) row)
          → (end + 1 ≡ next_at text at) × (row' ≡ execute (instruction_at text at) row)
      unfolding execute
      step_set s e = rw (next_at_lem text at h, set_at text at h (sym kind ∙ s)) (ap (λ p. p + 1) e.0, e.1)

      pub step_nor : (k ≡ 18 → ⊥) → (end ≡ end_from text (at + 2)) × (row' ≡ execute (nor_on (cells_from text (at + 2))) row)
          → (end + 1 ≡ next_at text at) × (row' ≡ execute (instruction_at text at) row)
      step_nor s e = rw (next_at_lem text at h, nor_at text at h (λ z. s (kind ∙ z))) (ap (λ p. p + 1) e.0, e.1)

-- ---- a run

-- the cycles that are left lead from the present row to the same end
pub record Ran (text : List ℕ) (code cycles : ℕ) (first : List ℕ) (at : ℕ) (row : List ℕ) (done : ℕ) : Type 0 where
  pub kept : length row ≡ length first
  pub same : run_at text at (cycles - done) row ≡ run_at text code cycles first

module _ {text : List ℕ} {code cycles : ℕ} {first : List ℕ} {at : ℕ} {row : List ℕ} {done : ℕ} (ran : Ran text code cycles first at row done) where
  pub ran_turn : (next : ℕ) (row' : List ℕ) → done < cycles → length row' ≡ length row
      → (next ≡ next_at text at) × (row' ≡ execute (instruction_at text at) row)
      → Ran text code cycles first next row' (done + 1)
  unfolding run_at
  ran_turn next row' h k e = record {
    kept = k ∙ ran.kept;
    same =
        let z : cycles - done ≡ suc (cycles - (done + 1)) = omega arith in
        rw (e.0, e.1) (ap (λ m. run_at text at m row) (sym z) ∙ ran.same);
  }

  pub ran_end : cycles ≤ done → row ≡ run_at text code cycles first
  unfolding run_at
  ran_end h = let z : cycles - done ≡ 0 = omega arith in rw z at ran.same
