-- A checked sequence on a row, over netlist and sequence as read.
use Rattle.std.proofs.Common.{ℕ, zero, suc, ◌+◌, ◌-◌, ◌<◌, ◌≤◌, arith, ◌≡◌, sym, ap, ◌∙◌, true, List, [], ◌∷◌, eqb, eqb-true, lt-ltb, get_or, length, replicate, take, length-take, get_or-take, length-take-le}
use native.Mathlib.Decide.{dec_lt}
use mathlib.Core.Option.{some}
use Rattle.std.proofs.lemmas.Bool.{and_parts}
use Rattle.rules.specs.Refusals.{good}
use Rattle.rules.specs.Netlist.{Netlist}
use Rattle.rules.specs.Sequence.{Sequence}
use Rattle.rules.specs.Values.{nor, table, values}
use Rattle.rules.specs.Device.{run}
use Rattle.rules.specs.Book.{Cell, unknown, ready, holds, first_book, gate_with, steps, is_holding, placed, checked}
use Rattle.rules.proofs.Laws.{bind_good, require_good, gate_with_spec}
use Rattle.rules.proofs.Lists.{Below, all_default}
use Rattle.claims.proofs.Table.{table_keeps, values_spec}
use Rattle.claims.proofs.FirstBook.{front, behind, book_size}
use Rattle.claims.proofs.Fits.{Fits, steps_fit}
use Rattle.claims.proofs.Stays.{run_stays, steps_spare}

-- ---- the first book

-- it fits every row
first_fits : (n : ℕ) (gs : List (List ℕ)) (r : List ℕ) → n ≤ length r → Fits (table nor (take n r) gs) (first_book n (length r)) r
unfolding first_book
first_fits n gs r h = record { len = book_size n (length r) h; val = λ c s e. val c (dec_lt c n) s e; one = λ c e. one c (dec_lt c n) e }
  where
    rest : List Cell
    rest = replicate (length r - n) unknown

    past : (c : ℕ) → n ≤ c → get_or (first_book n (length r)) c unknown ≡ unknown
    past c h = behind holds n c rest unknown h ∙ all_default (length r - n) (c - n) unknown

    val : (c : ℕ) → Dec (c < n) → (s : ℕ) → get_or (first_book n (length r)) c unknown ≡ holds s → get_or r c 0 ≡ get_or (table nor (take n r) gs) s 0
    val c (yes q) s e =
        let y : 0 + c ≡ c = omega arith in let p = front holds 0 n c rest unknown q ∙ ap holds y in
        let z : c ≡ s = cc in
        rw (← z) (sym (table_keeps nor (take n r) gs c (simp length-take (omega arith)) ∙ get_or-take n r c 0 q))
    val c (no q) s e = let p = past c (omega arith) in cc

    one : (c : ℕ) → Dec (c < n) → get_or (first_book n (length r)) c unknown ≡ ready → get_or r c 0 ≡ 1
    one c (yes q) e = let y : 0 + c ≡ c = omega arith in let p = front holds 0 n c rest unknown q ∙ ap holds y in cc
    one c (no q) e = let p = past c (omega arith) in cc

-- ---- gates and places

-- a gate that is found has its operands' NOR for its value
gates_true : (ins : List ℕ) (gs : List (List ℕ)) (n : ℕ) → length ins ≡ n → ((j : ℕ) → j < length gs → Below (n + j) (get_or gs j [])) → (l : List ℕ) (s : ℕ) → gate_with l n gs ≡ some s
    → get_or (table nor ins gs) s 0 ≡ nor (table nor ins gs) l
gates_true ins gs n len o l s e =
    let (j, h, p, q) = gate_with_spec l n gs s e in
    let at : length ins + j ≡ s = omega arith in
    ap (λ (k : ℕ). get_or (table nor ins gs) k 0) (sym at) ∙ values_spec ins gs (rw len o) j h ∙ ap (nor (table nor ins gs)) q

holding : (x : Cell) (s : ℕ) → is_holding x s ≡ true → x ≡ holds s
unfolding is_holding
holding unknown s e = cc
holding ready s e = cc
holding (holds t) s e = ap holds (eqb-true t s e)

-- each place holds its output
placed_spec : (vs : List ℕ) (b : List Cell) (r : List ℕ) → Fits vs b r → (ps outs : List ℕ) → length ps ≡ length outs → placed b ps outs ≡ true
    → (k : ℕ) → k < length outs → get_or r (get_or ps k 0) 0 ≡ get_or vs (get_or outs k 0) 0
unfolding placed
placed_spec vs b r fit [] [] l e k h = absurd (omega arith)
placed_spec vs b r fit [] (o ∷ outs) l e k h = absurd (omega arith)
placed_spec vs b r fit (p ∷ ps) [] l e k h = absurd (omega arith)
placed_spec vs b r fit (p ∷ ps) (o ∷ outs) l e zero h =
    fit.val p o (holding (get_or b p unknown) o (and_parts (is_holding (get_or b p unknown) o) (placed b ps outs) e).0)
placed_spec vs b r fit (p ∷ ps) (o ∷ outs) l e (suc k) h =
    placed_spec vs b r fit ps outs (omega arith) (and_parts (is_holding (get_or b p unknown) o) (placed b ps outs) e).1 k (omega arith)

-- ---- the whole

-- what the tests of a check that passes have shown
pub record Checked (N : Netlist) (S : Sequence) (n : ℕ) : Type 0 where
  pub same_inputs : S.inputs ≡ N.inputs
  pub same_outputs : S.outputs ≡ length N.outputs
  pub book : List Cell
  pub stepped : steps N S.instructions (first_book N.inputs S.row) ≡ good book
  pub holding : placed book S.places N.outputs ≡ true
  pub counted : n ≡ length S.instructions

pub checked_good : (N : Netlist) (S : Sequence) (n : ℕ) → checked N S ≡ good n → Checked N S n
unfolding checked
checked_good N S n e =
    let (a, e₁) = require_good (eqb S.inputs N.inputs) 11 _ n e in
    let (b, e₂) = require_good (eqb S.outputs (length N.outputs)) 11 _ n e₁ in
    let (book, p, e₃) = bind_good (steps N S.instructions (first_book N.inputs S.row)) _ n e₂ in
    let (c, e₄) = require_good (placed book S.places N.outputs) 16 _ n e₃ in
    record {
      same_inputs = eqb-true S.inputs N.inputs a;
      same_outputs = eqb-true S.outputs (length N.outputs) b;
      book = book;
      stepped = p;
      holding = c;
      counted = cc;
    }

module _ (N : Netlist) (S : Sequence) (n : ℕ) (r : List ℕ) (c : Checked N S n) where
  pub inputs_stay : (b k : ℕ) → k < N.inputs → get_or (run b S.instructions r) k 0 ≡ get_or r k 0
  inputs_stay b k h =
      run_stays k b S.instructions r
      (steps_spare N k (lt-ltb k N.inputs h) S.instructions (first_book N.inputs S.row) c.book c.stepped)

  -- each place holds its output's value at the end of the run
  pub places_hold : ((j : ℕ) → j < length N.gates → Below (N.inputs + j) (get_or N.gates j [])) → N.inputs ≤ S.row → length S.places ≡ length N.outputs → length r ≡ S.row
      → (k : ℕ) → k < length N.outputs
      → get_or (run (length S.instructions) S.instructions r) (get_or S.places k 0) 0 ≡ get_or (values N (take N.inputs r)) (get_or N.outputs k 0) 0
  unfolding values
  places_hold o h l len =
      placed_spec vs c.book (run (length S.instructions) S.instructions r) fit S.places N.outputs l c.holding
    where
      vs : List ℕ
      vs = table nor (take N.inputs r) N.gates

      fit : Fits vs c.book (run (length S.instructions) S.instructions r)
      fit =
          steps_fit N vs (gates_true (take N.inputs r) N.gates N.inputs (length-take-le N.inputs r (omega arith)) o) S.instructions
          (first_book N.inputs S.row) c.book r (rw (← len) (first_fits N.inputs N.gates r (omega arith))) c.stepped
