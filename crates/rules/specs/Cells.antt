-- Document 01, "The mapping rule": Cells. What one gate does to the mapping state.
-- Assumes nothing.
use Rattle.std.specs.Prelude.{ℕ, suc, ◌-◌, Bool, true, false, ◌&&◌, ◌||◌, not, eqb, replicate}
use mathlib.Core.List.{List, [], ◌∷◌, ◌++◌, map}
use Rattle.std.proofs.Math.Option.{Option, none, some}
use Rattle.std.proofs.Math.Dec.{leb}
use Rattle.std.proofs.Math.ListN.{set}
use Rattle.rules.specs.Basics.{pick, mem, keep, upto, set_all}
use Rattle.rules.specs.Refusals.{Res, good, refused, ◌>>=◌}
use Rattle.rules.specs.Netlist.{Netlist, operands_of}
use Rattle.rules.specs.Sequence.{Instruction, Set, Nor}

-- What the mapping rule says of a cell. A blank cell was never set and holds nothing: the rule of document 01 leaves none among the work cells.
pub data Slot : Type 0 where
  blank ready spent : Slot
  keeps : ℕ → Slot

unfoldable pub is_ready : Slot → Bool
is_ready blank = false
is_ready ready = true
is_ready spent = false
is_ready (keeps s) = false

unfoldable pub is_spent : Slot → Bool
is_spent blank = false
is_spent ready = false
is_spent spent = true
is_spent (keeps s) = false

unfoldable pub is_keeping : ℕ → Slot → Bool
is_keeping s blank = false
is_keeping s ready = false
is_keeping s spent = false
is_keeping s (keeps t) = eqb s t

-- the cells, counted from k, that pass a test, ascending
unfoldable pub those : (Slot → Bool) → ℕ → List Slot → List ℕ
unfolding pick
those p k [] = []
those p k (s ∷ ss) = pick (p s) (k ∷ those p (suc k) ss) (those p (suc k) ss)

-- the lowest of them
unfoldable pub lowest : (Slot → Bool) → ℕ → List Slot → Option ℕ
unfolding pick
lowest p k [] = none
lowest p k (s ∷ ss) = pick (p s) (some k) (lowest p (suc k) ss)

unfoldable pub or_zero : Option ℕ → ℕ
or_zero none = 0
or_zero (some c) = c

-- the cell that keeps a signal
unfoldable pub cell_of : List Slot → ℕ → ℕ
unfolding lowest is_keeping or_zero
cell_of slots s = or_zero (lowest (is_keeping s) 0 slots)

-- The mapping state passes from one gate to the next as a value.
pub record State : Type 0 where
  pub slots : List Slot
  pub done : List ℕ
  pub code : List Instruction

-- all readers of signal s, among gates counted from k, have been executed
unfoldable pub served : List ℕ → ℕ → List (List ℕ) → ℕ → Bool
unfolding mem
served done k [] s = true
served done k (g ∷ gs) s = (not (mem s g) || mem k done) && served done (suc k) gs s

module _ (N : Netlist) where
  -- a gate that is no output and whose readers have all been executed
  unfoldable pub released : List ℕ → ℕ → Bool
  unfolding mem served
  released done s = leb N.inputs s && (not (mem s N.outputs) && served done N.inputs N.gates s)

  -- The NOR line names operands in the netlist's order. After it, the cell of each gate operand that is released is spent.
  unfoldable pub place : ℕ → ℕ → State → State
  unfolding operands_of cell_of released keep set_all
  place g c st =
      let os = operands_of N g in
      let done = st.done ++ (g ∷ []) in
      record {
        slots = set_all spent (map (cell_of st.slots) (keep (released done) os)) (set st.slots c (keeps g));
        done = done;
        code = st.code ++ (Nor c (map (cell_of st.slots) os) ∷ []);
      }

  -- one set line; they become ready
  unfoldable pub set_cells : List ℕ → State → State
  unfolding set_all
  set_cells cs st = record { slots = set_all ready cs st.slots; done = st.done; code = st.code ++ (Set cs ∷ []) }

  -- If none is spent either, answer 9.
  unfoldable pub in_ready : ℕ → State → Option ℕ → Res State
  unfolding place
  in_ready g st none = refused 9
  in_ready g st (some c) = good (place g c st)

  -- If none is ready and some are spent, write one set line naming all spent cells ascending.
  unfoldable pub after_set : ℕ → State → List ℕ → Res State
  unfolding in_ready set_cells lowest is_ready
  after_set g st [] = refused 9
  after_set g st (c ∷ cs) = let set = set_cells (c ∷ cs) st in in_ready g set (lowest is_ready 0 set.slots)

  -- `renew` names the cells of the set line when none is ready: document 01 names all spent ones
  module _ (renew : List Slot → List ℕ) where
    -- To execute a gate take the lowest ready cell.
    unfoldable pub in_lowest : ℕ → State → Option ℕ → Res State
    unfolding place after_set
    in_lowest g st (some c) = good (place g c st)
    in_lowest g st none = after_set g st (renew st.slots)

    unfoldable pub execute_gate : ℕ → State → Res State
    unfolding in_lowest lowest is_ready
    execute_gate g st = in_lowest g st (lowest is_ready 0 st.slots)

    unfoldable pub execute_gates : List ℕ → State → Res State
    unfolding execute_gate ◌>>=◌
    execute_gates [] st = good st
    execute_gates (g ∷ gs) st = execute_gate g st >>= execute_gates gs

-- naming all spent cells ascending
unfoldable pub all_spent : List Slot → List ℕ
unfolding those is_spent
all_spent slots = those is_spent 0 slots

-- The sequence opens by setting the lowest `opened` work cells (document 01: all). Cell i below the inputs holds input i.
unfoldable pub opening : Netlist → ℕ → ℕ → State
unfolding upto
opening N opened row = record {
  slots = map keeps (upto 0 N.inputs) ++ (replicate opened ready ++ replicate (row - N.inputs - opened) blank);
  done = [];
  code = Set (upto N.inputs opened) ∷ [];
}
