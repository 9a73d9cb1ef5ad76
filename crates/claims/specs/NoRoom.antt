-- The mapping rule answers 9 exactly when there is no room.
-- Assumes nothing.
use Rattle.std.specs.Prelude.{ℕ, ◌-◌, ◌<◌, ◌≤◌, ◌≡◌, ◌↔◌, ◌⊎◌, List, [], ◌∷◌, ◌++◌}
use Rattle.std.proofs.Math.Option.{none}
use Rattle.rules.specs.Form.{form01}
use Rattle.rules.specs.Refusals.{good, refused}
use Rattle.rules.specs.Netlist.{Netlist, netlist_of}
use Rattle.rules.specs.Order.{order}
use Rattle.rules.specs.Cells.{State, is_ready, lowest, execute_gates, all_spent, opening}
use Rattle.rules.specs.Calls.{map_outcome}

-- executing the gates in order, a gate is met with no cell ready and none spent
pub record Stuck (N : Netlist) (row : ℕ) : Type 0 where
  pub before : List ℕ
  pub gate : ℕ
  pub after : List ℕ
  pub state : State
  pub in_order : order N ≡ before ++ (gate ∷ after)
  pub reached : execute_gates N all_spent before (opening N (row - N.inputs) row) ≡ good state
  pub none_ready : lowest is_ready 0 state.slots ≡ none
  pub none_spent : all_spent state.slots ≡ []

-- for every netlist that reads well and every row of 2 to 256: map answers 9 exactly when there is no work cell or a gate is met so
abbrev pub NoRoomExactly : Type 0
NoRoomExactly = (row : ℕ) (text out : List ℕ) (N : Netlist) → netlist_of form01 text ≡ good N → 2 ≤ row → row ≤ 256
    → ((map_outcome row text out).answer ≡ refused 9) ↔ ((row ≤ N.inputs) ⊎ Stuck N row)

-- map answers 9 nowhere else
pub record NoRoomOnly : Type 0 where
  -- a row outside 2 to 256 is answered 8, whatever the text
  pub row_outside : (row : ℕ) (text out : List ℕ) → (row < 2) ⊎ (256 < row) → (map_outcome row text out).answer ≡ refused 8
  -- a netlist that is refused is answered with its own number, 1 to 7
  pub netlist_refused : (row : ℕ) (text out : List ℕ) (x : ℕ) → 2 ≤ row → row ≤ 256 → netlist_of form01 text ≡ refused x
      → ((map_outcome row text out).answer ≡ refused x) × (1 ≤ x) × (x ≤ 7)
  -- so where 9 is answered, the row is one of 2 to 256 and the netlist reads well
  pub only : (row : ℕ) (text out : List ℕ) → (map_outcome row text out).answer ≡ refused 9
      → (N : Netlist) × (netlist_of form01 text ≡ good N) × (2 ≤ row) × (row ≤ 256)
