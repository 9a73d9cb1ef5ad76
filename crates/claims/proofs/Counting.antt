-- Never more than twice as many instructions as gates: two for each gate at most, and the first gate finds a cell ready.
-- Assumes nothing.
use Rattle.std.proofs.Common.{ℕ, suc, ◌+◌, ◌*◌, ◌≤◌, arith, ◌≡◌, List, [], ◌∷◌, length}
use mathlib.Core.Option.{some}
use Rattle.std.proofs.lemmas.List.{length_push}
use Rattle.rules.specs.Refusals.{good}
use Rattle.rules.specs.Netlist.{Netlist}
use Rattle.rules.specs.Sequence.{Set, Sequence}
use Rattle.rules.specs.Cells.{Slot, is_ready, lowest, State, place, set_cells, execute_gate, execute_gates, opening}
use Rattle.rules.specs.Mapping.{sequence_from, mapped_by}
use Rattle.rules.proofs.Laws.{bind_good}
use Rattle.rules.proofs.Answers.{good_same, from_bind}
use Rattle.claims.proofs.Executing.{gate_cases}
use Rattle.claims.proofs.Opened.{ready_first}

module _ (N : Netlist) where
  place_length : (g c : ℕ) (st : State) → length (place N g c st).code ≡ length st.code + 1
  unfolding place
  place_length g c st = length_push st.code _

  set_length : (cs : List ℕ) (st : State) → length (set_cells N cs st).code ≡ length st.code + 1
  unfolding set_cells
  set_length cs st = length_push st.code (Set cs)

  module _ (renew : List Slot → List ℕ) where
    -- one instruction where a cell is ready
    one_more : (g : ℕ) (st st' : State) (c : ℕ) → lowest is_ready 0 st.slots ≡ some c → execute_gate N renew g st ≡ good st'
        → length st'.code ≡ length st.code + 1
    one_more g st st' c p e =
        gate_cases N renew g st st' e (λ x _ z. rw (← z) (place_length g x st))
        (λ d ds x q _ _ _. cc)

    -- else two
    one_or_two : (g : ℕ) (st st' : State) → execute_gate N renew g st ≡ good st'
        → (suc (length st.code) ≤ length st'.code) × (length st'.code ≤ length st.code + 2)
    one_or_two g st st' e =
        gate_cases N renew g st st' e
        (λ x _ z. rw (← z) (omega (arith, place_length g x st)))
        (λ d ds x _ _ _ z. rw (← z) (omega (arith, place_length g x (set_cells N (d ∷ ds) st), set_length (d ∷ ds) st)))

    all_gates : (l : List ℕ) (st st' : State) → execute_gates N renew l st ≡ good st'
        → (length st.code + length l ≤ length st'.code) × (length st'.code ≤ length st.code + 2 * length l)
    unfolding execute_gates
    all_gates [] st st' e = rw (← good_same st st' e) (omega arith)
    all_gates (g ∷ l) st st' e =
        let (s₁, p, q) = bind_good (execute_gate N renew g st) (execute_gates N renew l) st' e in
        let u = one_or_two g st s₁ p in
        let v = all_gates l s₁ st' q in
        omega arith

    counted : (opened row : ℕ) → 1 ≤ opened → N.inputs + opened ≤ row → (l : List ℕ) → 1 ≤ length l → (st : State)
        → execute_gates N renew l (opening N opened row) ≡ good st → (1 ≤ length st.code) × (length st.code ≤ 2 * length l)
    unfolding execute_gates opening
    counted opened row h room [] k st e = absurd (omega arith)
    counted opened row h room (g ∷ l) k st e =
        let (s₁, p, q) = bind_good (execute_gate N renew g (opening N opened row)) (execute_gates N renew l) st e in
        let (c, f) = ready_first N row opened room h in
        let u = one_more g (opening N opened row) s₁ c f p in
        let v = all_gates l s₁ st q in
        omega arith

    -- the claim on netlists, along any list of as many gates
    pub counting : (gs : List ℕ) → length gs ≡ length N.gates → 1 ≤ length N.gates → (opened row : ℕ) → 1 ≤ opened → N.inputs + opened ≤ row
        → (S : Sequence) → mapped_by N gs renew (opening N opened row) row ≡ good S
        → (1 ≤ length S.instructions) × (length S.instructions ≤ 2 * length N.gates)
    unfolding mapped_by sequence_from
    counting gs n some-gate opened row h room S e =
        from_bind
        (execute_gates N renew gs (opening N opened row)) _ S e λ st p q.
        let u = counted opened row h room gs (omega arith) st p in
        rw (← good_same (sequence_from N row st) S q) (rw n at u)
