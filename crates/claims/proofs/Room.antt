-- Executing gates is refused exactly where a gate is met with no cell ready and none to set: for any sparing rule of sets.
-- Assumes nothing.
use Rattle.std.proofs.Common.{ℕ, ◌≡◌, refl, ap, ◌∙◌, List, [], ◌∷◌, ◌++◌, get_or}
use mathlib.Core.Option.{Option, none, some}
use Rattle.rules.specs.Basics.{pick, set_all}
use Rattle.rules.specs.Refusals.{good, refused, ◌>>=◌}
use Rattle.rules.specs.Netlist.{Netlist}
use Rattle.rules.specs.Cells.{Slot, blank, ready, is_ready, lowest, State, set_cells, in_ready, after_set, in_lowest, execute_gate, execute_gates}
use Rattle.rules.proofs.Laws.{cons_self}
use Rattle.rules.proofs.Answers.{good_same, from_bind, refused_bind}
use Rattle.claims.proofs.Slots.{lowest_found, set_all_at}
use Rattle.claims.proofs.Keeping.{Sparing}

module _ (N : Netlist) (renew : List Slot → List ℕ) where
  -- a gate is met with no cell ready and none to set
  pub record Met (gs : List ℕ) (st : State) : Type 0 where
    pub before : List ℕ
    pub gate : ℕ
    pub after : List ℕ
    pub state : State
    pub in_order : gs ≡ before ++ (gate ∷ after)
    pub reached : execute_gates N renew before st ≡ good state
    pub none_ready : lowest is_ready 0 state.slots ≡ none
    pub none_named : renew state.slots ≡ []

  refuses : (g : ℕ) (st : State) → lowest is_ready 0 st.slots ≡ none → renew st.slots ≡ [] → execute_gate N renew g st ≡ refused 9
  unfolding execute_gate in_lowest after_set
  refuses g st p q = rw (p, q)

  -- gates that ran, then one that is refused
  run_into : (l : List ℕ) (g : ℕ) (m : List ℕ) (st s : State) → execute_gates N renew l st ≡ good s → execute_gate N renew g s ≡ refused 9
      → execute_gates N renew (l ++ (g ∷ m)) st ≡ refused 9
  unfolding execute_gates ◌>>=◌
  run_into [] g m st s e f = let z = good_same st s e in rw (z, f)
  run_into (h ∷ l) g m st s e f =
      from_bind (execute_gate N renew h st) (execute_gates N renew l) s e
      λ t p q. rw p (run_into l g m t s q f)

  pub met_refused : (gs : List ℕ) (st : State) → Met gs st → execute_gates N renew gs st ≡ refused 9
  met_refused gs st M =
      rw M.in_order (run_into M.before M.gate M.after st M.state M.reached (refuses M.gate M.state M.none_ready M.none_named))

  module _ (R : Sparing renew) where
    -- what is set is ready
    set_ready : (st : State) (c : ℕ) (cs : List ℕ) → renew st.slots ≡ c ∷ cs → (d : ℕ) × (lowest is_ready 0 (set_cells N (c ∷ cs) st).slots ≡ some d)
    unfolding set_cells is_ready pick
    set_ready st c cs e =
        let h = set_all_at ready (c ∷ cs) st.slots c blank (R.inside st.slots c (rw e (cons_self c cs))) in
        let k : get_or (set_all ready (c ∷ cs) st.slots) c blank ≡ ready = h ∙ rw (cons_self c cs) in
        lowest_found is_ready refl (set_all ready (c ∷ cs) st.slots) 0 c (ap is_ready k)

    refused_gate : (g : ℕ) (st : State) (x : ℕ) → execute_gate N renew g st ≡ refused x → (lowest is_ready 0 st.slots ≡ none) × (renew st.slots ≡ [])
    unfolding execute_gate in_lowest after_set in_ready
    refused_gate g st x e = go (lowest is_ready 0 st.slots) refl e
      where
        Goal : Type 0
        Goal = (lowest is_ready 0 st.slots ≡ none) × (renew st.slots ≡ [])

        again : (s : State) (d : ℕ) (o : Option ℕ) → o ≡ some d → in_ready N g s o ≡ refused x → ⊥
        again s d none p f = cc
        again s d (some c) p f = cc

        renewed : (l : List ℕ) → renew st.slots ≡ l → lowest is_ready 0 st.slots ≡ none → after_set N g st l ≡ refused x → Goal
        renewed [] p q f = (q, p)
        renewed (c ∷ cs) p q f =
            let (d, h) = set_ready st c cs p in
            absurd (again (set_cells N (c ∷ cs) st) d (lowest is_ready 0 (set_cells N (c ∷ cs) st).slots) h f)

        go : (o : Option ℕ) → lowest is_ready 0 st.slots ≡ o → in_lowest N renew g st o ≡ refused x → Goal
        go (some c) p f = cc
        go none p f = renewed (renew st.slots) refl p f

    pub refused_met : (gs : List ℕ) (st : State) (x : ℕ) → execute_gates N renew gs st ≡ refused x → Met gs st
    unfolding execute_gates
    refused_met [] st x e = cc
    refused_met (g ∷ gs) st x e =
        refused_bind (execute_gate N renew g st) (execute_gates N renew gs) x e
        (λ f. let (p, q) = refused_gate g st x f in
        record { before = []; gate = g; after = gs; state = st; in_order = refl; reached = refl; none_ready = p; none_named = q })
        (λ s f h. let M = refused_met gs s x h in record {
          before = g ∷ M.before;
          gate = M.gate;
          after = M.after;
          state = M.state;
          in_order = ap (λ (l : List ℕ). g ∷ l) M.in_order;
          reached = rw f M.reached;
          none_ready = M.none_ready;
          none_named = M.none_named;
        })
