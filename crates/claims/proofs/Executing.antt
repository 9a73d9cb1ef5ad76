-- What placing a gate and setting cells keep, executing gates keeps: for any rule of sets, and any order that runs operands first.
-- Assumes nothing.
use Rattle.std.proofs.Common.{ℕ, ◌≡◌, refl, sym, ◌∙◌, Bool, true, false, ◌||◌, List, [], ◌∷◌, ◌++◌, append-nil, append_assoc, ltb, leb, ltb-false, le-leb, get_or}
use mathlib.Core.Option.{Option, none, some}
use Rattle.rules.specs.Basics.{mem}
use Rattle.rules.specs.Refusals.{good}
use Rattle.rules.specs.Netlist.{Netlist, operands_of}
use Rattle.rules.specs.Weight.{gate_operands}
use Rattle.rules.specs.Cells.{Slot, blank, ready, is_ready, lowest, State, place, set_cells, in_ready, after_set, in_lowest, execute_gate, execute_gates}
use Rattle.rules.proofs.Laws.{bind_good, cons_more, cons_self}
use Rattle.rules.proofs.Answers.{good_same}
use Rattle.rules.proofs.Lists.{mem-keep}
use Rattle.claims.proofs.Visits.{Runs}
use Rattle.rules.proofs.Reading.{Gate}
use Rattle.claims.proofs.Whole.{gate_operands_of}
use Rattle.claims.proofs.Slots.{lowest_ready}
use Rattle.claims.proofs.Served.{present}

-- a gate that was executed went into the lowest ready cell, at once or after one set line
pub gate_cases : {P : Type 0} (N : Netlist) (renew : List Slot → List ℕ) (g : ℕ) (st st' : State) → execute_gate N renew g st ≡ good st'
    → ((c : ℕ) → lowest is_ready 0 st.slots ≡ some c → place N g c st ≡ st' → P)
    → ((d : ℕ) (ds : List ℕ) (c : ℕ) → lowest is_ready 0 st.slots ≡ none → renew st.slots ≡ d ∷ ds
    → lowest is_ready 0 (set_cells N (d ∷ ds) st).slots ≡ some c → place N g c (set_cells N (d ∷ ds) st) ≡ st' → P)
    → P
unfolding execute_gate in_lowest after_set in_ready
gate_cases {P} N renew g st st' e at_once after = go (lowest is_ready 0 st.slots) refl e
  where
    again : (d : ℕ) (ds : List ℕ) → lowest is_ready 0 st.slots ≡ none → renew st.slots ≡ d ∷ ds
        → (o : Option ℕ) → lowest is_ready 0 (set_cells N (d ∷ ds) st).slots ≡ o → in_ready N g (set_cells N (d ∷ ds) st) o ≡ good st' → P
    again d ds p q none r f = cc
    again d ds p q (some c) r f = after d ds c p q r (good_same (place N g c (set_cells N (d ∷ ds) st)) st' f)

    renewed : lowest is_ready 0 st.slots ≡ none → (l : List ℕ) → renew st.slots ≡ l → after_set N g st l ≡ good st' → P
    renewed p [] q f = cc
    renewed p (d ∷ ds) q f = again d ds p q (lowest is_ready 0 (set_cells N (d ∷ ds) st).slots) refl f

    go : (o : Option ℕ) → lowest is_ready 0 st.slots ≡ o → in_lowest N renew g st o ≡ good st' → P
    go (some c) p f = at_once c p (good_same (place N g c st) st' f)
    go none p f = renewed p (renew st.slots) refl f

-- a gate whose turn it is: not executed yet, its operands present
pub record Turn (N : Netlist) (done : List ℕ) (g : ℕ) : Type 0 where
  pub gate : Gate N g
  pub new : mem g done ≡ false
  pub had : (o : ℕ) → mem o (operands_of N g) ≡ true → present N done o ≡ true

module _ (N : Netlist) (renew : List Slot → List ℕ) (P : State → Type 0)
    (placing : (st : State) (g c : ℕ) → P st → Turn N st.done g → get_or st.slots c blank ≡ ready → P (place N g c st))
    (setting : (st : State) (c : ℕ) (cs : List ℕ) → P st → renew st.slots ≡ c ∷ cs → P (set_cells N (c ∷ cs) st)) where
  executed : (st st' : State) (g : ℕ) → P st → Turn N st.done g → execute_gate N renew g st ≡ good st' → P st' × (st'.done ≡ st.done ++ (g ∷ []))
  unfolding set_cells place
  executed st st' g I turn e =
      gate_cases N renew g st st' e
      (λ c p z. rw (← z) (placing st g c I turn (lowest_ready st.slots c p), refl))
      (λ d ds c _ q p z. rw (← z) (placing (set_cells N (d ∷ ds) st) g c (setting st d ds I q) turn (lowest_ready (set_cells N (d ∷ ds) st).slots c p), refl))

  here : (done : List ℕ) (g : ℕ) → ((o : ℕ) → mem o (gate_operands_of N g) ≡ true → mem o done ≡ true) → (o : ℕ) → mem o (operands_of N g) ≡ true
      → present N done o ≡ true
  unfolding present gate_operands
  here done g h o e = go (ltb o N.inputs) refl
    where
      go : (t : Bool) → ltb o N.inputs ≡ t → (ltb o N.inputs || mem o done) ≡ true
      go true p = rw p
      go false p = rw p (h o (mem-keep (leb N.inputs) (operands_of N g) o e (le-leb N.inputs o (ltb-false o N.inputs p))))

  pub executed_all : (l : List ℕ) (st st' : State) → P st → Runs (gate_operands_of N) st.done l → ((x : ℕ) → mem x l ≡ true → Gate N x)
      → execute_gates N renew l st ≡ good st' → P st' × (st'.done ≡ st.done ++ l)
  unfolding execute_gates Runs
  executed_all [] st st' I r k e = let z : st ≡ st' = cc in rw (← z) (I, sym (append-nil st.done))
  executed_all (g ∷ l) st st' I r k e =
      let (s₁, p, q) = bind_good (execute_gate N renew g st) (execute_gates N renew l) st' e in
      let turn : Turn N st.done g = record { gate = k g (cons_self g l); new = r.1; had = here st.done g r.0 } in
      let (J, d) = executed st s₁ g I turn p in
      let (K, z) = executed_all l s₁ st' J (rw d r.2) (λ x f. k x (cons_more x g l f)) q in
      (K, z ∙ rw (d, append_assoc))
