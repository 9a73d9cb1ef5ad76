-- A cell for the next gate: at once, or after a set line, or none: what the rule says.
-- Assumes nothing.
use Prim.Native.Nat.{ℕ, ◌+◌, ◌<◌}
use native.Mathlib.Omega.{arith}
use mathlib.Core.Path.{◌≡◌, refl, sym, ap, ◌∙◌}
use mathlib.Core.List.{List, [], ◌∷◌, map}
use mathlib.Core.Option.{none, some}
use Rattle.std.proofs.Common.{Some, None}
use lib.ListN.{get_or, length-append}
use Rattle.rules.specs.Basics.{set_all}
use Rattle.rules.specs.Refusals.{good, refused}
use Rattle.rules.specs.Sequence.{Set}
use Rattle.rules.specs.Cells.{blank, ready, is_ready, lowest, State, place, set_cells, in_ready, after_set, in_lowest, execute_gate, all_spent}
use Rattle.rules.specs.Netlist as rules
use Rattle.rules.proofs.Laws.{no_way}
use Rattle.netlist.specs.declared.Netlist.{Netlist}
use Rattle.netlist.specs.Flat.{netlist_in}
use Rattle.mapper.specs.declared.cells.Cells.{Cells}
use Rattle.mapper.specs.Held.{hold_of, cells_of, spent_in, renewed, Renewed, Sought, Roomed, at_once, later}
use Rattle.mapper.specs.Run.{code_text}
use Rattle.mapper.proofs.Writing.{set_text}
use Rattle.mapper.proofs.Slots.{renew_slot, spent_same, renewed_slots, renewed_holds}
use Rattle.mapper.proofs.Opens.{renewed_at, kept_renewed}
use Rattle.mapper.proofs.Bounds.{texts_snoc, Bounded, Halfway, halfway_at_once, halfway_set}
use Rattle.mapper.proofs.Mirror.{Mirrors, sought_some, sought_none, sought_mirrors, inside', mirror_ready}

-- ---- the rule, by what its search finds

module _ (N : rules.Netlist) (g : ℕ) (S : State) where
  at-once : (c : ℕ) → lowest is_ready 0 S.slots ≡ some c → execute_gate N all_spent g S ≡ good (place N g c S)
  unfolding execute_gate in_lowest
  at-once c e = rw e

  -- the spent cells, and what is ready once they are set
  after_set_lem : (cs : List ℕ) → lowest is_ready 0 S.slots ≡ none → all_spent S.slots ≡ cs → execute_gate N all_spent g S ≡ after_set N g S cs
  unfolding execute_gate in_lowest
  after_set_lem cs e f = rw (e, f)

  after_some : (c : ℕ) (cs : List ℕ) → lowest is_ready 0 S.slots ≡ none → set_all ready cs S.slots ≡ map renew_slot S.slots
      → lowest is_ready 0 (map renew_slot S.slots) ≡ some c → after_set N g S cs ≡ good (place N g c (set_cells N cs S))
  unfolding after_set in_ready set_cells set_all
  after_some c [] e f h = absurd (no_way (let z : lowest is_ready 0 S.slots ≡ some c = rw f h in cc))
  after_some c (x ∷ cs) e f h = ap (in_ready N g (set_cells N (x ∷ cs) S)) (ap (lowest is_ready 0) f ∙ h)

  after_none : (cs : List ℕ) → set_all ready cs S.slots ≡ map renew_slot S.slots → lowest is_ready 0 (map renew_slot S.slots) ≡ none → after_set N g S cs ≡ refused 9
  unfolding after_set in_ready set_cells
  after_none [] f h = refl
  after_none (x ∷ cs) f h = ap (in_ready N g (set_cells N (x ∷ cs) S)) (ap (lowest is_ready 0) f ∙ h)

-- ---- a set line

set_slots : (N : rules.Netlist) (S : State) → (set_cells N (all_spent S.slots) S).slots ≡ map renew_slot S.slots
unfolding set_cells
set_slots N S = renewed_slots S.slots

set_done : (N : rules.Netlist) (S : State) (cs : List ℕ) → (set_cells N cs S).done ≡ S.done
unfolding set_cells
set_done N S cs = refl

module _ {n : Netlist} {row : ℕ} {S : State} {t u : Cells} {table left text text' : List ℕ} (w : Mirrors n row S t table left) (d : Renewed t text text' u) where
  pub set_mirrors : Mirrors n row (set_cells (netlist_in n) (all_spent S.slots) S) u table left
  unfolding set_cells
  set_mirrors = record {
    rows = d.row ∙ w.rows;
    size = w.size;
    long = d.long;
    inside = omega (arith, d.next);
    low = λ i h. absurd (omega (arith, d.next));
    cells = d.cells ∙ ap (map renewed) w.cells ∙ renewed_holds S.slots ∙ ap (map hold_of) (sym (set_slots (netlist_in n) S));
    kept = rw (renewed_slots S.slots) (kept_renewed w.kept);
    within = λ c s e. w.within c s (renewed_at S.slots c s (rw (renewed_slots S.slots) at e));
    wanted = w.wanted;
    lines = d.lines ∙ ap (λ k. k + 1) w.lines ∙ sym (length-append S.code (Set (all_spent S.slots) ∷ []));
  }

  pub set_line : text ≡ code_text S.code → text' ≡ code_text (set_cells (netlist_in n) (all_spent S.slots) S).code
  unfolding set_cells all_spent
  set_line e =
      let cs : spent_in 0 (cells_of t) ≡ all_spent S.slots = ap (spent_in 0) w.cells ∙ spent_same 0 S.slots in
      d.line ∙ rw (cs, e, texts_snoc, set_text)

-- ---- the cell found

pub record Roomy (n : Netlist) (row i : ℕ) (S : State) (r : Cells) (table left text : List ℕ) : Type 0 where
  pub S' : State
  pub mirrors : Mirrors n row S' r table left
  pub half : Halfway S' i
  pub done : S'.done ≡ S.done
  pub inside : r.next < row
  pub ready : get_or S'.slots r.next blank ≡ ready
  pub step : (g : ℕ) → execute_gate (netlist_in n) all_spent g S ≡ good (place (netlist_in n) g r.next S')
  pub text_is : text ≡ code_text S'.code

module _ {n : Netlist} {row : ℕ} {S : State} {st : Cells} {table left text text' : List ℕ} (w : Mirrors n row S st table left) where
  pub room_found : {i : ℕ} {r : Cells} → Bounded S i → text ≡ code_text S.code → Roomed st text text' (Some r) → Roomy n row i S r table left text'
  room_found {r = r} b e (at_once t p s q) =
      let f : t ≡ r = cc in
      let found : Sought st r = rw f at s in
      record {
        S' = S;
        mirrors = sought_mirrors w found;
        half = halfway_at_once b;
        done = refl;
        inside = inside' w found;
        ready = mirror_ready w found;
        step = λ g. at-once (netlist_in n) g S r.next (sought_some w found);
        text_is = q ∙ e;
      }
  room_found {r = r} b e (later u s d q) =
      let m = set_mirrors w d in
      let o : lowest is_ready 0 S.slots ≡ none = sought_none w s in
      let p : lowest is_ready 0 (map renew_slot S.slots) ≡ some r.next = ap (lowest is_ready 0) (sym (set_slots (netlist_in n) S)) ∙ sought_some m q in
      record {
        S' = set_cells (netlist_in n) (all_spent S.slots) S;
        mirrors = sought_mirrors m q;
        half = halfway_set (netlist_in n) b;
        done = set_done (netlist_in n) S (all_spent S.slots);
        inside = inside' m q;
        ready = mirror_ready m q;
        step = λ g. after_set_lem (netlist_in n) g S (all_spent S.slots) o refl ∙ after_some (netlist_in n) g S r.next (all_spent S.slots) o (renewed_slots S.slots) p;
        text_is = set_line w d e;
      }

  pub room_none : Roomed st text text' None → (g : ℕ) → execute_gate (netlist_in n) all_spent g S ≡ refused 9
  room_none (at_once r e s q) g = absurd (no_way (cc))
  room_none (later u s d q) g =
      let o : lowest is_ready 0 S.slots ≡ none = sought_none w s in
      let p : lowest is_ready 0 (map renew_slot S.slots) ≡ none = ap (lowest is_ready 0) (sym (set_slots (netlist_in n) S)) ∙ sought_none (set_mirrors w d) q in
      after_set_lem (netlist_in n) g S (all_spent S.slots) o refl ∙ after_none (netlist_in n) g S (all_spent S.slots) (renewed_slots S.slots) p
