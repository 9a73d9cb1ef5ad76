-- The mapping rule answers 9 exactly when there is no work cell or a gate is met with no cell ready and none spent.
-- Assumes nothing.
use Rattle.std.proofs.Common.{ℕ, ◌-◌, ◌<◌, ◌≤◌, arith, ◌≡◌, refl, sym, ◌∙◌, ◌⊎◌, inl, inr, Bool, true, false, List, ltb, ltb-false, le-ltb, le-leb}
use borrow.Author.Tests.{lt-leb}
use Rattle.rules.specs.Basics.{within}
use Rattle.rules.specs.Form.{Form, form01}
use Rattle.rules.specs.Refusals.{good, refused, ◌>>=◌, ◌>>◌, require}
use Rattle.rules.specs.Netlist.{Netlist, netlist_of}
use Rattle.rules.specs.Order.{order}
use Rattle.rules.specs.Cells.{State, execute_gates, all_spent, opening}
use Rattle.rules.specs.Mapping.{mapped_by, mapped, mapped_text}
use Rattle.claims.specs.NoRoom.{Stuck, NoRoomExactly, NoRoomOnly}
use Rattle.rules.proofs.Answers.{good_same, refused_bind, refused_require}
use Rattle.rules.proofs.Lists.{within_true, within_holds}
use Rattle.claims.proofs.Keeping.{all_spent_sparing}
use Rattle.claims.proofs.Room.{Met, met_refused, refused_met}
use Rattle.claims.proofs.Numbers.{netlist_refuses}
use Rattle.claims.proofs.Delivered.{nine_answered, refusal_delivered}

module _ (N : Netlist) (row : ℕ) where
  abbrev first : State
  first = opening N (row - N.inputs) row

  stuck_met : Stuck N row → Met N all_spent (order N) first
  stuck_met T = record {
    before = T.before;
    gate = T.gate;
    after = T.after;
    state = T.state;
    in_order = T.in_order;
    reached = T.reached;
    none_ready = T.none_ready;
    none_named = T.none_spent;
  }

  met_stuck : Met N all_spent (order N) first → Stuck N row
  met_stuck M = record {
    before = M.before;
    gate = M.gate;
    after = M.after;
    state = M.state;
    in_order = M.in_order;
    reached = M.reached;
    none_ready = M.none_ready;
    none_spent = M.none_named;
  }

  -- on netlists: a refusal says that there is no room, and no room is refused with 9
  no_room : (x : ℕ) → mapped N row ≡ refused x → (row ≤ N.inputs) ⊎ Stuck N row
  unfolding mapped mapped_by
  no_room x e =
      refused_require (ltb N.inputs row) 9 _ x e (λ p _. inl (ltb-false N.inputs row p))
      λ _ f. refused_bind (execute_gates N all_spent (order N) first) _ x f
      (λ p. inr (met_stuck (refused_met N all_spent all_spent_sparing (order N) first x p))) λ st _ q. cc

  nine : (row ≤ N.inputs) ⊎ Stuck N row → mapped N row ≡ refused 9
  unfolding mapped mapped_by ◌>>=◌ ◌>>◌ require
  nine (inl h) = rw (le-ltb N.inputs row h)
  nine (inr T) = go (ltb N.inputs row)
    where
      go : (t : Bool) → (require t 9 >> mapped_by N (order N) all_spent first row) ≡ refused 9
      go true = rw (met_refused N all_spent (order N) first (stuck_met T))
      go false = refl

module _ (F : Form) (row : ℕ) (text : List ℕ) where
  -- 8, netlist, 9: neither of the first two is 9
  nine_from : mapped_text F row text ≡ refused 9 → (N : Netlist) × (netlist_of F text ≡ good N) × (within 2 F.row_most row ≡ true) × (mapped N row ≡ refused 9)
  unfolding mapped_text
  nine_from e =
      refused_require (within 2 F.row_most row) 8 _ _ e (λ _ z. absurd (omega arith)) λ size a.
      refused_bind (netlist_of F text) _ _ a (λ p. let h = netlist_refuses F text _ p in absurd (omega arith)) λ N read b.
      refused_bind (mapped N row) _ _ b (λ p. (N, read, size, p)) λ S _ q. cc

  nine_text : (N : Netlist) → netlist_of F text ≡ good N → within 2 F.row_most row ≡ true → mapped N row ≡ refused 9 → mapped_text F row text ≡ refused 9
  unfolding mapped_text ◌>>=◌ ◌>>◌ require
  nine_text N p q r = rw (q, p, r)

pub no_room_exactly : NoRoomExactly
unfolding form01
no_room_exactly row text out N read h k = (
  λ e. let (M, p, _, q) = nine_from form01 row text (nine_answered row text out e) in
      let same = good_same M N (sym p ∙ read) in
      no_room N row _ (rw same at q),
  λ c. refusal_delivered row text out _ (nine_text form01 row text N read (within_holds 2 256 row h k) (nine N row c)),
)

row_refused : (row : ℕ) (text : List ℕ) → (row < 2) ⊎ (256 < row) → mapped_text form01 row text ≡ refused 8
unfolding form01 mapped_text ◌>>◌ require
row_refused row text (inl h) = rw (lt-leb 2 row h)
row_refused row text (inr h) = rw (le-leb 2 row (omega arith), lt-leb row 256 h)

pub no_room_only : NoRoomOnly
unfolding form01
no_room_only = record {
  row_outside = λ row text out h. refusal_delivered row text out _ (row_refused row text h);
  netlist_refused = λ row text out x h k p.
      let w = netlist_refuses form01 text x p in
      (refusal_delivered row text out x (reader_refused row text x h k p), w.0, w.1);
  only = λ row text out e.
      let (N, p, size, _) = nine_from form01 row text (nine_answered row text out e) in
      let w = within_true 2 256 row size in
      (N, p, w.0, w.1);
}
  where
    reader_refused : (row : ℕ) (text : List ℕ) (x : ℕ) → 2 ≤ row → row ≤ 256 → netlist_of form01 text ≡ refused x → mapped_text form01 row text ≡ refused x
    reader_refused row text x h k p = unfold mapped_text ◌>>=◌ ◌>>◌ require in rw (le-leb 2 row h, le-leb row 256 k, p)
