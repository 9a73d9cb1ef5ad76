-- The wrong programs break the demands at the exclusive or of document 01.
use Rattle.std.proofs.Common.{ℕ, arith, ◌≡◌, refl, sym, ap, ◌∙◌, Bool, true, false, List, [], ◌∷◌, eqb, get_or, length, take, replicate}
use Rattle.rules.specs.Form.{form01}
use Rattle.rules.specs.Refusals.{Res, good, refused}
use Rattle.rules.specs.Netlist.{Netlist, netlist_of}
use Rattle.rules.specs.Sequence.{Sequence, sequence_of}
use Rattle.rules.specs.Values.{are_bits}
use Rattle.rules.specs.Calls.{Outcome, map_outcome, evaluate_outcome, check_outcome, simulate_outcome}
use Rattle.rules.specs.Texts.{xor_netlist, xor_sequence}
use Rattle.rules.proofs.Bench.{wrong_place}
use Rattle.claims.specs.Shapes.{EvaluateCall, SimulateCall}
use Rattle.claims.specs.Defended.{Honoured}
use Rattle.claims.specs.Wrong.{answers_nine, passes_all, refuses_all, gives_zero, leaves_row, at_once, reports_budget}
use Rattle.claims.specs.ShutOut.{OursMeet, ShutOutBy2, ShutOutBy3, ShutOut}
use Rattle.claims.proofs.Defended.{defended}
use Rattle.claims.proofs.MappedPasses.{mapped_passes}

pub ours_meet : OursMeet
ours_meet = record {
  demand2 = record { map = λ row text out. refl; evaluate = λ text inputs out. refl; check = λ netlist sequence. refl; simulate = λ text row budget. refl };
  demand3 = record {
    defended = defended;
    mapped_pass = λ row text out n e. let p = mapped_passes row text out n e in (length p.0.instructions, p.2);
  };
}

-- ---- witnesses, by computing

-- a buffer that the mapped text just fills
abbrev buffer : List ℕ
buffer = replicate 82 0

abbrev row : List ℕ
row = 1 ∷ 0 ∷ 0 ∷ 0 ∷ 0 ∷ []

-- a test tells two outcomes apart
differ : {A : Type 0} (test : A → Bool) (a b : A) → test a ≡ false → test b ≡ true → a ≡ b → ⊥
differ test a b p q e = cc (ap test e)

-- it is no refusal
passed : Res ℕ → Bool
passed (good n) = true
passed (refused r) = false

-- so many cycles were run
ran : ℕ → Outcome → Bool
ran n o = says o.answer
  where
    says : Res ℕ → Bool
    says (good m) = eqb m n
    says (refused r) = false

-- a byte or a cell is 1 afterwards
at : ℕ → Outcome → Bool
at c o = eqb (get_or o.lent c 0) 1

-- ---- demand 2

pub by2 : ShutOutBy2
unfolding answers_nine passes_all refuses_all gives_zero leaves_row at_once reports_budget map_outcome check_outcome evaluate_outcome simulate_outcome xor_netlist xor_sequence
    passed ran at
by2 = record {
  answers-nine = λ d. differ (λ o. passed o.answer) _ _ refl refl (d.map 5 xor_netlist buffer);
  passes-all = λ counts d. differ passed _ _ refl refl (sym (d.check xor_netlist []));
  refuses-all = λ numbers d. differ passed _ _ refl refl (d.check xor_netlist xor_sequence);
  gives-zero = λ d. differ (at 0) _ _ refl refl (d.evaluate xor_netlist (0 ∷ 1 ∷ []) (9 ∷ []));
  leaves-row = λ d. differ (at 3) _ _ refl refl (d.simulate xor_sequence row 9);
  at-once = λ d. differ (at 3) _ _ refl refl (sym (d.simulate xor_sequence row 4));
  reports-budget = λ d. differ (ran 8) _ _ refl refl (d.simulate xor_sequence row 9);
}

-- ---- demand 3

-- a number of what was read, 0 where it was not
of : {A : Type 0} → (A → ℕ) → Res A → ℕ
of f (good a) = f a
of f (refused r) = 0

reads_as : {A : Type 0} (f : A → ℕ) (r : Res A) (a : A) → r ≡ good a → of f r ≡ f a
unfolding of
reads_as f r a e = ap (of f) e

abbrev place : Sequence → ℕ
place S = get_or S.places 0 0

-- an honoured run of a sequence for the exclusive or leaves in its place what evaluate gives
module _ (simulate : SimulateCall) (evaluate : EvaluateCall)
    (text : List ℕ) (n : ℕ) (h : Honoured simulate evaluate xor_netlist text n) where
  honoured_output : of (λ S. S.row) (sequence_of form01 text) ≡ 5
      → get_or (simulate text row n).lent (of place (sequence_of form01 text)) 0 ≡ get_or (evaluate xor_netlist (take 2 row) (0 ∷ [])).lent 0 0
  unfolding of netlist_of form01 xor_netlist are_bits
  honoured_output five =
      let row_is : h.S.row ≡ 5 = sym (reads_as (λ (S : Sequence). S.row) (sequence_of form01 text) h.S h.reads_sequence) ∙ five in
      let placeIs = reads_as place (sequence_of form01 text) h.S h.reads_sequence in
      let inputs : 2 ≡ h.N.inputs = reads_as (λ (N : Netlist). N.inputs) (netlist_of form01 xor_netlist) h.N h.reads_netlist in
      let outputs : 1 ≡ length h.N.outputs = reads_as (λ (N : Netlist). length N.outputs) (netlist_of form01 xor_netlist) h.N h.reads_netlist in
      ap (λ (c : ℕ). get_or (simulate text row n).lent c 0) placeIs
      ∙ ((h.runs row n (rw row_is refl) (omega arith)).outputs (0 ∷ []) (omega arith) 0 (omega arith)).1
      ∙ ap (λ (k : ℕ). get_or (evaluate xor_netlist (take k row) (0 ∷ [])).lent 0 0) (sym inputs)

pub by3 : ShutOutBy3
unfolding passes_all refuses_all leaves_row map_outcome check_outcome evaluate_outcome simulate_outcome xor_netlist xor_sequence wrong_place of passed
by3 = record {
  passes-all = λ counts d.
      let n = counts xor_netlist wrong_place in
      let h = d.defended xor_netlist wrong_place n refl in
      let eight : 8 ≡ n = reads_as (λ (S : Sequence). length S.instructions) (sequence_of form01 wrong_place) h.S h.reads_sequence ∙ sym h.counts in
      let clash : ◌≡◌ {A = ℕ} 0 1 =
      ap (λ (k : ℕ). get_or (simulate_outcome wrong_place row k).lent 2 0) eight ∙ honoured_output simulate_outcome evaluate_outcome wrong_place n h refl in
      cc;
  refuses-all = λ numbers d. let p = d.mapped_pass 5 xor_netlist buffer 82 refl in differ passed _ _ refl refl p.1;
  leaves-row = λ d.
      let clash : ◌≡◌ {A = ℕ} 0 1 = honoured_output leaves_row evaluate_outcome xor_sequence 8 (d.defended xor_netlist xor_sequence 8 refl) refl in
      cc;
}

pub shut_out : ShutOut
shut_out = record { by2 = by2; by3 = by3 }
