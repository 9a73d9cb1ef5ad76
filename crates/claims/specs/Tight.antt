-- Document 01, "How tight the contracts are": a contract determines, for all inputs including refused ones, the answer and each lent byte afterwards.
-- Assumes nothing.
use Rattle.std.specs.Prelude.{ℕ, ◌≡◌, List, Result}
use Rattle.rules.specs.declared.Refusal.{Refusal}
use Rattle.rules.specs.Refusals.{Res, meaning}
use Rattle.rules.specs.Calls.{Outcome, map_outcome, evaluate_outcome, check_outcome, simulate_outcome, tail_outcome, frame_outcome, place_outcome, rowmap_output, rowcheck_output}

-- A contract says which outcomes it allows for an input. It allows some, and any two that it allows are equal.
pub record OneOutcome {I O : Type 0} (Allows : I → O → Type 0) : Type 0 where
  pub some : (i : I) → (o : O) × Allows i o
  pub equal : (i : I) (a b : O) → Allows i a → Allows i b → a ≡ b

-- ---- what the calls are given

pub record MapInput : Type 0 where
  pub row : ℕ
  pub text : List ℕ
  pub out : List ℕ

pub record EvaluateInput : Type 0 where
  pub text : List ℕ
  pub inputs : List ℕ
  pub out : List ℕ

pub record CheckInput : Type 0 where
  pub netlist : List ℕ
  pub sequence : List ℕ

pub record SimulateInput : Type 0 where
  pub text : List ℕ
  pub row : List ℕ
  pub budget : ℕ

pub record FrameInput : Type 0 where
  pub text : List ℕ
  pub at : ℕ

-- ---- the contracts: an outcome is allowed when it is the one that document 01 gives

abbrev pub MapContract : MapInput → Outcome → Type 0
MapContract i o = o ≡ map_outcome i.row i.text i.out

abbrev pub EvaluateContract : EvaluateInput → Outcome → Type 0
EvaluateContract i o = o ≡ evaluate_outcome i.text i.inputs i.out

abbrev pub CheckContract : CheckInput → Res ℕ → Type 0
CheckContract i o = o ≡ check_outcome i.netlist i.sequence

abbrev pub SimulateContract : SimulateInput → Outcome → Type 0
SimulateContract i o = o ≡ simulate_outcome i.text i.row i.budget

abbrev pub TailContract : List ℕ → List ℕ → Type 0
TailContract text o = o ≡ tail_outcome text

abbrev pub FrameContract : FrameInput → List ℕ → Type 0
FrameContract i o = o ≡ frame_outcome i.text i.at

abbrev pub PlaceContract : FrameInput → ℕ → Type 0
PlaceContract i o = o ≡ place_outcome i.text i.at

abbrev pub RowmapContract : List ℕ → List ℕ → Type 0
RowmapContract input o = o ≡ rowmap_output input

abbrev pub RowcheckContract : List ℕ → List ℕ → Type 0
RowcheckContract input o = o ≡ rowcheck_output input

-- ---- Each public call has one outcome.
pub record Tight : Type 0 where
  pub map : OneOutcome MapContract
  pub evaluate : OneOutcome EvaluateContract
  pub check : OneOutcome CheckContract
  pub simulate : OneOutcome SimulateContract
  pub tail : OneOutcome TailContract
  pub frame : OneOutcome FrameContract
  pub place : OneOutcome PlaceContract
  pub rowmap : OneOutcome RowmapContract
  pub rowcheck : OneOutcome RowcheckContract
  -- Two answers of the code that mean the same are the same, so a contract on what an answer means settles the answer.
  pub answer : (a b : Result ℕ Refusal) → meaning a ≡ meaning b → a ≡ b
