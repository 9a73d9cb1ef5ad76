-- Each public call has one outcome.
use Rattle.std.proofs.Common.{ℕ, [], ◌∷◌, get_or, Result, Ok, Err, ◌≡◌, refl, sym, ap, ◌∙◌}
use Rattle.rules.specs.declared.Refusal.{Refusal}
use Rattle.rules.specs.declared.Refusal.TheVariants.{BadLine, WrongFrame, HeadNumber, WrongSignal, NotAscending, Unused, Twins, RowSize, NoRoom, ShortBuffer, HeadsDisagree, PastRow, InputWritten, NotReady, NoGate, Misplaced, NotBits}
use Rattle.rules.specs.Refusals.{number_of, meaning}
use Rattle.rules.proofs.Answers.{refused_same}
use Rattle.rules.specs.Calls.{map_outcome, evaluate_outcome, check_outcome, simulate_outcome, tail_outcome, frame_outcome, place_outcome, rowmap_output, rowcheck_output}
use Rattle.claims.specs.Tight.{OneOutcome, Tight}

-- a contract that is an equation with a definition has one outcome
settled : {I O : Type 0} (f : I → O) → OneOutcome (λ i o. o ≡ f i)
settled f = record { some = λ i. (f i, refl); equal = λ i a b p q. p ∙ sym q }

-- the refusal that has a number, so that no two have the same
numbered : ℕ → Refusal
numbered n =
    get_or (BadLine ∷ BadLine ∷ WrongFrame ∷ HeadNumber ∷ WrongSignal ∷ NotAscending ∷ Unused ∷ Twins ∷ RowSize ∷ NoRoom ∷ ShortBuffer ∷ HeadsDisagree ∷ PastRow
    ∷ InputWritten ∷ NotReady ∷ NoGate ∷ Misplaced ∷ []) n NotBits

numbered_back : (r : Refusal) → numbered (number_of r) ≡ r
unfolding numbered
numbered_back BadLine = refl
numbered_back WrongFrame = refl
numbered_back HeadNumber = refl
numbered_back WrongSignal = refl
numbered_back NotAscending = refl
numbered_back Unused = refl
numbered_back Twins = refl
numbered_back RowSize = refl
numbered_back NoRoom = refl
numbered_back ShortBuffer = refl
numbered_back HeadsDisagree = refl
numbered_back PastRow = refl
numbered_back InputWritten = refl
numbered_back NotReady = refl
numbered_back NoGate = refl
numbered_back Misplaced = refl
numbered_back NotBits = refl

same_refusal : (q r : Refusal) → number_of q ≡ number_of r → q ≡ r
same_refusal q r e = sym (numbered_back q) ∙ ap numbered e ∙ numbered_back r

same_answer : (a b : Result ℕ Refusal) → meaning a ≡ meaning b → a ≡ b
same_answer (Ok m) (Ok n) e = cc
same_answer (Ok m) (Err r) e = cc
same_answer (Err q) (Ok n) e = cc
same_answer (Err q) (Err r) e = ap Err (same_refusal q r (refused_same ℕ (number_of q) (number_of r) e))

pub tight : Tight
tight = record {
  map = settled (λ i. map_outcome i.row i.text i.out);
  evaluate = settled (λ i. evaluate_outcome i.text i.inputs i.out);
  check = settled (λ i. check_outcome i.netlist i.sequence);
  simulate = settled (λ i. simulate_outcome i.text i.row i.budget);
  tail = settled tail_outcome;
  frame = settled (λ i. frame_outcome i.text i.at);
  place = settled (λ i. place_outcome i.text i.at);
  rowmap = settled rowmap_output;
  rowcheck = settled rowcheck_output;
  answer = same_answer;
}
